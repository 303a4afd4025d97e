use Rattle.checks.proofs.checked_filters.answer.Given as goal

abbrev pub ghosts-answer_by-M-Ledger : goal.ghosts-answer_by-M-Ledger
ghosts-answer_by-M-Ledger g a = record { name = a.typings.name; parts = a.typings.parts }

abbrev pub ghosts-answer_by-L-Ledger : goal.ghosts-answer_by-L-Ledger
ghosts-answer_by-L-Ledger g a = record { name = a.steps.name; parts = a.steps.parts }
