use Rattle.plan_coerce.proofs.uncounted.coerce_uncounted.Given as goal

abbrev pub ghosts-coerce_by-M-Ledger : goal.ghosts-coerce_by-M-Ledger
ghosts-coerce_by-M-Ledger g a = record { name = a.typings.name; parts = a.typings.parts }

abbrev pub ghosts-coerce_by-L-Ledger : goal.ghosts-coerce_by-L-Ledger
ghosts-coerce_by-L-Ledger g a = record { name = a.steps.name; parts = a.steps.parts }
