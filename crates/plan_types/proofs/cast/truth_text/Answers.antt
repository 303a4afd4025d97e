use Rattle.plan_types.proofs.DigitLemmas.{true_characters, false_characters}
use Rattle.plan_types.proofs.cast.truth_text.Goals as goal

pub returns-then-truth-clause-ok : goal.returns-then-truth-clause-ok
returns-then-truth-clause-ok c = rw (c.if-truth.true, ← true_characters) c.new.ensures.ok

pub returns-else-truth-clause-ok : goal.returns-else-truth-clause-ok
returns-else-truth-clause-ok c = rw (c.if-truth.false, ← false_characters) c.new-else-truth.ensures.ok
