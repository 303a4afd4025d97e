use Rattle.std.proofs.Common.{sym, ◌∙◌}
use Rattle.std.proofs.lemmas.Bool.{false≢true}
use Rattle.plan_coerce.proofs.cast_inlining.both_strict.Goals as goal

pub returns-then-not-keeps_strict : goal.returns-then-not-keeps_strict
returns-then-not-keeps_strict c = (λ told. absurd (false≢true told), λ both. absurd (false≢true (sym c.if-not-keeps_strict.true ∙ c.keeps_strict.ensures.1 both.0)))

pub returns : goal.returns
returns c = (λ told. (c.keeps_strict.ensures.0 c.if-not-keeps_strict.false, c.keeps_strict-2.ensures.0 told), λ both. c.keeps_strict-2.ensures.1 both.1)
