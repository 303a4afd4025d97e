use Rattle.std.proofs.Common.{refl, inr}
use Rattle.plan_coerce.proofs.examples.inlining.what_is_found_under_casts.Goals as goal

pub returns-clause-itself : goal.returns-clause-itself
returns-clause-itself c = (refl, refl)

pub returns-clause-below : goal.returns-clause-below
returns-clause-below c = inr (2, refl, (refl, refl))
