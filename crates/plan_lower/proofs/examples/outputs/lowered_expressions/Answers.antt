use Rattle.std.proofs.Common.{refl}
use Rattle.plan_lower.proofs.examples.outputs.lowered_expressions.Goals as goal

pub returns-clause-sum : goal.returns-clause-sum
returns-clause-sum c = record { typed = refl; same = record { typing = refl; name = refl; meaning = λ rows. refl }; strict = refl; casts = refl; names = (tt, ((tt, ((tt, tt), tt)), ((tt, tt), tt))); wide = refl }
