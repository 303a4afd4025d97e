use Rattle.std.proofs.Common.{[], ◌∷◌, refl}
use Rattle.plan_dsl.specs.Plans.{named}
use Rattle.plan_dsl.specs.Samples.{a, b}
use Rattle.plan_arena.specs.Samples.{strict_sum}
use Rattle.plan_arena.proofs.examples.nodes.kinds_of_plans.Goals as goal

pub returns-clause-select : goal.returns-clause-select
returns-clause-select c = (
  (named strict_sum ∷ named b ∷ []) ∷ [],
  refl,
  ((refl, (2 ∷ 1 ∷ [], refl, ((0 ∷ [], refl, (([], refl, tt), tt)), (([], refl, tt), tt))), (refl, ([], refl, tt), tt)), tt),
)

pub returns-clause-group_by : goal.returns-clause-group_by
returns-clause-group_by c = ((named b ∷ []) ∷ (named a ∷ []) ∷ [], refl, ((refl, ([], refl, tt), tt), ((refl, ([], refl, tt), tt), tt)))

pub returns-clause-filter : goal.returns-clause-filter
returns-clause-filter c = ((named a ∷ []) ∷ [], refl, ((refl, ([], refl, tt), tt), tt))
