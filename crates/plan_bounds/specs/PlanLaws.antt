-- What holds of a lowered plan because its expressions are strict.
use Rattle.std.specs.Prelude.{◌≡◌, false}
use Rattle.plan_dsl.specs.Counts.{cast_count}
use Rattle.plan_dsl.specs.Plans.{Plan}
use Rattle.plan_dsl.specs.Registry.{Registry}
use Rattle.plan_arena.specs.Runs.{IsStrictPlan}
use Rattle.plan_bounds.specs.PlanCounts.{plan_needs}

-- it needs no casts but those that it has
abbrev pub StrictPlansHaveNeededCasts : Type 0
StrictPlansHaveNeededCasts = (registry : Registry) (plan : Plan) → IsStrictPlan registry plan → plan_needs false registry plan ≡ cast_count plan
