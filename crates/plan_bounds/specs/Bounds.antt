-- Bounds on what lowering adds to a plan.
use Rattle.std.specs.Prelude.{◌≤◌, true, false}
use Rattle.plan_dsl.specs.Counts.{cast_count}
use Rattle.plan_dsl.specs.Plans.{Plan}
use Rattle.plan_dsl.specs.Registry.{Registry}
use Rattle.plan_bounds.specs.PlanCounts.{plan_needs, plan_idle, plan_most, plan_size}

-- a lowered plan has no more casts than the query's plan needs with its horizontals written out, no more of them to the type
-- that is there than that has then, and no more nodes
pub record IsBounded (registry : Registry) (source lowered : Plan) : Type 0 where
  pub casts : cast_count lowered ≤ plan_needs true registry source
  pub idle : plan_idle false registry lowered ≤ plan_idle true registry source
  pub size : plan_size lowered ≤ plan_most registry source
