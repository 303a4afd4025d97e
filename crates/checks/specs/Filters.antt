-- Lowered plans over which a filter is put.
use Rattle.plan_dsl.specs.Plans.{Plan}
use Rattle.plan_dsl.specs.Registry.{Registry}
use Rattle.plan_arena.specs.declared.plan.IRPlan.{IRPlan}
use Rattle.plan_arena.specs.Items.{DenotesPlan}
use Rattle.plan_arena.specs.Runs.{IsAccepted}

-- the top denotes an accepted plan
pub record HasAcceptedTop (registry : Registry) (lowering : IRPlan) : Type 0 where
  pub tree : Plan
  pub denotes : DenotesPlan lowering tree
  pub accepted : IsAccepted registry tree
