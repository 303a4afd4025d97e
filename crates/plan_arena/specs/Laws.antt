-- Laws of lowered plans.
use Rattle.std.specs.Prelude.{◌≡◌, ℕ, List}
use Rattle.plan_types.specs.Frames.{Frame}
use Rattle.plan_dsl.specs.Registry.{Registry}
use Rattle.plan_dsl.specs.Ops.{Expression}
use Rattle.plan_dsl.specs.Plans.{Plan}
use Rattle.plan_dsl.specs.PlanMeaning.{FitsPlan}
use Rattle.plan_arena.specs.declared.aexpr.AExpr.{AExpr}
use Rattle.plan_arena.specs.declared.ir.IR.{IR}
use Rattle.plan_arena.specs.declared.plan.IRPlan.{IRPlan}
use Rattle.plan_arena.specs.Denotation.{Denotes}
use Rattle.plan_arena.specs.Items.{HoldsExpression, HoldsPlan, Grows, DenotesPlan}
use Rattle.plan_arena.specs.Runs.{IsAccepted, IsStrictPlan, RunsSoundly}

-- an accepted and strict plan is nowhere stuck on fitting tables, and each frame has its node's own schema
abbrev pub AcceptedRunsSoundly : Type 0
AcceptedRunsSoundly = (registry : Registry) (tables : List Frame) (plan : Plan) → IsAccepted registry plan → IsStrictPlan registry plan → FitsPlan tables plan → RunsSoundly registry tables plan

-- a lowered plan's top denotes one plan
abbrev pub DenotesOnePlan : Type 0
DenotesOnePlan = (lowering : IRPlan) (plan other : Plan) → DenotesPlan lowering plan → DenotesPlan lowering other → plan ≡ other

-- an arena of expressions that grows keeps the tree of each node
abbrev pub ExpressionsStay : Type 0
ExpressionsStay = (old new : List AExpr) → Grows old new → (n : ℕ) (tree : Expression) → Denotes (HoldsExpression old) n tree → Denotes (HoldsExpression new) n tree

-- arenas that grow keep the plan of each node
abbrev pub PlansStay : Type 0
PlansStay = (old new : List AExpr) (before after : List IR) → Grows old new → Grows before after → (n : ℕ) (plan : Plan) → Denotes (HoldsPlan old before) n plan → Denotes (HoldsPlan new after) n plan
