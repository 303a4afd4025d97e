-- Schemas as the nodes of a lowered plan record them, whether or not the plan is accepted.
use Rattle.std.specs.Prelude.{◌≡◌, ℕ, List, Option, Some}
use Rattle.std.specs.BTreeMap.{BTreeMap}
use Rattle.plan_types.specs.Schemas.{Columns}
use Rattle.plan_types.specs.declared.schema.Schema.{Schema}
use Rattle.plan_dsl.specs.Trees.{Trees, fold}
use Rattle.plan_dsl.specs.Ops.{Expression}
use Rattle.plan_dsl.specs.Plans.{Named, PlanKind, PlanOp, Plan}
use Rattle.plan_dsl.specs.PlanRules.{input_schema}
use Rattle.plan_arena.specs.declared.aexpr.AExpr.{AExpr}
use Rattle.plan_arena.specs.declared.arena.Node.{Node}
use Rattle.plan_arena.specs.declared.ir.IR.{IR}
use Rattle.plan_arena.specs.Denotation.{Denotes}
use Rattle.plan_arena.specs.Items.{HoldsPlan}
use Rattle.plan_arena.specs.PlanSchemas.{into_by, KeepsEach}
use Rattle.plan_arena.specs.Runs.{own_schema}

-- the schema that is recorded of a plan's frame: at its top, or else where it is recorded of the first input's
abbrev pub recorded_over : PlanOp (Named Expression) → List (Option Columns) → Option Columns
recorded_over op below = own_schema op.recorded (input_schema below 0)

abbrev pub schema_recorded : Plan → Option Columns
schema_recorded plan = fold recorded_over plan

-- and of what goes into a node
abbrev pub recorded_into : PlanKind (Named Expression) → Trees (PlanOp (Named Expression)) → Option Columns
recorded_into = into_by schema_recorded

-- it is the one that is recorded of whatever plan the node denotes
abbrev pub IsRecordedAt : List IR → ℕ → Columns → Type 0
IsRecordedAt plans n schema = (expressions : List AExpr) (plan : Plan) → Denotes (HoldsPlan expressions plans) n plan → schema_recorded plan ≡ Some schema

-- so is each schema that a cache keeps
abbrev pub KeepsRecorded : List IR → BTreeMap Node Schema → Type 0
KeepsRecorded plans = KeepsEach (IsRecordedAt plans)
