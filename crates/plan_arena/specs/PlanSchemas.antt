-- Schemas of nodes of a lowered plan: what goes into one, and what is kept by node.
use Rattle.std.specs.Prelude.{◌≡◌, ℕ, List, map, Option, Some, None, IfSome, slice_get}
use Rattle.std.specs.BTreeMap.{BTreeMap, get}
use Rattle.plan_types.specs.Schemas.{Columns, columns}
use Rattle.plan_types.specs.declared.schema.Schema.{Schema}
use Rattle.plan_dsl.specs.Registry.{Registry}
use Rattle.plan_dsl.specs.Trees.{Trees, no_more, more}
use Rattle.plan_dsl.specs.Ops.{Expression}
use Rattle.plan_dsl.specs.Plans.{Named, PlanKind, ScanKind, PlanOp, Plan}
use Rattle.plan_dsl.specs.PlanRules.{schema_of}
use Rattle.plan_arena.specs.declared.aexpr.AExpr.{AExpr}
use Rattle.plan_arena.specs.declared.arena.Node.{Node}
use Rattle.plan_arena.specs.declared.ir.IR.{IR}
use Rattle.plan_arena.specs.contracts.arena.NodeOrd.TheImpl as node_order
use Rattle.plan_arena.specs.Denotation.{Denotes, DenotesTree}
use Rattle.plan_arena.specs.Layers.{Layer, op_of}
use Rattle.plan_arena.specs.Items.{HoldsPlan, plan_layer}
use Rattle.plan_arena.specs.Runs.{IsAccepted}

-- a scan's own schema, which no other kind has
abbrev pub scanned : {E : Type 0} → PlanKind E → Option Columns
scanned (ScanKind table schema) = Some schema
scanned kind = None

-- the schema that goes into a node, by those of plans: that of its first input, or a scan's own
abbrev pub into_by : (Plan → Option Columns) → PlanKind (Named Expression) → Trees (PlanOp (Named Expression)) → Option Columns
into_by schema kind (more first rest) = schema first
into_by schema kind no_more = scanned kind

-- by the rules
abbrev pub schema_into : Registry → PlanKind (Named Expression) → Trees (PlanOp (Named Expression)) → Option Columns
schema_into registry = into_by (schema_of registry)

-- the node denotes a plan, with some arena of expressions
pub record DenotesSomePlan (plans : List IR) (n : ℕ) : Type 0 where
  pub expressions : List AExpr
  pub tree : DenotesTree (HoldsPlan expressions plans) n

-- the schema of the node's frame: the one that its item records, and of a plan that is accepted the one that the rules give
pub record IsSchemaAt (plans : List IR) (n : ℕ) (schema : Columns) : Type 0 where
  pub recorded : (item : Layer (PlanOp (Named ℕ))) → slice_get (map plan_layer plans) n ≡ Some item → IfSome (op_of item).recorded (λ own. schema ≡ own)
  pub rule : (expressions : List AExpr) (registry : Registry) (plan : Plan) → Denotes (HoldsPlan expressions plans) n plan → IsAccepted registry plan → schema_of registry plan ≡ Some schema

-- what a cache keeps of a node
abbrev pub cached_at : BTreeMap Node Schema → Node → Option Schema
cached_at cache n = get (node_order.ghosts).cmp cache n

-- each schema that a cache keeps is such a one of its node
pub record KeepsEach (Is : ℕ → Columns → Type 0) (cache : BTreeMap Node Schema) : Type 0 where
  pub each : (n : Node) (schema : Schema) → cached_at cache n ≡ Some schema → Is n.0 (columns schema)

-- that of its node
abbrev pub IsRightCache : List IR → BTreeMap Node Schema → Type 0
IsRightCache plans = KeepsEach (IsSchemaAt plans)
