-- Plans whose predicates' types aren't checked.
-- A filter over an input that has a schema counts as giving it, whatever the type of its predicate. Every other rule is kept.
use Rattle.std.specs.Prelude.{◌≡◌, ℕ, List, [], ◌∷◌, ◌++◌, map, Option, Some}
use Rattle.std.specs.BTreeMap.{BTreeMap}
use Rattle.plan_types.specs.Schemas.{Columns}
use Rattle.plan_types.specs.declared.schema.Schema.{Schema}
use Rattle.plan_types.specs.declared.error.ErrorKind.{ErrorKind}
use Rattle.plan_dsl.specs.Registry.{Registry}
use Rattle.plan_dsl.specs.Ops.{Expression}
use Rattle.plan_dsl.specs.Trees.{Trees, node, no_more, more, fold}
use Rattle.plan_dsl.specs.Plans.{Named, PlanKind, OverKind, PlanOp, Plan, expressions_of}
use Rattle.plan_dsl.specs.PlanRules.{expression_kinds, names_in, work_kinds, own_kinds, schema_by, where_unbroken}
use Rattle.plan_arena.specs.declared.aexpr.AExpr.{AExpr}
use Rattle.plan_arena.specs.declared.arena.Node.{Node}
use Rattle.plan_arena.specs.declared.ir.IR.{IR}
use Rattle.plan_arena.specs.Denotation.{Denotes}
use Rattle.plan_arena.specs.Items.{HoldsPlan}
use Rattle.plan_arena.specs.PlanSchemas.{into_by, scanned, KeepsEach}
use Rattle.plan_arena.specs.Runs.{HasRecorded}

-- the kinds that a node breaks besides those of its expressions, those of types aside
abbrev pub unchecked_own_kinds : Registry → PlanKind (Named Expression) → List (Option Columns) → List ErrorKind
unchecked_own_kinds registry (OverKind work lists) (Some schema ∷ []) = work_kinds work schema (map names_in lists)
unchecked_own_kinds registry kind inputs = own_kinds registry kind inputs

-- all of them
abbrev pub unchecked_kinds : Registry → PlanOp (Named Expression) → List (Option Columns) → List ErrorKind
unchecked_kinds registry op inputs = expression_kinds registry inputs (expressions_of op.kind) ++ unchecked_own_kinds registry op.kind inputs

-- a node's schema, from those of its inputs
abbrev pub unchecked_rule : Registry → PlanOp (Named Expression) → List (Option Columns) → Option Columns
unchecked_rule registry op inputs = where_unbroken (unchecked_kinds registry op inputs) (schema_by registry op.kind inputs)

abbrev pub unchecked_schema : Registry → Plan → Option Columns
unchecked_schema registry plan = fold (unchecked_rule registry) plan

abbrev mutual
  -- each node keeps every rule, that on a predicate's type aside, and a schema that is recorded is the one that it has
  pub KeepsOtherRules : Registry → Plan → Type 0
  KeepsOtherRules registry (node op inputs) = HasRecorded op.recorded (unchecked_schema registry (node op inputs)) × AllKeepOtherRules registry inputs

  pub AllKeepOtherRules : Registry → Trees (PlanOp (Named Expression)) → Type 0
  AllKeepOtherRules registry no_more = Unit {0}
  AllKeepOtherRules registry (more plan rest) = KeepsOtherRules registry plan × AllKeepOtherRules registry rest

-- the schema that goes into a node over such plans
abbrev pub unchecked_into : Registry → PlanKind (Named Expression) → Trees (PlanOp (Named Expression)) → Option Columns
unchecked_into registry = into_by (unchecked_schema registry)

-- the schema is that of whatever such plan the node denotes, with any arena of expressions
abbrev pub IsUncheckedAt : List IR → ℕ → Columns → Type 0
IsUncheckedAt plans n schema = (expressions : List AExpr) (registry : Registry) (plan : Plan) → Denotes (HoldsPlan expressions plans) n plan → KeepsOtherRules registry plan → unchecked_schema registry plan ≡ Some schema

-- so is each schema that a cache keeps
abbrev pub KeepsUnchecked : List IR → BTreeMap Node Schema → Type 0
KeepsUnchecked plans = KeepsEach (IsUncheckedAt plans)

-- with some arena of expressions the node denotes such a plan, of that schema
pub record HasUncheckedSchema (registry : Registry) (plans : List IR) (n : ℕ) (schema : Columns) : Type 0 where
  pub expressions : List AExpr
  pub plan : Plan
  pub denotes : Denotes (HoldsPlan expressions plans) n plan
  pub keeps : KeepsOtherRules registry plan
  pub is : unchecked_schema registry plan ≡ Some schema

-- the schema that goes into a node of that kind over these inputs: that of the first of them, or a scan's own
abbrev pub GoesInto : Registry → List IR → PlanKind (Named Expression) → List ℕ → Columns → Type 0
GoesInto registry plans kind [] schema = scanned kind ≡ Some schema
GoesInto registry plans kind (first ∷ rest) schema = HasUncheckedSchema registry plans first schema
