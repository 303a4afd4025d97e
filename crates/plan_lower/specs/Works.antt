-- A node over one input, whatever it does: when a lowered node is the one that a query has, and why one isn't lowered.
use Rattle.std.specs.Prelude.{◌≡◌, ℕ, List, [], ◌∷◌, map, Option, Some, None, Bool, true, false, Ok, slice_get, if◌then◌else◌}
use Rattle.std.specs.List.{AllByRecursion, Contains, flat_map}
use Rattle.plan_types.specs.Errors.{no_memory, at_top}
use Rattle.plan_types.specs.Schemas.{Name, Columns}
use Rattle.plan_types.specs.declared.error.ErrorKind.{ErrorKind}
use Rattle.plan_types.specs.declared.error.PlanError.{PlanError}
use Rattle.plan_dsl.specs.Names.{name_of}
use Rattle.plan_dsl.specs.Ops.{Expression}
use Rattle.plan_dsl.specs.PlanKernels.{gives_nothing}
use Rattle.plan_dsl.specs.PlanRules.{TypedOutput, broken_kinds, keeps_schema, type_kinds, work_kinds, work_schema}
use Rattle.plan_dsl.specs.Plans.{Named, OverKind, PassWork, PlanOp, SamePass, Work, named, over_op}
use Rattle.plan_dsl.specs.Registry.{Registry}
use Rattle.plan_dsl.specs.Resolving.{expanded_lists, expanded_over, resolved_work}
use Rattle.plan_dsl.specs.Sources.{Source}
use Rattle.plan_arena.specs.declared.aexpr.AExpr.{AExpr}
use Rattle.plan_arena.specs.declared.ir.IR.{IR}
use Rattle.plan_arena.specs.Items.{DenoteLists, plan_layer}
use Rattle.plan_arena.specs.Layers.{Layer, layer}
use Rattle.plan_expand.specs.Refusals.{IsUnexpanded}
use Rattle.plan_properties.specs.Splitting.{IsWhole}
use Rattle.plan_lower.specs.Lowering.{IsEmptyTableAt}
use Rattle.plan_lower.specs.Outputs.{IsLowered, Lowered, lowered_named}

-- lists of expressions, those of the query and those that stand for them, their names, and their types
abbrev pub source_lists : List (List Lowered) → List (List (Named Expression))
source_lists lists = map (map (λ output. named output.tree)) lists

abbrev pub lowered_lists : List (List Lowered) → List (List (Named Expression))
lowered_lists lists = map (map lowered_named) lists

abbrev pub lowered_names : List Lowered → List Name
lowered_names outputs = map (λ output. name_of output.tree) outputs

abbrev pub lowered_output : Lowered → TypedOutput
lowered_output output = record { name = name_of output.tree; typed = output.typed }

-- lists of lowered expressions, over an input of the schema, of which a node breaks no rule
pub record AreUnbroken (registry : Registry) (schema : Columns) (work : Work) (lists : List (List Lowered)) : Type 0 where
  pub each : AllByRecursion (AllByRecursion (IsLowered registry schema)) lists
  pub types : flat_map (flat_map (λ output. type_kinds work output.typed)) lists ≡ []
  pub kinds : work_kinds work schema (map lowered_names lists) ≡ []

-- the schema that it has
abbrev pub unbroken_schema : Work → Columns → List (List Lowered) → Columns
unbroken_schema work schema lists = work_schema work schema (map (map lowered_output) lists)

-- whether it is nothing at all, so that the input's node stands for it
abbrev pub is_same : Work → Bool
is_same (PassWork SamePass) = true
is_same work = false

-- the node is this item, or where nothing is done the input
abbrev pub IsItemAt : Work → List IR → ℕ → ℕ → Layer (PlanOp (Named ℕ)) → Type 0
IsItemAt (PassWork SamePass) plans n input item = n ≡ input
IsItemAt work plans n input item = slice_get (map plan_layer plans) n ≡ Some item

-- what is recorded of a schema: none where it is the input's
abbrev pub recorded_of : Work → Columns → Option Columns
recorded_of work columns = if keeps_schema work then None else Some columns

-- The node does the work over what stands for the source expressions, which are expanded over the schema of its input, or
-- where nothing is given over the empty table. Its frame has the columns.
pub record IsWorkAt (registry : Registry) (schema : Columns) (expressions : List AExpr) (plans : List IR) (n input : ℕ) (work : Work) (lists : List (List Source)) (columns : Columns) : Type 0 where
  pub trees : List (List Expression)
  pub expanded : expanded_lists schema work lists ≡ Ok trees
  pub own : Work
  pub resolved : resolved_work schema work lists ≡ Ok own
  pub outputs : List (List Lowered)
  pub trees_are : map (map (λ output. output.tree)) outputs ≡ trees
  pub unbroken : AreUnbroken registry schema own outputs
  pub whole : IsWhole (OverKind own (lowered_lists outputs))
  pub columns_are : columns ≡ unbroken_schema own schema outputs
  pub nodes : List (List (Named ℕ))
  pub denote : DenoteLists expressions nodes (lowered_lists outputs)
  pub below : ℕ
  pub nothing : gives_nothing own (map lowered_names outputs) ≡ true → IsEmptyTableAt plans below
  pub something : gives_nothing own (map lowered_names outputs) ≡ false → below ≡ input
  pub item : IsItemAt own plans n below (layer (over_op own nodes (recorded_of own columns)) (below ∷ []))

-- The work over these lists is resolved over the schema to one without expressions, which breaks no rule and has a node.
pub record IsPlain (schema : Columns) (work : Work) (lists : List (List Source)) (own : Work) : Type 0 where
  pub expanded : expanded_lists schema work lists ≡ Ok []
  pub resolved : resolved_work schema work lists ≡ Ok own
  pub unbroken : work_kinds own schema [] ≡ []
  pub whole : IsWhole (OverKind own [])
  pub something : gives_nothing own [] ≡ false
  pub other : is_same own ≡ false

-- why it isn't lowered: memory ran out, it can't be resolved over the schema, or it breaks a rule
pub data IsWorkRefusal (registry : Registry) (schema : Columns) (work : Work) (lists : List (List Source)) (error : PlanError) : Type 0 where
  without_memory : error ≡ no_memory → IsWorkRefusal registry schema work lists error
  unresolved : IsUnexpanded (expanded_over schema work lists) error → IsWorkRefusal registry schema work lists error
  against_a_rule : (trees : List (List Expression)) (own : Work) (kind : ErrorKind) → expanded_lists schema work lists ≡ Ok trees → resolved_work schema work lists ≡ Ok own → error ≡ at_top kind → Contains (broken_kinds registry (over_op own (map (map named) trees) None) (Some schema ∷ [])) kind → IsWorkRefusal registry schema work lists error

-- a node without expressions is the one that a query has, whatever expressions and functions there are, and so it is refused
abbrev pub IsPlainAt : Columns → List IR → ℕ → ℕ → Work → List (List Source) → Columns → Type 0
IsPlainAt schema plans n input work lists columns = (registry : Registry) (expressions : List AExpr) → IsWorkAt registry schema expressions plans n input work lists columns

abbrev pub IsPlainRefusal : Columns → Work → List (List Source) → PlanError → Type 0
IsPlainRefusal schema work lists error = (registry : Registry) → IsWorkRefusal registry schema work lists error
