-- Queries' plans, resolved: the plans of which rules, schemas and meaning are asked.
-- Each node of a query's plan is resolved over the schemas of its inputs. One that can't be is refused by the kinds
-- of rule that it breaks: those for which its expressions or selectors can't be expanded, or a name of theirs must stand
-- and doesn't. A node over an input without schema can't be resolved, and breaks none: the input's node tells why.
use Rattle.std.specs.Prelude.{List, Option, Some, None, Result, Ok, Err, is_some, if◌then◌else◌, [], ◌∷◌, map}
use Rattle.std.specs.List.{list_all}
use Rattle.plan_types.specs.Schemas.{Columns}
use Rattle.plan_types.specs.declared.error.ErrorKind.{ErrorKind}
use Rattle.plan_dsl.specs.Registry.{Registry}
use Rattle.plan_dsl.specs.Trees.{Trees, node, no_more, more}
use Rattle.plan_dsl.specs.Ops.{Expression}
use Rattle.plan_dsl.specs.Plans.{Work, GroupByWork, FilterWork, SimpleProjectionWork, DropWork, SortWork, DistinctWork, CallWork, PlanKind, ScanKind, OverKind, RefusedKind, PlanOp, Plan, Named, named, SourcePlan}
use Rattle.plan_dsl.specs.Sources.{Source, written}
use Rattle.plan_dsl.specs.Refusals.{then_ok, with_kinds}
use Rattle.plan_dsl.specs.Expansion.{expansions, key_names, predicate_expansion}
use Rattle.plan_dsl.specs.Markers.{names_of_selectors}
use Rattle.plan_dsl.specs.Drops.{drop_leaves}
use Rattle.plan_dsl.specs.SortFlags.{sort_flags}
use Rattle.plan_dsl.specs.TableCalls.{called_lists, called_work}
use Rattle.plan_dsl.specs.PlanRules.{schemas_of}

-- aggregates behind keys that were expanded: what their markers stand for leaves out the keys that are plain columns
abbrev pub over_keys : Columns → List Source → List Expression → Result (List (List Expression)) (List ErrorKind)
over_keys schema aggs keys = then_ok (expansions (key_names (map written keys)) schema aggs) (λ trees. Ok (keys ∷ trees ∷ []))

-- a list in front of others
abbrev pub in_front_of : List Expression → Result (List (List Expression)) (List ErrorKind) → Result (List (List Expression)) (List ErrorKind)
in_front_of trees rest = then_ok rest (λ lists. Ok (trees ∷ lists))

-- lists of expressions that are expanded, each by itself
abbrev pub expanded_each : Columns → List (List Source) → Result (List (List Expression)) (List ErrorKind)
expanded_each schema [] = Ok []
expanded_each schema (sources ∷ lists) = then_ok (expansions [] schema sources) (λ trees. in_front_of trees (expanded_each schema lists))

-- what the expressions of a node over an input of the schema are expanded to. Selectors are no expressions
abbrev pub expanded_lists : Columns → Work → List (List Source) → Result (List (List Expression)) (List ErrorKind)
expanded_lists schema GroupByWork (keys ∷ aggs ∷ []) = then_ok (expansions [] schema keys) (over_keys schema aggs)
expanded_lists schema FilterWork ((source ∷ []) ∷ []) = then_ok (with_kinds (predicate_expansion schema source)) (λ tree. Ok ((tree ∷ []) ∷ []))
expanded_lists schema (DropWork strict) lists = Ok []
expanded_lists schema (DistinctWork keep None) (selectors ∷ []) = Ok []
expanded_lists schema (CallWork call) lists = Ok (called_lists schema call)
expanded_lists schema work lists = expanded_each schema lists

-- what a node over an input of the schema does, resolved
abbrev pub resolved_work : Columns → Work → List (List Source) → Result Work (List ErrorKind)
resolved_work schema (DropWork strict) (selectors ∷ []) = then_ok (drop_leaves schema selectors strict) (λ columns. Ok (SimpleProjectionWork columns))
resolved_work schema (SortWork descending nulls_last) (by ∷ []) = then_ok (sort_flags schema by descending nulls_last) (λ flags. Ok (SortWork flags.0 flags.1))
resolved_work schema (DistinctWork keep None) (selectors ∷ []) = then_ok (names_of_selectors schema selectors) (λ names. Ok (DistinctWork keep (Some names)))
resolved_work schema (CallWork call) lists = called_work schema call lists
resolved_work schema work lists = Ok work

-- a node's work over expanded expressions, each under its own name
abbrev pub over_named : List (List Expression) → Work → PlanKind (Named Expression)
over_named trees work = OverKind work (map (map named) trees)

abbrev pub over_expanded : Result Work (List ErrorKind) → List (List Expression) → Result (PlanKind (Named Expression)) (List ErrorKind)
over_expanded work trees = then_ok work (λ own. Ok (over_named trees own))

abbrev pub expanded_over : Columns → Work → List (List Source) → Result (PlanKind (Named Expression)) (List ErrorKind)
expanded_over schema work lists = then_ok (expanded_lists schema work lists) (over_expanded (resolved_work schema work lists))

-- the columns of the first input; there are none where there is no input
abbrev pub first_columns : List Columns → Columns
first_columns [] = []
first_columns (schema ∷ inputs) = schema

-- a kind over inputs of these schemas, with its expressions expanded, and a drop as a simple projection of what it leaves;
-- or the kinds by which it is refused
abbrev pub expanded_kind : Registry → List Columns → PlanKind Source → Result (PlanKind (Named Expression)) (List ErrorKind)
expanded_kind registry inputs (ScanKind table own) = Ok (ScanKind table own)
expanded_kind registry inputs (OverKind work lists) = expanded_over (first_columns inputs) work lists
expanded_kind registry inputs (RefusedKind kinds) = Ok (RefusedKind kinds)

-- the schemas that are there
abbrev pub schemas_there : List (Option Columns) → List Columns
schemas_there [] = []
schemas_there (None ∷ inputs) = schemas_there inputs
schemas_there (Some schema ∷ inputs) = schema ∷ schemas_there inputs

-- a kind over inputs of these schemas: its expressions expanded, or the kinds of rule that expansion breaks
abbrev pub resolution : Registry → PlanKind Source → List (Option Columns) → Result (PlanKind (Named Expression)) (List ErrorKind)
resolution registry kind inputs = if list_all is_some inputs then expanded_kind registry (schemas_there inputs) kind else Err []

abbrev pub resolved_kind : Result (PlanKind (Named Expression)) (List ErrorKind) → PlanKind (Named Expression)
resolved_kind (Ok kind) = kind
resolved_kind (Err kinds) = RefusedKind kinds

abbrev pub resolved_op : Registry → PlanOp Source → List (Option Columns) → PlanOp (Named Expression)
resolved_op registry op inputs = record { kind = resolved_kind (resolution registry op.kind inputs); recorded = op.recorded }

abbrev mutual
  -- a query's plan with each node resolved
  pub resolved : Registry → SourcePlan → Plan
  resolved registry (node op inputs) = node (resolved_op registry op (schemas_of registry (all_resolved registry inputs))) (all_resolved registry inputs)

  pub all_resolved : Registry → Trees (PlanOp Source) → Trees (PlanOp (Named Expression))
  all_resolved registry no_more = no_more
  all_resolved registry (more plan rest) = more (resolved registry plan) (all_resolved registry rest)
