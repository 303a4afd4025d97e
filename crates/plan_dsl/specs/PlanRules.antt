-- The rules of plans.
-- A node breaks some kinds of rule, where what they read is there, over inputs that have a schema or none.
-- Where it breaks none it has a schema. A plan is well formed where each of its nodes has one.
use Rattle.std.specs.Prelude.{ℕ, zero, suc, List, [], ◌∷◌, ◌++◌, length, map, Option, Some, None, Bool, true, false, not, is_some, IsTrue, Result, Ok, Err, if◌then◌else◌}
use Rattle.std.specs.List.{Contains, flat_map, list_all}
use Rattle.std.specs.Option.{option_map, option_map_or}
use Rattle.plan_types.specs.Schemas.{Name, Columns, type_at, with_column, repeats, names_of, all_known}
use Rattle.plan_types.specs.Types.{Ty, Truth, ListType, same_type}
use Rattle.plan_types.specs.declared.error.ErrorKind.{ErrorKind}
use Rattle.plan_types.specs.declared.error.ErrorKind.TheVariants.{ColumnNotFound, Duplicate, SchemaMismatch, InvalidOperation, ComputeError}
use Rattle.plan_dsl.specs.Registry.{Registry}
use Rattle.plan_dsl.specs.Trees.{Trees, node, no_more, more, fold, fold_all, tree_at}
use Rattle.plan_dsl.specs.Ops.{Expression}
use Rattle.plan_dsl.specs.Plans.{Named, Work, SelectWork, HStackWork, GroupByWork, FilterWork, SimpleProjectionWork, SliceWork, SortWork, DistinctWork, PassWork, RechunkPass, FunctionWork, PlanKind, ScanKind, OverKind, RefusedKind, PlanOp, OverInput, Plan, expressions_of}
use Rattle.plan_dsl.specs.Literals.{settled}
use Rattle.plan_dsl.specs.declared.signature.Ask.TheVariants.{Sortable}
use Rattle.plan_dsl.specs.Signatures.{has_flags, is_asked}
use Rattle.plan_dsl.specs.Drops.{have_names}
pub use Rattle.plan_dsl.specs.Refusals.{kind_where}
use Rattle.plan_dsl.specs.TableRules.{function_kinds, function_schema}
use Rattle.plan_dsl.specs.Typing.{Typed, typing, kinds_in}

-- the kinds that expressions break over a schema
abbrev pub all_kinds : Registry → Columns → List (Named Expression) → List ErrorKind
all_kinds registry schema outputs = flat_map (λ output. kinds_in registry schema (settled output.expression)) outputs

-- over an input without schema they break none
abbrev pub kinds_over : Registry → Option Columns → List (Named Expression) → List ErrorKind
kinds_over registry None outputs = []
kinds_over registry (Some schema) outputs = all_kinds registry schema outputs

-- the schema of the input of that number
abbrev pub input_schema : List (Option Columns) → ℕ → Option Columns
input_schema [] number = None
input_schema (schema ∷ schemas) zero = schema
input_schema (schema ∷ schemas) (suc number) = input_schema schemas number

-- the kinds that a node's expressions break
abbrev pub expression_kinds : Registry → List (Option Columns) → List (OverInput (Named Expression)) → List ErrorKind
expression_kinds registry inputs expressions = flat_map (λ e. kinds_over registry (input_schema inputs e.input) e.outputs) expressions

-- a scan's columns have types of columns, and distinct names
abbrev pub scan_kinds : Columns → List ErrorKind
scan_kinds own = kind_where (not (all_known own)) InvalidOperation ++ kind_where (repeats (names_of own)) Duplicate

-- the names of expressions
abbrev pub names_in : {E : Type 0} → List (Named E) → List Name
names_in outputs = map (λ output. output.label.name) outputs

-- names are distinct, or they break the rule of that kind
abbrev pub name_kinds : ErrorKind → List Name → List ErrorKind
name_kinds kind names = kind_where (repeats names) kind

-- there is a key
abbrev pub key_kinds : List Name → List ErrorKind
key_kinds [] = ComputeError ∷ []
key_kinds (key ∷ keys) = []

-- whether a column stands in a schema, with its type
abbrev pub stands_in : Columns → Name × Ty → Bool
stands_in schema column = option_map_or (same_type column.1) (type_at schema column.0) false

-- the columns of a simple projection stand in its input's schema, with distinct names
abbrev pub projection_kinds : Columns → Columns → List ErrorKind
projection_kinds schema columns = kind_where (not (list_all (stands_in schema) columns)) InvalidOperation ++ kind_where (repeats (names_of columns)) Duplicate

-- the kinds that a typed expression breaks by its type: a predicate is of the type of truth values, and a key of a sort of
-- one whose values have an order
abbrev pub type_kinds : Work → Typed → List ErrorKind
type_kinds FilterWork typed = kind_where (not (same_type typed.type Truth)) InvalidOperation
type_kinds (SortWork descending nulls_last) typed = kind_where (not (is_asked Sortable typed.type)) InvalidOperation
type_kinds work typed = []

-- what an expression that isn't typed breaks, it says itself
abbrev pub typed_kinds : Work → Result Typed ErrorKind → List ErrorKind
typed_kinds work (Err kind) = []
typed_kinds work (Ok typed) = type_kinds work typed

abbrev pub list_type_kinds : Registry → Work → Columns → List (Named Expression) → List ErrorKind
list_type_kinds registry work schema outputs = flat_map (λ output. typed_kinds work (typing registry schema (settled output.expression))) outputs

abbrev pub all_type_kinds : Registry → Work → Columns → List (List (Named Expression)) → List ErrorKind
all_type_kinds registry work schema lists = flat_map (list_type_kinds registry work schema) lists

-- the names by which rows are kept once stand in their schema
abbrev pub subset_kinds : Columns → Option (List Name) → List ErrorKind
subset_kinds schema None = []
subset_kinds schema (Some names) = kind_where (not (have_names schema names)) ColumnNotFound

-- The kinds that a node over an input of the schema breaks, whatever the types of its expressions. Another number of
-- lists than its own, which no query has, breaks a rule too, and so do a drop and a call, which no resolved plan has.
abbrev pub work_kinds : Work → Columns → List (List Name) → List ErrorKind
work_kinds SelectWork schema (names ∷ []) = name_kinds Duplicate names
work_kinds HStackWork schema (names ∷ []) = name_kinds ComputeError names
work_kinds GroupByWork schema (keys ∷ aggs ∷ []) = key_kinds keys ++ name_kinds Duplicate (keys ++ aggs)
work_kinds FilterWork schema ((name ∷ []) ∷ []) = []
work_kinds (SimpleProjectionWork columns) schema [] = projection_kinds schema columns
work_kinds (SliceWork offset count) schema [] = []
work_kinds (SortWork descending nulls_last) schema (keys ∷ []) = kind_where (not (has_flags descending nulls_last (length keys))) ComputeError
work_kinds (DistinctWork keep subset) schema [] = subset_kinds schema subset
work_kinds (PassWork passing) schema [] = []
work_kinds (FunctionWork function) schema [] = function_kinds function schema
work_kinds work schema lists = SchemaMismatch ∷ []

-- The kinds that a node breaks besides those of its expressions, by the schemas of its inputs. Another number of
-- inputs than its own, which no query has, breaks a rule too.
abbrev pub own_kinds : Registry → PlanKind (Named Expression) → List (Option Columns) → List ErrorKind
own_kinds registry (ScanKind table schema) [] = scan_kinds schema
own_kinds registry (OverKind work lists) (None ∷ []) = []
own_kinds registry (OverKind work lists) (Some schema ∷ []) = all_type_kinds registry work schema lists ++ work_kinds work schema (map names_in lists)
own_kinds registry (RefusedKind kinds) inputs = kinds
own_kinds registry kind inputs = SchemaMismatch ∷ []

-- the kinds that a node breaks, by the schemas of its inputs
abbrev pub broken_kinds : Registry → PlanOp (Named Expression) → List (Option Columns) → List ErrorKind
broken_kinds registry op inputs = expression_kinds registry inputs (expressions_of op.kind) ++ own_kinds registry op.kind inputs

-- a typed expression, under its name
pub record TypedOutput : Type 0 where
  pub name : Name
  pub typed : Typed

abbrev pub output_before : Name → Result Typed ErrorKind → Option (List TypedOutput) → Option (List TypedOutput)
output_before name (Err kind) rest = None
output_before name (Ok typed) None = None
output_before name (Ok typed) (Some outputs) = Some (record { name = name; typed = typed } ∷ outputs)

-- expressions with their types, where each has one
abbrev pub typed_outputs : Registry → Columns → List (Named Expression) → Option (List TypedOutput)
typed_outputs registry schema [] = Some []
typed_outputs registry schema (output ∷ outputs) =
    output_before output.label.name (typing registry schema (settled output.expression)) (typed_outputs registry schema outputs)

abbrev pub list_before : Option (List TypedOutput) → Option (List (List TypedOutput)) → Option (List (List TypedOutput))
list_before (Some outputs) (Some rest) = Some (outputs ∷ rest)
list_before outputs rest = None

-- so those of lists
abbrev pub typed_lists : Registry → Columns → List (List (Named Expression)) → Option (List (List TypedOutput))
typed_lists registry schema [] = Some []
typed_lists registry schema (list ∷ lists) = list_before (typed_outputs registry schema list) (typed_lists registry schema lists)

-- the names and types of expressions
abbrev pub columns_of : List TypedOutput → Columns
columns_of outputs = map (λ output. (output.name, output.typed.type)) outputs

-- the columns with others, in order: each in place of its namesake, else at the end
abbrev pub with_columns : Columns → Columns → Columns
with_columns schema [] = schema
with_columns schema (column ∷ columns) = with_columns (with_column schema column.0 column.1) columns

-- what aggregates are in groups: there is one value for each group, which is the list of the aggregate's values where it
-- may have many
abbrev pub type_in_groups : Typed → Ty
type_in_groups typed = if typed.many then ListType typed.type else typed.type

-- the names and types of aggregates in groups
abbrev pub aggregate_columns : List TypedOutput → Columns
aggregate_columns outputs = map (λ output. (output.name, type_in_groups output.typed)) outputs

-- the schema of a node over an input of the schema, by its typed expressions
abbrev pub work_schema : Work → Columns → List (List TypedOutput) → Columns
work_schema SelectWork schema (outputs ∷ []) = columns_of outputs
work_schema HStackWork schema (outputs ∷ []) = with_columns schema (columns_of outputs)
work_schema GroupByWork schema (keys ∷ aggs ∷ []) = columns_of keys ++ aggregate_columns aggs
work_schema (SimpleProjectionWork columns) schema lists = columns
work_schema (FunctionWork function) schema lists = function_schema function schema
work_schema work schema lists = schema

-- whether it has its input's schema, so that a lowered plan's node records none. A function's node records one, whatever the function
abbrev pub keeps_schema : Work → Bool
keeps_schema FilterWork = true
keeps_schema (SliceWork offset count) = true
keeps_schema (SortWork descending nulls_last) = true
keeps_schema (DistinctWork keep subset) = true
keeps_schema (PassWork RechunkPass) = false
keeps_schema (PassWork passing) = true
keeps_schema work = false

-- the schema of a node that breaks no rule
abbrev pub schema_by : Registry → PlanKind (Named Expression) → List (Option Columns) → Option Columns
schema_by registry (ScanKind table schema) [] = Some schema
schema_by registry (OverKind work lists) (Some schema ∷ []) = option_map (work_schema work schema) (typed_lists registry schema lists)
schema_by registry kind inputs = None

abbrev pub where_unbroken : List ErrorKind → Option Columns → Option Columns
where_unbroken [] schema = schema
where_unbroken (kind ∷ kinds) schema = None

-- a node's schema, from those of its inputs
abbrev pub plan_rule : Registry → PlanOp (Named Expression) → List (Option Columns) → Option Columns
plan_rule registry op inputs = where_unbroken (broken_kinds registry op inputs) (schema_by registry op.kind inputs)

-- a plan's schema, and those of plans side by side
abbrev pub schema_of : Registry → Plan → Option Columns
schema_of registry plan = fold (plan_rule registry) plan

abbrev pub schemas_of : Registry → Trees (PlanOp (Named Expression)) → List (Option Columns)
schemas_of registry plans = fold_all (plan_rule registry) plans

abbrev pub schema_where : Registry → Option Plan → Option Columns
schema_where registry None = None
schema_where registry (Some plan) = schema_of registry plan

-- the schema at a place
abbrev pub schema_at : Registry → Plan → List ℕ → Option Columns
schema_at registry plan place = schema_where registry (tree_at (Some plan) place)

abbrev mutual
  -- each node has a schema
  pub IsWellFormed : Registry → Plan → Type 0
  IsWellFormed registry (node op inputs) = IsTrue (is_some (schema_of registry (node op inputs))) × AllWellFormed registry inputs

  pub AllWellFormed : Registry → Trees (PlanOp (Named Expression)) → Type 0
  AllWellFormed registry no_more = Unit {0}
  AllWellFormed registry (more plan rest) = IsWellFormed registry plan × AllWellFormed registry rest

-- the kinds that the node at the top breaks
abbrev pub top_kinds : Registry → Option Plan → List ErrorKind
top_kinds registry None = []
top_kinds registry (Some (node op inputs)) = broken_kinds registry op (schemas_of registry inputs)

-- the node at the place breaks a rule of that kind
abbrev pub Breaks : Registry → ErrorKind → List ℕ → Plan → Type 0
Breaks registry kind place plan = Contains (top_kinds registry (tree_at (Some plan) place)) kind
