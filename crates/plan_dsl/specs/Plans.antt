-- The tree of a plan.
use Rattle.std.specs.Prelude.{ℕ, ℤ, List, [], ◌∷◌, ◌++◌, map, Option, Some, None, Bool, true, false}
use Rattle.std.specs.List.{flat_map}
use Rattle.std.specs.Option.{option_map}
use Rattle.plan_types.specs.Schemas.{Name, Columns, columns}
use Rattle.plan_types.specs.declared.error.ErrorKind.{ErrorKind}
use Rattle.plan_dsl.specs.declared.plan.DslPlan.{DslPlan}
use Rattle.plan_dsl.specs.declared.plan.DslPlan.TheVariants.{Cache', DataFrameScan, Distinct', Filter', GroupBy', HStack', MapFunction', Select', Sink', Slice', Sort'}
use Rattle.plan_dsl.specs.declared.function.DslFunction.{DslFunction}
use Rattle.plan_dsl.specs.declared.function.DslFunction.TheVariants as dsl
use Rattle.plan_dsl.specs.declared.function.FunctionIR.{FunctionIR}
use Rattle.plan_dsl.specs.declared.function.FunctionIR.TheVariants as ir
use Rattle.plan_dsl.specs.declared.sort_options.SortMultipleOptions.{SortMultipleOptions}
use Rattle.plan_dsl.specs.declared.plan.ProjectionOptions.{ProjectionOptions}
use Rattle.plan_dsl.specs.declared.distinct_options.ColumnNames.{ColumnNames}
use Rattle.plan_dsl.specs.declared.distinct_options.UniqueKeepStrategy.{UniqueKeepStrategy}
use Rattle.plan_dsl.specs.Aliases.{core}
use Rattle.plan_dsl.specs.Trees.{Tree, node, no_more, more, children_from, fold}
use Rattle.plan_dsl.specs.Ops.{Expression, FunctionOp}
use Rattle.plan_dsl.specs.Expressions.{tree_of, trees_of, selector_trees}
use Rattle.plan_dsl.specs.Names.{Label, label_of}
use Rattle.plan_dsl.specs.declared.function_expr.FunctionExpr.{FunctionExpr}
use Rattle.plan_dsl.specs.declared.function_expr.FunctionExpr.TheVariants.{AllHorizontal, FillNull, IsNotNull}
use Rattle.plan_dsl.specs.Sources.{Plain, Source, WildcardOp}
use Rattle.plan_dsl.specs.TableFunctions.{TableCall, ExplodeCall, UnpivotCall, RenameCall, UnnestCall, StatsCall, TableFunction, RowIndexFunction, ExplodeFunction, UnpivotFunction, RenameFunction, UnnestFunction}

-- an expression of a node, with its name and what that comes from
pub record Named (E : Type 0) : Type 0 where
  pub label : Label
  pub expression : E

-- what a node does that gives its input's rows as they are: it keeps them under a number, hands them out, lays them anew, or
-- does nothing at all, and then no lowered plan has a node for it
pub data Passing : Type 0 where
  CachePass : (id : ℕ) → Passing
  SinkPass : Passing
  RechunkPass : Passing
  SamePass : Passing

-- What a node does over its only input, but for its expressions: its flags. No query writes a simple projection. A drop
-- stands in queries alone, and is resolved to a simple projection of what it leaves. A slice has so many rows from a
-- place on. A sort has a flag for each key, or one for all; in a query for each expression in place of each key.
-- A distinct keeps rows once, by their values under some names or as a whole: in a query no names stand in it, but selectors
-- may stand over its input, which are resolved to these. A function's call stands in queries alone, and is resolved to a function over
-- names, or to a select of statistics.
pub data Work : Type 0 where
  SelectWork : Work
  HStackWork : Work
  GroupByWork : Work
  FilterWork : Work
  SimpleProjectionWork : (columns : Columns) → Work
  DropWork : (strict : Bool) → Work
  SliceWork : (offset : ℤ) (count : ℕ) → Work
  SortWork : (descending nulls_last : List Bool) → Work
  DistinctWork : (keep : UniqueKeepStrategy) (subset : Option (List Name)) → Work
  PassWork : (passing : Passing) → Work
  FunctionWork : (function : TableFunction) → Work
  CallWork : (call : TableCall) → Work

-- The kind of a plan's node, over what an expression is: a source expression in a query, a named tree in a plan, a named
-- node in the arena. A node over one input does its work by lists of expressions. A node of a query that can't be resolved
-- is refused, by the kinds of rule that it breaks: no query writes such a node, and no arena holds one.
pub data PlanKind (E : Type 0) : Type 0 where
  ScanKind : (table : Option ℕ) (schema : Columns) → PlanKind E
  OverKind : (work : Work) (lists : List (List E)) → PlanKind E
  RefusedKind : (kinds : List ErrorKind) → PlanKind E

-- the outputs of a select and of an hstack, the keys and aggregates of a group-by, the predicate of a filter, and the
-- selectors of a drop
abbrev pub SelectKind : {E : Type 0} → List E → PlanKind E
SelectKind outputs = OverKind SelectWork (outputs ∷ [])

abbrev pub HStackKind : {E : Type 0} → List E → PlanKind E
HStackKind outputs = OverKind HStackWork (outputs ∷ [])

abbrev pub GroupByKind : {E : Type 0} → List E → List E → PlanKind E
GroupByKind keys aggs = OverKind GroupByWork (keys ∷ aggs ∷ [])

abbrev pub FilterKind : {E : Type 0} → E → PlanKind E
FilterKind predicate = OverKind FilterWork ((predicate ∷ []) ∷ [])

abbrev pub SimpleProjectionKind : {E : Type 0} → Columns → PlanKind E
SimpleProjectionKind columns = OverKind (SimpleProjectionWork columns) []

abbrev pub DropKind : {E : Type 0} → List E → Bool → PlanKind E
DropKind selectors strict = OverKind (DropWork strict) (selectors ∷ [])

-- What a node of a plan does: its kind, and the schema of its frame where the node records it. A scan does, and a
-- select, an hstack, a group-by or a simple projection of a lowered plan. These of a query, a filter and a drop record none.
pub record PlanOp (E : Type 0) : Type 0 where
  pub kind : PlanKind E
  pub recorded : Option Columns

-- expressions side by side, and the number of the input over which they are typed
pub record OverInput (E : Type 0) : Type 0 where
  pub input : ℕ
  pub outputs : List E

abbrev pub over_input : {E : Type 0} → ℕ → List E → OverInput E
over_input number outputs = record { input = number; outputs = outputs }

-- the expressions of a node, in order
abbrev pub expressions_of : {E : Type 0} → PlanKind E → List (OverInput E)
expressions_of (ScanKind table schema) = []
expressions_of (OverKind work lists) = map (over_input 0) lists
expressions_of (RefusedKind kinds) = []

abbrev pub Plan : Type 0
Plan = Tree (PlanOp (Named Expression))

-- a plan as a query writes it
abbrev pub SourcePlan : Type 0
SourcePlan = Tree (PlanOp Source)

-- an expression without its aliases, under the name that the rules give it with them
abbrev pub named : Expression → Named Expression
named tree = record { label = label_of tree; expression = core tree }

abbrev pub scan_op : {E : Type 0} → Option ℕ → Columns → PlanOp E
scan_op table schema = record { kind = ScanKind table schema; recorded = Some schema }

-- a node over one input
abbrev pub over_op : {E : Type 0} → Work → List (List E) → Option Columns → PlanOp E
over_op work lists recorded = record { kind = OverKind work lists; recorded = recorded }

abbrev pub select_op : {E : Type 0} → List E → Option Columns → PlanOp E
select_op outputs recorded = over_op SelectWork (outputs ∷ []) recorded

abbrev pub hstack_op : {E : Type 0} → List E → Option Columns → PlanOp E
hstack_op outputs recorded = over_op HStackWork (outputs ∷ []) recorded

abbrev pub group_by_op : {E : Type 0} → List E → List E → Option Columns → PlanOp E
group_by_op keys aggs recorded = over_op GroupByWork (keys ∷ aggs ∷ []) recorded

abbrev pub filter_op : {E : Type 0} → E → PlanOp E
filter_op predicate = over_op FilterWork ((predicate ∷ []) ∷ []) None

abbrev pub simple_projection_op : {E : Type 0} → Columns → Option Columns → PlanOp E
simple_projection_op columns recorded = over_op (SimpleProjectionWork columns) [] recorded

abbrev pub drop_op : {E : Type 0} → List E → Bool → PlanOp E
drop_op selectors strict = over_op (DropWork strict) (selectors ∷ []) None

-- a node over one input in a query, and one of each kind
abbrev pub source_over : Work → List (List Source) → SourcePlan → SourcePlan
source_over work lists input = node (over_op work lists None) (more input no_more)

abbrev pub source_select : List Source → SourcePlan → SourcePlan
source_select sources input = source_over SelectWork (sources ∷ []) input

abbrev pub source_hstack : List Source → SourcePlan → SourcePlan
source_hstack sources input = source_over HStackWork (sources ∷ []) input

abbrev pub source_group_by : List Source → List Source → SourcePlan → SourcePlan
source_group_by keys aggs input = source_over GroupByWork (keys ∷ aggs ∷ []) input

abbrev pub source_filter : Source → SourcePlan → SourcePlan
source_filter source input = source_over FilterWork ((source ∷ []) ∷ []) input

abbrev pub source_drop : List Source → Bool → SourcePlan → SourcePlan
source_drop selectors strict input = source_over (DropWork strict) (selectors ∷ []) input

-- flags, by which columns descend and have their nulls last
abbrev pub sort_work : SortMultipleOptions → Work
sort_work options = SortWork options.descending.items.value.items options.nulls_last.items.value.items

abbrev pub source_sort : List Source → SortMultipleOptions → SourcePlan → SourcePlan
source_sort by options input = source_over (sort_work options) (by ∷ []) input

-- selectors, if there are some, as the only list
abbrev pub subset_lists : Option (List Source) → List (List Source)
subset_lists None = []
subset_lists (Some selectors) = selectors ∷ []

-- the names of columns, if there are some
abbrev pub column_names : Option ColumnNames → Option (List Name)
column_names names = option_map (λ some. some.items.items) names

abbrev pub source_distinct : UniqueKeepStrategy → Option (List Source) → SourcePlan → SourcePlan
source_distinct keep subset input = source_over (DistinctWork keep None) (subset_lists subset) input

abbrev pub source_slice : ℤ → ℕ → SourcePlan → SourcePlan
source_slice offset count input = source_over (SliceWork offset count) [] input

abbrev pub source_pass : Passing → SourcePlan → SourcePlan
source_pass passing input = source_over (PassWork passing) [] input

abbrev pub source_cache : ℕ → SourcePlan → SourcePlan
source_cache id input = source_pass (CachePass id) input

abbrev pub source_sink : SourcePlan → SourcePlan
source_sink input = source_pass SinkPass input

-- what a function over a frame whose columns are known by name does
abbrev pub function_work : FunctionIR → Work
function_work (ir.Explode columns) = FunctionWork (ExplodeFunction columns.items.items)
function_work ir.Rechunk = PassWork RechunkPass
function_work (ir.Rename existing new swapping) = FunctionWork (RenameFunction existing.items.items new.items.items swapping)
function_work (ir.RowIndex name offset) = FunctionWork (RowIndexFunction name offset)
function_work (ir.Unnest columns) = FunctionWork (UnnestFunction columns.items.items)
function_work (ir.Unpivot args) = FunctionWork (UnpivotFunction args.on.items.items args.index.items.items args.variable_name args.value_name)

-- whether what it makes of parts of the rows can be put together
abbrev pub is_streamable : FunctionIR → Bool
is_streamable ir.Rechunk = false
is_streamable (ir.RowIndex name offset) = false
is_streamable function = true

-- whether there may be more rows than before
abbrev pub expands_rows : FunctionIR → Bool
expands_rows (ir.Explode columns) = true
expands_rows (ir.Unpivot args) = true
expands_rows function = false

-- a call of a function in a query
abbrev pub source_call : FunctionExpr → List Source → Source
source_call function sources = node (Plain (FunctionOp function [])) (children_from sources)

abbrev pub any_column : Source
any_column = node WildcardOp no_more

abbrev pub is_known_value : Source → Source
is_known_value source = source_call IsNotNull (source ∷ [])

-- that none of some expressions is null, or no column
abbrev pub all_known_values : Option (List Source) → Source
all_known_values None = source_call AllHorizontal (is_known_value any_column ∷ [])
all_known_values (Some sources) = source_call AllHorizontal (map is_known_value sources)

-- each column, with a value in place of nulls
abbrev pub nulls_filled : Source → Source
nulls_filled value = source_call FillNull (any_column ∷ value ∷ [])

-- what a function of a query does, and its lists of selectors
abbrev pub call_work : DslFunction → Work
call_work (dsl.Drop function) = DropWork function.strict
call_work (dsl.Explode columns allow_empty) = CallWork (ExplodeCall allow_empty)
call_work (dsl.FunctionIR function) = function_work function
call_work (dsl.Rename existing new strict) = CallWork (RenameCall existing.items.items new.items.items strict)
call_work (dsl.RowIndex name offset) = FunctionWork (RowIndexFunction name offset)
call_work (dsl.Stats statistic) = CallWork (StatsCall statistic)
call_work (dsl.Unnest columns) = CallWork UnnestCall
call_work (dsl.Unpivot args) = CallWork (UnpivotCall args.variable_name args.value_name)

abbrev pub call_lists : DslFunction → List (List Source)
call_lists (dsl.Drop function) = selector_trees function.to_drop ∷ []
call_lists (dsl.Explode columns allow_empty) = selector_trees columns ∷ []
call_lists (dsl.Unnest columns) = selector_trees columns ∷ []
call_lists (dsl.Unpivot args) = selector_trees args.on ∷ selector_trees args.index ∷ []
call_lists function = []

-- a function over a plan
abbrev pub source_function : DslFunction → SourcePlan → SourcePlan
source_function function input = source_over (call_work function) (call_lists function) input

-- the tree of a plan, as it is written
abbrev pub plan_tree : DslPlan → SourcePlan
plan_tree (DataFrameScan table schema) = node (scan_op table (columns schema)) no_more
plan_tree (Select' expr p input options) = source_select (trees_of expr) (plan_tree input)
plan_tree (HStack' exprs p input options) = source_hstack (trees_of exprs) (plan_tree input)
plan_tree (GroupBy' p input keys aggs maintain_order) = source_group_by (trees_of keys) (trees_of aggs) (plan_tree input)
plan_tree (Filter' p input predicate) = source_filter (tree_of predicate) (plan_tree input)
plan_tree (MapFunction' p input function) = source_function function (plan_tree input)
plan_tree (Sort' p input by_column sort_options) = source_sort (trees_of by_column) sort_options (plan_tree input)
plan_tree (Distinct' p input options) = source_distinct options.keep_strategy (option_map selector_trees options.subset) (plan_tree input)
plan_tree (Slice' p input offset len) = source_slice offset len (plan_tree input)
plan_tree (Cache' p input id) = source_cache id (plan_tree input)
plan_tree (Sink' p input payload) = source_sink (plan_tree input)

-- a scan of a table: the table's number, and the schema that it is to have
pub record Scan : Type 0 where
  pub table : ℕ
  pub schema : Columns

-- the tables that a node scans
abbrev pub own_scans : {E : Type 0} → PlanKind E → List Scan
own_scans (ScanKind (Some number) schema) = record { table = number; schema = schema } ∷ []
own_scans kind = []

-- the tables that a plan scans, from the top down
abbrev pub scans_in : {E : Type 0} → Tree (PlanOp E) → List Scan
scans_in plan = fold (λ op below. own_scans op.kind ++ flat_map (λ scans. scans) below) plan

-- an option of a node: those of a select and of an hstack, whether a group-by or a distinct keeps the order of rows, and how
-- often a cache is to be read
pub data PlanOption : Type 0 where
  ProjectionOption : (options : ProjectionOptions) → PlanOption
  OrderOption : (maintain_order : Bool) → PlanOption
  HitsOption : (hits : ℕ) → PlanOption

-- the options of a select that statistics are resolved to
abbrev pub stats_options : ProjectionOptions
stats_options = record { duplicate_check = false }

-- the option of a function's node, if it has one
abbrev pub call_option : DslFunction → List PlanOption
call_option (dsl.Stats statistic) = ProjectionOption stats_options ∷ []
call_option function = []

-- how often a query's cache is to be read: it doesn't tell, and so no number is greater
abbrev pub unknown_hits : ℕ
unknown_hits = 4294967295

-- the options of a plan's nodes, from the top down: its tree has none of them, since they mean nothing
abbrev pub options_in : DslPlan → List PlanOption
options_in (DataFrameScan table schema) = []
options_in (Select' expr p input options) = ProjectionOption options ∷ options_in input
options_in (HStack' exprs p input options) = ProjectionOption options ∷ options_in input
options_in (GroupBy' p input keys aggs maintain_order) = OrderOption maintain_order ∷ options_in input
options_in (Filter' p input predicate) = options_in input
options_in (MapFunction' p input function) = call_option function ++ options_in input
options_in (Sort' p input by_column sort_options) = options_in input
options_in (Distinct' p input options) = OrderOption options.maintain_order ∷ options_in input
options_in (Slice' p input offset len) = options_in input
options_in (Cache' p input id) = HitsOption unknown_hits ∷ options_in input
options_in (Sink' p input payload) = options_in input

-- the empty table without columns
abbrev pub empty_table : {E : Type 0} → Tree (PlanOp E)
empty_table = node (scan_op None []) no_more
