-- The table of forms: the keys of an object of one key, what each asks of its value, and what it says.
use Rattle.std.specs.Prelude.{◌≡◌, ℕ, List, [], ◌∷◌, ◌++◌, Option, Some, None, Bool, ◌&&◌, ℤ, true, false, option_map, codes, length, map, if◌then◌else◌}
use Rattle.std.specs.Str.{bytes_eq}
use Rattle.plan_types.specs.Schemas.{Name, Columns}
use Rattle.plan_types.specs.Types.{Ty}
use Rattle.plan_types.specs.declared.dtype.CastOptions.{CastOptions}
use Rattle.plan_dsl.specs.Ops.{Op, ColumnOp, BinaryOp, CastOp, LenOp, SliceOp, ExplodeOp, GatherOp, FilterOp, SortOp, SortByOp, AliasOp, WindowOp, TernaryOp, FunctionOp}
use Rattle.plan_dsl.specs.Plans.{CallWork, FunctionWork, RechunkPass, SortWork, SourcePlan, all_known_values, nulls_filled, scan_op, source_cache, source_distinct, source_drop, source_filter, source_group_by, source_hstack, source_over, source_pass, source_select, source_sink, source_slice}
use Rattle.plan_dsl.specs.TableFunctions.{ExplodeCall, RenameCall, RowIndexFunction, StatsCall, UnnestCall, UnpivotCall}
use Rattle.plan_dsl.specs.declared.distinct_options.UniqueKeepStrategy.{UniqueKeepStrategy}
use Rattle.plan_dsl.specs.declared.function.StatsFunction.{StatsFunction}
use Rattle.plan_dsl.specs.Sources.{Excluded, Source, Plain, WildcardOp, ColumnsOp, DtypeColumnOp, IndexColumnOp, NthOp, ExcludeOp, SelectorOp, RootOp, RenameOp, KeepRoot, AddPrefix, AddSuffix, SetName, FieldAtOp, SetRule, Add, Sub, Intersect, ExclusiveOr, SourceOp, of_two}
use Rattle.plan_dsl.specs.Trees.{node, no_more, more, children_from}
use Rattle.plan_dsl.specs.declared.aggregate.GroupByMethod.{GroupByMethod}
use Rattle.plan_dsl.specs.declared.function_expr.FunctionExpr.{FunctionExpr}
use Rattle.plan_dsl.specs.declared.function_expr.FunctionExpr.TheVariants as functions
use Rattle.plan_dsl.specs.declared.operator.Operator.{Operator}
use Rattle.plan_dsl.specs.declared.sort_options.SortOptions.{SortOptions}
use Rattle.plan_dsl.specs.Expressions.{aggregated, function_source}
use Rattle.plan_json.specs.declared.forms.Kind.{Kind}
use Rattle.plan_json.specs.declared.forms.Kind.TheVariants as kinds
use Rattle.plan_json.specs.declared.forms.Leaf.{Leaf}
use Rattle.plan_json.specs.declared.forms.Leaf.TheVariants as leaves
use Rattle.plan_json.specs.declared.forms.SmallLeaf.TheVariants as smalls
use Rattle.plan_json.specs.declared.forms.Writing.TheVariants as writings
use Rattle.plan_json.specs.declared.forms.ListLeaf.{ListLeaf}
use Rattle.plan_json.specs.declared.forms.ListLeaf.TheVariants as lists
use Rattle.plan_json.specs.declared.forms.Place.{Place}
use Rattle.plan_json.specs.declared.forms.Place.TheVariants as places
use Rattle.plan_json.specs.declared.forms.Places.{Places as CodePlaces}
use Rattle.plan_json.specs.declared.forms.Places.TheVariants as counts
use Rattle.plan_json.specs.declared.forms.Key.{Key}
use Rattle.plan_json.specs.declared.forms.Key.TheVariants as keys
use Rattle.plan_json.specs.declared.forms.ExpressionKey.{ExpressionKey}
use Rattle.plan_json.specs.declared.forms.ExpressionKey.TheVariants as of
use Rattle.plan_json.specs.declared.forms.NamedKey.{NamedKey}
use Rattle.plan_json.specs.declared.forms.NamedKey.TheVariants as named
use Rattle.plan_json.specs.declared.forms.MarkerKey.{MarkerKey}
use Rattle.plan_json.specs.declared.forms.MarkerKey.TheVariants as marks
use Rattle.plan_json.specs.declared.forms.SelectorKey.{SelectorKey}
use Rattle.plan_json.specs.declared.forms.SelectorKey.TheVariants as from
use Rattle.plan_json.specs.declared.forms.Joining.{Joining}
use Rattle.plan_json.specs.declared.forms.Joining.TheVariants as joinings
use Rattle.plan_json.specs.declared.forms.PlanKey.{PlanKey}
use Rattle.plan_json.specs.declared.forms.PlanKey.TheVariants as by
use Rattle.plan_json.specs.declared.forms.TypeKey.{TypeKey}
use Rattle.plan_json.specs.declared.forms.TypeKey.TheVariants as types
use Rattle.plan_json.specs.declared.forms.ExcludedKey.{ExcludedKey}
use Rattle.plan_json.specs.declared.forms.ExcludedKey.TheVariants as excludes

-- ---- what a place asks for

pub data Asked : Type 0 where
  -- an object of one key, which names a form of the kind
  a_form : Kind → Asked
  -- what has no forms
  leaf : Leaf → Asked
  -- a list of any number of these
  many : Asked → Asked
  -- null, or a list of an expression and two flags
  order : Asked
  -- null, or a list of any number of these
  optional : Asked → Asked

-- what a key asks of its value
pub data Places : Type 0 where
  single : Asked → Places
  -- a list of exactly these
  listed : List Asked → Places

abbrev pub expression : Asked
expression = a_form kinds.Expression

abbrev pub selector : Asked
selector = a_form kinds.Selector

abbrev pub plan : Asked
plan = a_form kinds.Plan

-- what an order asks for where it is no null
abbrev pub order_items : List Asked
order_items = expression ∷ leaf (leaves.Small smalls.Flag) ∷ leaf (leaves.Small smalls.Flag) ∷ []

-- ---- expressions

-- the keys of expressions
abbrev pub expression_rows : List (List ℕ × ExpressionKey)
expression_rows =
    (codes "col", of.Col) ∷
    (codes "bin", of.Bin) ∷
    (codes "lit", of.Literal writings.AsIs) ∷
    (codes "int", of.Literal writings.Digits) ∷
    (codes "typed", of.Literal writings.Typed) ∷
    (codes "cast", of.Cast) ∷
    (codes "len", of.Len) ∷
    (codes "slice", of.Slice) ∷
    (codes "explode", of.Explode) ∷
    (codes "gather", of.Gather) ∷
    (codes "filter", of.Filter) ∷
    (codes "sort", of.Sort) ∷
    (codes "sort_by", of.SortBy) ∷
    (codes "alias", of.Named named.Alias) ∷
    (codes "agg", of.Agg) ∷
    (codes "over", of.Over) ∷
    (codes "if", of.If) ∷
    (codes "fn", of.Fn) ∷
    (codes "field", of.Field) ∷
    (codes "field_at", of.FieldAt) ∷
    (codes "cols", of.Marker marks.Cols) ∷
    (codes "dtypes", of.Marker marks.Dtypes) ∷
    (codes "at", of.Marker marks.At) ∷
    (codes "nth", of.Marker marks.Nth) ∷
    (codes "all", of.Marker marks.All) ∷
    (codes "exclude", of.Marker marks.Exclude) ∷
    (codes "selector", of.Marker marks.Selector) ∷
    (codes "keep_name", of.KeepName) ∷
    (codes "prefix", of.Named named.Prefix) ∷
    (codes "suffix", of.Named named.Suffix) ∷
    (codes "fixed", of.Named named.Fixed) ∷ []

-- what a marker's key asks of its value
abbrev pub marker_asks : MarkerKey → Places
marker_asks marks.Cols = single (many (leaf leaves.Name))
marker_asks marks.Dtypes = single (many (leaf leaves.Dtype))
marker_asks marks.At = single (many (leaf (leaves.Small smalls.Index)))
marker_asks marks.Nth = single (leaf (leaves.Small smalls.Index))
marker_asks marks.All = single (leaf (leaves.Small smalls.Nothing))
marker_asks marks.Exclude = listed (expression ∷ many (leaf leaves.Excluded) ∷ [])
marker_asks marks.Selector = single selector

-- what each asks of its value
abbrev pub expression_asks : ExpressionKey → Places
expression_asks of.Col = single (leaf leaves.Name)
expression_asks (of.Literal how) = single (leaf (leaves.Literal how))
expression_asks of.Bin = listed (leaf (leaves.Small smalls.Operator) ∷ expression ∷ expression ∷ [])
expression_asks of.Cast = listed (expression ∷ leaf leaves.Dtype ∷ leaf (leaves.Small smalls.Mode) ∷ [])
expression_asks of.Len = single (leaf (leaves.Small smalls.Nothing))
expression_asks of.Slice = listed (expression ∷ expression ∷ expression ∷ [])
expression_asks of.Explode = single expression
expression_asks of.Gather = listed (expression ∷ expression ∷ leaf (leaves.Small smalls.Flag) ∷ [])
expression_asks of.Filter = listed (expression ∷ expression ∷ [])
expression_asks of.Sort = listed (expression ∷ leaf (leaves.Small smalls.Flag) ∷ leaf (leaves.Small smalls.Flag) ∷ [])
expression_asks of.SortBy = listed (expression ∷ many expression ∷ many (leaf (leaves.Small smalls.Flag)) ∷ many (leaf (leaves.Small smalls.Flag)) ∷ [])
expression_asks of.Agg = listed (leaf (leaves.Small smalls.Method) ∷ expression ∷ [])
expression_asks of.Over = listed (expression ∷ many expression ∷ order ∷ [])
expression_asks of.If = listed (expression ∷ expression ∷ expression ∷ [])
expression_asks of.Fn = listed (leaf leaves.Function ∷ many expression ∷ [])
expression_asks of.Field = listed (expression ∷ leaf leaves.Name ∷ [])
expression_asks of.FieldAt = listed (expression ∷ leaf (leaves.Small smalls.Index) ∷ [])
expression_asks of.KeepName = single expression
expression_asks (of.Named key) = listed (expression ∷ leaf leaves.Name ∷ [])
expression_asks (of.Marker key) = marker_asks key

-- ---- selectors

-- the keys of selectors
abbrev pub selector_rows : List (List ℕ × SelectorKey)
selector_rows =
    (codes "root", from.Root) ∷
    (codes "add", from.Joined joinings.Add) ∷
    (codes "sub", from.Joined joinings.Sub) ∷
    (codes "and", from.Joined joinings.And) ∷
    (codes "xor", from.Joined joinings.Xor) ∷ []

-- what each asks of its value
abbrev pub selector_asks : SelectorKey → Places
selector_asks from.Root = single expression
selector_asks (from.Joined by) = listed (selector ∷ selector ∷ [])

-- ---- plans

-- the keys of plans
abbrev pub plan_rows : List (List ℕ × PlanKey)
plan_rows =
    (codes "scan", by.Scan) ∷
    (codes "empty", by.Empty) ∷
    (codes "filter", by.Filter) ∷
    (codes "select", by.Select) ∷
    (codes "with_columns", by.WithColumns) ∷
    (codes "group_by", by.GroupBy) ∷
    (codes "sort", by.Sort) ∷
    (codes "distinct", by.Distinct) ∷
    (codes "slice", by.Slice) ∷
    (codes "cache", by.Cache) ∷
    (codes "sink", by.Sink) ∷
    (codes "rechunk", by.Rechunk) ∷
    (codes "drop", by.Drop) ∷
    (codes "drop_nulls", by.DropNulls) ∷
    (codes "fill_null", by.FillNull) ∷
    (codes "row_index", by.RowIndex) ∷
    (codes "explode", by.Explode) ∷
    (codes "unpivot", by.Unpivot) ∷
    (codes "rename", by.Rename) ∷
    (codes "unnest", by.Unnest) ∷
    (codes "stats", by.Stats) ∷ []

-- what each asks of its value
abbrev pub plan_asks : PlanKey → Places
plan_asks by.Scan = single (leaf leaves.Table)
plan_asks by.Empty = single (leaf leaves.Columns)
plan_asks by.Filter = listed (plan ∷ expression ∷ [])
plan_asks by.Select = listed (plan ∷ many expression ∷ [])
plan_asks by.WithColumns = listed (plan ∷ many expression ∷ [])
plan_asks by.GroupBy = listed (plan ∷ many expression ∷ many expression ∷ [])
plan_asks by.Sort = listed (plan ∷ many expression ∷ many (leaf (leaves.Small smalls.Flag)) ∷ many (leaf (leaves.Small smalls.Flag)) ∷ [])
plan_asks by.Distinct = listed (plan ∷ optional selector ∷ leaf (leaves.Small smalls.Keep) ∷ [])
plan_asks by.Slice = listed (plan ∷ leaf (leaves.Small smalls.Index) ∷ leaf (leaves.Small smalls.Natural) ∷ [])
plan_asks by.Cache = listed (plan ∷ leaf (leaves.Small smalls.Natural) ∷ [])
plan_asks by.Sink = single plan
plan_asks by.Rechunk = single plan
plan_asks by.Drop = listed (plan ∷ many selector ∷ leaf (leaves.Small smalls.Flag) ∷ [])
plan_asks by.DropNulls = listed (plan ∷ optional expression ∷ [])
plan_asks by.FillNull = listed (plan ∷ expression ∷ [])
plan_asks by.RowIndex = listed (plan ∷ leaf leaves.Name ∷ leaf (leaves.Small smalls.OptionalNatural) ∷ [])
plan_asks by.Explode = listed (plan ∷ many selector ∷ leaf (leaves.Small smalls.Flag) ∷ [])
plan_asks by.Unpivot = listed (plan ∷ many selector ∷ many selector ∷ leaf leaves.OptionalName ∷ leaf leaves.OptionalName ∷ [])
plan_asks by.Rename = listed (plan ∷ many (leaf leaves.Name) ∷ many (leaf leaves.Name) ∷ leaf (leaves.Small smalls.Flag) ∷ [])
plan_asks by.Unnest = listed (plan ∷ many selector ∷ [])
plan_asks by.Stats = listed (plan ∷ leaf (leaves.Small smalls.Statistic) ∷ [])

-- ---- types

-- the keys of types that have parts
abbrev pub type_rows : List (List ℕ × TypeKey)
type_rows =
    (codes "Datetime", types.Datetime) ∷
    (codes "Duration", types.Duration) ∷
    (codes "List", types.List) ∷
    (codes "Struct", types.Struct) ∷ []

-- ---- what an exclude leaves out

-- its keys
abbrev pub excluded_rows : List (List ℕ × ExcludedKey)
excluded_rows =
    (codes "name", excludes.Name) ∷
    (codes "dtype", excludes.Dtype) ∷ []

-- ---- what a value says

-- the key of an operator
abbrev pub bin_key : Key
bin_key = keys.Expression of.Bin

-- what is read of an item, and of a list of them
mutual
  pub data Read : Type 0 where
    name_read : Name → Read
    literal_read : Op → Read
    operator_read : Operator → Read
    method_read : GroupByMethod → Read
    function_read : FunctionExpr → Read
    type_read : Ty → Read
    mode_read : CastOptions → Read
    table_read : ℕ → Columns → Read
    columns_read : Columns → Read
    nothing_read : Read
    flag_read : Bool → Read
    index_read : ℤ → Read
    natural_read : ℕ → Read
    optional_name_read : Option Name → Read
    optional_natural_read : Option ℕ → Read
    keep_read : UniqueKeepStrategy → Read
    statistic_read : StatsFunction → Read
    excluded_read : Excluded → Read
    -- how rows are put in order, if they are, and by which expressions
    order_read : Option SortOptions → List Source → Read
    expression_read : Source → Read
    selector_read : Source → Read
    plan_read : SourcePlan → Read
    many_read : Reads → Read
    -- of a list of selectors
    chosen_read : Reads → Read
    -- of a list of what has no forms
    leaves_read : Leaf → Reads → Read
    -- a plan that no query can write
    other_read : Read

  pub data Reads : Type 0 where
    no_read : Reads
    more_read : Read → Reads → Reads

abbrev pub reads_of : List Read → Reads
reads_of [] = no_read
reads_of (r ∷ rs) = more_read r (reads_of rs)

-- what is read of a list of these
abbrev pub list_read : Asked → Reads → Read
list_read (leaf which) rs = leaves_read which rs
list_read (a_form kinds.Selector) rs = chosen_read rs
list_read _ rs = many_read rs

-- the expressions among them
abbrev pub expressions_in : Reads → List Source
expressions_in no_read = []
expressions_in (more_read (expression_read tree) rs) = tree ∷ expressions_in rs
expressions_in (more_read _ rs) = expressions_in rs

-- the selectors among them
abbrev pub selectors_in : Reads → List Source
selectors_in no_read = []
selectors_in (more_read (selector_read tree) rs) = tree ∷ selectors_in rs
selectors_in (more_read _ rs) = selectors_in rs

-- the flags among them
abbrev pub flags_in : Reads → List Bool
flags_in no_read = []
flags_in (more_read (flag_read flag) rs) = flag ∷ flags_in rs
flags_in (more_read _ rs) = flags_in rs

-- the names among them
abbrev pub names_in : Reads → List Name
names_in no_read = []
names_in (more_read (name_read name) rs) = name ∷ names_in rs
names_in (more_read _ rs) = names_in rs

-- the types among them
abbrev pub types_in : Reads → List Ty
types_in no_read = []
types_in (more_read (type_read type) rs) = type ∷ types_in rs
types_in (more_read _ rs) = types_in rs

-- the numbers among them
abbrev pub indexes_in : Reads → List ℤ
indexes_in no_read = []
indexes_in (more_read (index_read index) rs) = index ∷ indexes_in rs
indexes_in (more_read _ rs) = indexes_in rs

-- what is left out among them
abbrev pub excluded_in : Reads → List Excluded
excluded_in no_read = []
excluded_in (more_read (excluded_read excluded) rs) = excluded ∷ excluded_in rs
excluded_in (more_read _ rs) = excluded_in rs

-- no order, and one by what a list says
abbrev pub no_order : Read
no_order = order_read None []

abbrev pub order_says : List Read → Option Read
order_says (expression_read by ∷ flag_read descending ∷ flag_read nulls_last ∷ []) =
    Some (order_read (Some (record { descending = descending; nulls_last = nulls_last })) (by ∷ []))
order_says _ = None

-- no list of expressions, or these
abbrev pub optional_read : Option (List Source) → Read
optional_read None = nothing_read
optional_read (Some trees) = many_read (reads_of (map expression_read trees))

-- no list of selectors, or these
abbrev pub subset_read : Option (List Source) → Read
subset_read None = nothing_read
subset_read (Some trees) = chosen_read (reads_of (map selector_read trees))

abbrev pub marker_says : MarkerKey → List Read → Option Source
marker_says marks.Cols (leaves_read _ names ∷ []) = Some (node (ColumnsOp (names_in names)) no_more)
marker_says marks.Dtypes (leaves_read _ types ∷ []) = Some (node (DtypeColumnOp (types_in types)) no_more)
marker_says marks.At (leaves_read _ places ∷ []) = Some (node (IndexColumnOp (indexes_in places)) no_more)
marker_says marks.Nth (index_read place ∷ []) = Some (node (NthOp place) no_more)
marker_says marks.All (nothing_read ∷ []) = Some (node WildcardOp no_more)
marker_says marks.Exclude (expression_read marker ∷ leaves_read _ excluded ∷ []) = Some (node (ExcludeOp (excluded_in excluded)) (more marker no_more))
marker_says marks.Selector (selector_read selector ∷ []) = Some (node SelectorOp (more selector no_more))
marker_says _ _ = None

-- what a name does with an expression
abbrev pub named_op : NamedKey → Name → SourceOp
named_op named.Alias text = Plain (AliasOp text)
named_op named.Prefix text = RenameOp (AddPrefix text)
named_op named.Suffix text = RenameOp (AddSuffix text)
named_op named.Fixed text = RenameOp (SetName text)

abbrev pub expression_says : ExpressionKey → List Read → Option Source
expression_says of.Col (name_read name ∷ []) = Some (node (Plain (ColumnOp name)) no_more)
expression_says (of.Literal how) (literal_read op ∷ []) = Some (node (Plain op) no_more)
expression_says of.Bin (operator_read op ∷ expression_read left ∷ expression_read right ∷ []) =
    Some (node (Plain (BinaryOp op)) (more left (more right no_more)))
expression_says of.Agg (method_read method ∷ expression_read input ∷ []) = Some (aggregated method input)
expression_says of.Over (expression_read function ∷ many_read keys ∷ order_read way by ∷ []) =
    Some (node (Plain (WindowOp way)) (more function (children_from (by ++ expressions_in keys))))
expression_says of.If (expression_read predicate ∷ expression_read truthy ∷ expression_read falsy ∷ []) =
    Some (node (Plain TernaryOp) (more truthy (more predicate (more falsy no_more))))
expression_says of.Fn (function_read function ∷ many_read inputs ∷ []) = Some (node (function_source function) (children_from (expressions_in inputs)))
expression_says of.Field (expression_read input ∷ name_read name ∷ []) =
    Some (node (Plain (FunctionOp (functions.FieldByName name) [])) (more input no_more))
expression_says of.FieldAt (expression_read input ∷ index_read place ∷ []) = Some (node (FieldAtOp place) (more input no_more))
expression_says of.Cast (expression_read operand ∷ type_read type ∷ mode_read mode ∷ []) =
    Some (node (Plain (CastOp type mode)) (more operand no_more))
expression_says of.Len (nothing_read ∷ []) = Some (node (Plain LenOp) no_more)
expression_says of.Slice (expression_read input ∷ expression_read offset ∷ expression_read count ∷ []) =
    Some (node (Plain SliceOp) (more input (more offset (more count no_more))))
expression_says of.Explode (expression_read input ∷ []) = Some (node (Plain ExplodeOp) (more input no_more))
expression_says of.Gather (expression_read input ∷ expression_read index ∷ flag_read returns_scalar ∷ []) =
    Some (node (Plain (GatherOp returns_scalar)) (more input (more index no_more)))
expression_says of.Filter (expression_read input ∷ expression_read truth ∷ []) = Some (node (Plain FilterOp) (more input (more truth no_more)))
expression_says of.Sort (expression_read input ∷ flag_read descending ∷ flag_read nulls_last ∷ []) =
    Some (node (Plain (SortOp (record { descending = descending; nulls_last = nulls_last }))) (more input no_more))
expression_says of.SortBy (expression_read input ∷ many_read keys ∷ leaves_read _ descending ∷ leaves_read _ nulls_last ∷ []) =
    Some (node (Plain (SortByOp (flags_in descending) (flags_in nulls_last))) (more input (children_from (expressions_in keys))))
expression_says of.KeepName (expression_read operand ∷ []) = Some (node (RenameOp KeepRoot) (more operand no_more))
expression_says (of.Named key) (expression_read operand ∷ name_read text ∷ []) = Some (node (named_op key text) (more operand no_more))
expression_says (of.Marker key) found = marker_says key found
expression_says _ _ = None

-- how two selectors are joined
abbrev pub joined_by : Joining → SetRule
joined_by joinings.Add = Add
joined_by joinings.Sub = Sub
joined_by joinings.And = Intersect
joined_by joinings.Xor = ExclusiveOr

abbrev pub selector_says : SelectorKey → List Read → Option Source
selector_says from.Root (expression_read tree ∷ []) = Some (node RootOp (more tree no_more))
selector_says (from.Joined by) (selector_read first ∷ selector_read second ∷ []) = Some (of_two (joined_by by) first second)
selector_says _ _ = None

abbrev pub plan_says : PlanKey → List Read → Option SourcePlan
plan_says by.Scan (table_read number columns ∷ []) = Some (node (scan_op (Some number) columns) no_more)
plan_says by.Empty (columns_read columns ∷ []) = Some (node (scan_op None columns) no_more)
plan_says by.Filter (plan_read input ∷ expression_read predicate ∷ []) =
    Some (source_filter predicate input)
plan_says by.Select (plan_read input ∷ many_read outputs ∷ []) =
    Some (source_select (expressions_in outputs) input)
plan_says by.WithColumns (plan_read input ∷ many_read outputs ∷ []) =
    Some (source_hstack (expressions_in outputs) input)
plan_says by.GroupBy (plan_read input ∷ many_read keys ∷ many_read aggs ∷ []) =
    Some (source_group_by (expressions_in keys) (expressions_in aggs) input)
plan_says by.Sort (plan_read input ∷ many_read keys ∷ leaves_read _ descending ∷ leaves_read _ nulls_last ∷ []) =
    Some (source_over (SortWork (flags_in descending) (flags_in nulls_last)) (expressions_in keys ∷ []) input)
plan_says by.Distinct (plan_read input ∷ nothing_read ∷ keep_read keep ∷ []) = Some (source_distinct keep None input)
plan_says by.Distinct (plan_read input ∷ chosen_read subset ∷ keep_read keep ∷ []) =
    Some (source_distinct keep (Some (selectors_in subset)) input)
plan_says by.Slice (plan_read input ∷ index_read offset ∷ natural_read count ∷ []) = Some (source_slice offset count input)
plan_says by.Cache (plan_read input ∷ natural_read id ∷ []) = Some (source_cache id input)
plan_says by.Sink (plan_read input ∷ []) = Some (source_sink input)
plan_says by.Rechunk (plan_read input ∷ []) = Some (source_pass RechunkPass input)
plan_says by.Drop (plan_read input ∷ chosen_read selectors ∷ flag_read strict ∷ []) =
    Some (source_drop (selectors_in selectors) strict input)
plan_says by.DropNulls (plan_read input ∷ nothing_read ∷ []) = Some (source_filter (all_known_values None) input)
plan_says by.DropNulls (plan_read input ∷ many_read subset ∷ []) =
    Some (source_filter (all_known_values (Some (expressions_in subset))) input)
plan_says by.FillNull (plan_read input ∷ expression_read value ∷ []) = Some (source_select (nulls_filled value ∷ []) input)
plan_says by.RowIndex (plan_read input ∷ name_read name ∷ optional_natural_read offset ∷ []) =
    Some (source_over (FunctionWork (RowIndexFunction name offset)) [] input)
plan_says by.Explode (plan_read input ∷ chosen_read columns ∷ flag_read allow_empty ∷ []) =
    Some (source_over (CallWork (ExplodeCall allow_empty)) (selectors_in columns ∷ []) input)
plan_says by.Unpivot (plan_read input ∷ chosen_read on ∷ chosen_read index ∷ optional_name_read variable ∷ optional_name_read value ∷ []) =
    Some (source_over (CallWork (UnpivotCall variable value)) (selectors_in on ∷ selectors_in index ∷ []) input)
plan_says by.Rename (plan_read input ∷ leaves_read _ existing ∷ leaves_read _ new ∷ flag_read strict ∷ []) =
    Some (source_over (CallWork (RenameCall (names_in existing) (names_in new) strict)) [] input)
plan_says by.Unnest (plan_read input ∷ chosen_read columns ∷ []) = Some (source_over (CallWork UnnestCall) (selectors_in columns ∷ []) input)
plan_says by.Stats (plan_read input ∷ statistic_read statistic ∷ []) = Some (source_over (CallWork (StatsCall statistic)) [] input)
plan_says _ _ = None

-- ---- keys of any kind

abbrev pub row_named : {K : Type 0} → List (List ℕ × K) → List ℕ → Option (List ℕ × K)
row_named [] word = None
row_named (row ∷ rows) word = if bytes_eq row.0 word then Some row else row_named rows word

abbrev pub key_named : Kind → List ℕ → Option (List ℕ × Key)
key_named kinds.Expression word = option_map (λ row. (row.0, keys.Expression row.1)) (row_named expression_rows word)
key_named kinds.Selector word = option_map (λ row. (row.0, keys.Selector row.1)) (row_named selector_rows word)
key_named kinds.Plan word = option_map (λ row. (row.0, keys.Plan row.1)) (row_named plan_rows word)

abbrev pub kind_of : Key → Kind
kind_of (keys.Expression key) = kinds.Expression
kind_of (keys.Selector key) = kinds.Selector
kind_of (keys.Plan key) = kinds.Plan

abbrev pub asks : Key → Places
asks (keys.Expression key) = expression_asks key
asks (keys.Selector key) = selector_asks key
asks (keys.Plan key) = plan_asks key

abbrev pub says : Key → List Read → Option Read
says (keys.Expression key) found = option_map expression_read (expression_says key found)
says (keys.Selector key) found = option_map selector_read (selector_says key found)
says (keys.Plan key) found = option_map plan_read (plan_says key found)

-- ---- what is read is what was asked for

abbrev pub is_literal : Read → Bool
is_literal (literal_read op) = true
is_literal _ = false

abbrev mutual
  pub fits : Asked → Read → Bool
  fits (a_form kinds.Expression) (expression_read tree) = true
  fits (a_form kinds.Selector) (selector_read tree) = true
  fits (a_form kinds.Plan) (plan_read tree) = true
  fits (leaf leaves.Name) (name_read name) = true
  fits (leaf (leaves.Literal how)) r = is_literal r
  fits (leaf (leaves.Small smalls.Operator)) (operator_read op) = true
  fits (leaf (leaves.Small smalls.Method)) (method_read method) = true
  fits (leaf leaves.Dtype) (type_read type) = true
  fits (leaf (leaves.Small smalls.Mode)) (mode_read mode) = true
  fits (leaf leaves.Table) (table_read number columns) = true
  fits (leaf leaves.Columns) (columns_read columns) = true
  fits (leaf (leaves.Small smalls.Nothing)) nothing_read = true
  fits (leaf (leaves.Small smalls.Flag)) (flag_read flag) = true
  fits (leaf (leaves.Small smalls.Index)) (index_read index) = true
  fits (leaf (leaves.Small smalls.Natural)) (natural_read natural) = true
  fits (leaf leaves.OptionalName) (optional_name_read name) = true
  fits (leaf (leaves.Small smalls.OptionalNatural)) (optional_natural_read natural) = true
  fits (leaf (leaves.Small smalls.Keep)) (keep_read keep) = true
  fits (leaf (leaves.Small smalls.Statistic)) (statistic_read statistic) = true
  fits (leaf leaves.Excluded) (excluded_read excluded) = true
  fits (leaf leaves.Function) (function_read function) = true
  fits order (order_read way by) = true
  fits (optional a) nothing_read = true
  fits (optional (a_form kinds.Expression)) (many_read rs) = all_fit expression rs
  fits (optional (a_form kinds.Selector)) (chosen_read rs) = all_fit selector rs
  fits (many (leaf leaves.Name)) (leaves_read leaves.Name rs) = all_fit (leaf leaves.Name) rs
  fits (many (leaf leaves.Dtype)) (leaves_read leaves.Dtype rs) = all_fit (leaf leaves.Dtype) rs
  fits (many (leaf (leaves.Small smalls.Flag))) (leaves_read (leaves.Small smalls.Flag) rs) = all_fit (leaf (leaves.Small smalls.Flag)) rs
  fits (many (leaf (leaves.Small smalls.Index))) (leaves_read (leaves.Small smalls.Index) rs) = all_fit (leaf (leaves.Small smalls.Index)) rs
  fits (many (leaf leaves.Excluded)) (leaves_read leaves.Excluded rs) = all_fit (leaf leaves.Excluded) rs
  fits (many (a_form kinds.Expression)) (many_read rs) = all_fit expression rs
  fits (many (a_form kinds.Selector)) (chosen_read rs) = all_fit selector rs
  fits (many (a_form kinds.Plan)) (many_read rs) = all_fit plan rs
  fits (many (many a)) (many_read rs) = all_fit (many a) rs
  fits _ _ = false

  pub all_fit : Asked → Reads → Bool
  all_fit a no_read = true
  all_fit a (more_read r rs) = fits a r && all_fit a rs

-- the places that a key has
abbrev pub asked_in : Places → List Asked
asked_in (single a) = a ∷ []
asked_in (listed ps) = ps

pub record Fits (asked : Asked) (found : Read) : Type 0 where
  pub fit : fits asked found ≡ true

abbrev pub EachFits : List Asked → List Read → Type 0
EachFits [] [] = Unit {0}
EachFits (a ∷ ps) (r ∷ rs) = Fits a r × EachFits ps rs
EachFits _ _ = ⊥

-- as many are read as are asked for, each what is asked
pub record AllFit (asked : List Asked) (found : List Read) : Type 0 where
  pub count : length found ≡ length asked
  pub each : EachFits asked found

-- ---- the code's table

abbrev pub listed_leaf : ListLeaf → Leaf
listed_leaf lists.Name = leaves.Name
listed_leaf lists.Dtype = leaves.Dtype
listed_leaf lists.Flag = leaves.Small smalls.Flag
listed_leaf lists.Index = leaves.Small smalls.Index
listed_leaf lists.Excluded = leaves.Excluded

abbrev pub place_view : Place → Asked
place_view (places.Form kind) = a_form kind
place_view (places.Leaf which) = leaf which
place_view places.Expressions = many expression
place_view places.Selectors = many selector
place_view places.Order = order
place_view places.OptionalExpressions = optional expression
place_view places.OptionalSelectors = optional selector
place_view (places.Leaves which) = many (leaf (listed_leaf which))

abbrev pub places_view : CodePlaces → Places
places_view (counts.One p) = single (place_view p)
places_view (counts.Listed ps) = listed (map place_view ps.now)
