-- The trees of expressions and of selectors, as queries write them.
use Rattle.std.specs.Prelude.{List, [], ◌∷◌, map, Bool, if◌then◌else◌, Option, Some, None}
use Rattle.std.specs.Global.{Box}
use Rattle.plan_types.specs.Types.{ty}
use Rattle.plan_dsl.specs.declared.aggregate.AggExpr.{AggExpr}
use Rattle.plan_dsl.specs.declared.aggregate.AggExpr.TheVariants as agg
use Rattle.plan_dsl.specs.declared.aggregate.GroupByMethod.{GroupByMethod}
use Rattle.plan_dsl.specs.declared.aggregate.GroupByMethod.TheVariants.{Min, NanMin, Max, NanMax, NUnique, First, Last, Implode, Sum, Count, Groups}
use Rattle.plan_dsl.specs.declared.expr.Expr.{Expr, Row_of-Expr, end_of-Expr, more_of-Expr, Held-Expr-Window-2, None', Some'}
use Rattle.plan_dsl.specs.declared.expr.Expr.TheVariants.{Column, Columns, DtypeColumn, IndexColumn, Literal, BinaryExpr', Cast', Len, Slice', Alias', Explode', Gather', Filter', Sort', SortBy', Agg, Window', Ternary', Function', Wildcard, Exclude', KeepName', Nth, RenameAlias', Selector as Selecting}
use Rattle.plan_dsl.specs.declared.expr.Exprs.{Exprs}
use Rattle.plan_dsl.specs.declared.function_expr.FunctionExpr.{FunctionExpr}
use Rattle.plan_dsl.specs.declared.function_expr.FunctionExpr.TheVariants.{FieldByIndex}
use Rattle.plan_dsl.specs.declared.marker.Excluded.{Excluded as ExcludedValue}
use Rattle.plan_dsl.specs.declared.marker.Excluded.TheVariants.{Name, Dtype}
use Rattle.plan_dsl.specs.declared.marker.RenameAliasFn.{RenameAliasFn}
use Rattle.plan_dsl.specs.declared.marker.RenameAliasFn.TheVariants.{Prefix, Suffix, Fixed}
use Rattle.plan_dsl.specs.declared.selector.Selector.{Selector}
use Rattle.plan_dsl.specs.declared.selector.Selector.TheVariants.{Root', Add', Sub', ExclusiveOr', Intersect'}
use Rattle.plan_dsl.specs.declared.selector.Selectors.{Selectors}
use Rattle.plan_dsl.specs.declared.sort_options.SortMultipleOptions.{SortMultipleOptions}
use Rattle.plan_dsl.specs.declared.sort_options.SortOptions.{SortOptions}
use Rattle.plan_dsl.specs.Trees.{Trees, node, no_more, more}
use Rattle.plan_dsl.specs.Literals.{literal_op}
use Rattle.plan_dsl.specs.Ops.{Op, ColumnOp, BinaryOp, CastOp, LenOp, SliceOp, AliasOp, ExplodeOp, GatherOp, FilterOp, SortOp, SortByOp, AggOp, WindowOp, TernaryOp, FunctionOp, Expression}
use Rattle.plan_dsl.specs.Sources.{Excluded, ExcludedName, ExcludedType, Renaming, KeepRoot, AddPrefix, AddSuffix, SetName, Add, Sub, Intersect, ExclusiveOr, SourceOp, Plain, WildcardOp, ColumnsOp, DtypeColumnOp, IndexColumnOp, NthOp, ExcludeOp, SelectorOp, RootOp, RenameOp, FieldAtOp, Source, unwritten, of_two}

abbrev pub sort_by_op : SortMultipleOptions → Op
sort_by_op options = SortByOp options.descending.items.value.items options.nulls_last.items.value.items

-- an aggregate of an expression
abbrev pub aggregated : GroupByMethod → Source → Source
aggregated method input = node (Plain (AggOp method)) (more input no_more)

-- the method of a least and of a greatest value, by whether what is no number would be passed on: there is none
abbrev pub least_by : Bool → GroupByMethod
least_by propagate_nans = if propagate_nans then NanMin else Min

abbrev pub greatest_by : Bool → GroupByMethod
greatest_by propagate_nans = if propagate_nans then NanMax else Max

-- the method of an aggregate
abbrev pub method_of : AggExpr → GroupByMethod
method_of (agg.Min' p input propagate_nans) = least_by propagate_nans
method_of (agg.Max' p input propagate_nans) = greatest_by propagate_nans
method_of (agg.NUnique' p input) = NUnique
method_of (agg.First' p input) = First
method_of (agg.Last' p input) = Last
method_of (agg.Implode' p input) = Implode
method_of (agg.Count' p input include_nulls) = Count include_nulls
method_of (agg.Sum' p input) = Sum
method_of (agg.AggGroups' p input) = Groups

-- what an exclude leaves out
abbrev pub excluded_of : ExcludedValue → Excluded
excluded_of (Name name) = ExcludedName name
excluded_of (Dtype dtype) = ExcludedType (ty dtype)

-- what a renaming form makes of a name
abbrev pub renaming_of : RenameAliasFn → Renaming
renaming_of (Prefix text) = AddPrefix text
renaming_of (Suffix text) = AddSuffix text
renaming_of (Fixed text) = SetName text

-- a function of operands: a field at a place is no plan's op
abbrev pub function_source : FunctionExpr → SourceOp
function_source (FieldByIndex place) = FieldAtOp place
function_source function = Plain (FunctionOp function [])

-- how the groups of a window are put in order, if they are
abbrev pub held_way : Held-Expr-Window-2 → Option SortOptions
held_way None' = None
held_way (Some' p order options) = Some options

abbrev mutual
  pub tree_of : Expr → Source
  tree_of (Column name) = node (Plain (ColumnOp name)) no_more
  tree_of (Columns names) = node (ColumnsOp names.items) no_more
  tree_of (DtypeColumn types) = node (DtypeColumnOp (map ty types.items)) no_more
  tree_of (IndexColumn places) = node (IndexColumnOp places.items) no_more
  tree_of (Literal value) = node (Plain (literal_op value)) no_more
  tree_of (BinaryExpr' p left operator q right) = node (Plain (BinaryOp operator)) (more (tree_of left) (more (tree_of right) no_more))
  tree_of (Cast' p expr dtype options) = node (Plain (CastOp (ty dtype) options)) (more (tree_of expr) no_more)
  tree_of Len = node (Plain LenOp) no_more
  tree_of (Slice' p input q offset r length) = node (Plain SliceOp) (more (tree_of input) (more (tree_of offset) (more (tree_of length) no_more)))
  tree_of (Explode' p input) = node (Plain ExplodeOp) (more (tree_of input) no_more)
  tree_of (Gather' p expr q idx returns_scalar) = node (Plain (GatherOp returns_scalar)) (more (tree_of expr) (more (tree_of idx) no_more))
  tree_of (Filter' p input q by) = node (Plain FilterOp) (more (tree_of input) (more (tree_of by) no_more))
  tree_of (Sort' p expr options) = node (Plain (SortOp options)) (more (tree_of expr) no_more)
  tree_of (SortBy' p expr shape by sort_options) = node (Plain (sort_by_op sort_options)) (more (tree_of expr) (row_trees by))
  tree_of (Alias' p expr name) = node (Plain (AliasOp name)) (more (tree_of expr) no_more)
  tree_of (Agg aggregate) = aggregated (method_of aggregate) (input_tree aggregate)
  tree_of (Window' p function shape partition_by order_by options) = node (Plain (WindowOp (held_way order_by))) (more (tree_of function) (behind_order order_by (row_trees partition_by)))
  tree_of (Ternary' p predicate q truthy r falsy) = node (Plain TernaryOp) (more (tree_of truthy) (more (tree_of predicate) (more (tree_of falsy) no_more)))
  tree_of (Function' shape input function) = node (function_source function) (row_trees input)
  tree_of Wildcard = node WildcardOp no_more
  tree_of (Exclude' p marker excluded) = node (ExcludeOp (map excluded_of excluded.items)) (more (tree_of marker) no_more)
  tree_of (KeepName' p expr) = node (RenameOp KeepRoot) (more (tree_of expr) no_more)
  tree_of (Nth place) = node (NthOp place) no_more
  tree_of (RenameAlias' function p expr) = node (RenameOp (renaming_of function)) (more (tree_of expr) no_more)
  tree_of (Selecting selector) = node SelectorOp (more (selector_tree selector) no_more)

  -- what orders the groups of a window, if anything does, in front of its keys
  pub behind_order : Held-Expr-Window-2 → Trees SourceOp → Trees SourceOp
  behind_order None' keys = keys
  behind_order (Some' p order options) keys = more (tree_of order) keys

  -- what an aggregate is made of
  pub input_tree : AggExpr → Source
  input_tree (agg.Min' p input propagate_nans) = tree_of input
  input_tree (agg.Max' p input propagate_nans) = tree_of input
  input_tree (agg.NUnique' p input) = tree_of input
  input_tree (agg.First' p input) = tree_of input
  input_tree (agg.Last' p input) = tree_of input
  input_tree (agg.Implode' p input) = tree_of input
  input_tree (agg.Count' p input include_nulls) = tree_of input
  input_tree (agg.Sum' p input) = tree_of input
  input_tree (agg.AggGroups' p input) = tree_of input

  pub selector_tree : Selector → Source
  selector_tree (Root' p expr) = node RootOp (more (tree_of expr) no_more)
  selector_tree (Add' p first q second) = of_two Add (selector_tree first) (selector_tree second)
  selector_tree (Sub' p first q second) = of_two Sub (selector_tree first) (selector_tree second)
  selector_tree (ExclusiveOr' p first q second) = of_two ExclusiveOr (selector_tree first) (selector_tree second)
  selector_tree (Intersect' p first q second) = of_two Intersect (selector_tree first) (selector_tree second)

  -- the trees of a row
  pub row_trees : {n : _} → Row_of-Expr n → Trees SourceOp
  row_trees end_of-Expr = no_more
  row_trees (more_of-Expr first rest) = more (tree_of first) (row_trees rest)

abbrev pub agg_tree : AggExpr → Source
agg_tree aggregate = aggregated (method_of aggregate) (input_tree aggregate)

-- the order of a window, if there is one: how, and by which tree
abbrev pub way_of : Option (Box Expr × SortOptions) → Option SortOptions
way_of None = None
way_of (Some order) = Some order.1

abbrev pub order_trees : Option (Box Expr × SortOptions) → List Source
order_trees None = []
order_trees (Some order) = tree_of order.0.value ∷ []

-- the trees of expressions, and of selectors
abbrev pub trees_of : Exprs → List Source
trees_of exprs = map tree_of exprs.items.items

abbrev pub selector_trees : Selectors → List Source
selector_trees selectors = map selector_tree selectors.items.items

-- the expression of one that has plans' ops alone
abbrev pub plain_tree : Expr → Expression
plain_tree expr = unwritten (tree_of expr)

abbrev pub plain_trees : Exprs → List Expression
plain_trees exprs = map plain_tree exprs.items.items
