-- What a query's call of a function from a frame to a frame is resolved to.
-- Selectors become names. An explode of no columns, where it is allowed, is its input itself. Statistics are a select of an
-- aggregate of each column that has one, and of a null of each other one's type.
use Rattle.std.specs.Prelude.{◌==◌, ◌&&◌, List, [], ◌∷◌, map, length, not, Option, Some, None, Bool, true, Result, Ok, Err, if◌then◌else◌}
use Rattle.std.specs.List.{list_any}
use Rattle.plan_types.specs.Types.{Ty, NullType, is_ord}
use Rattle.plan_types.specs.Schemas.{Name, Columns, is_among, names_of}
use Rattle.plan_types.specs.Values.{NullValue}
use Rattle.plan_types.specs.declared.dtype.CastOptions.TheVariants.{NonStrict}
use Rattle.plan_types.specs.declared.error.ErrorKind.{ErrorKind}
use Rattle.plan_types.specs.declared.error.ErrorKind.TheVariants.{ColumnNotFound}
use Rattle.plan_dsl.specs.declared.aggregate.GroupByMethod.{GroupByMethod}
use Rattle.plan_dsl.specs.declared.aggregate.GroupByMethod.TheVariants as method
use Rattle.plan_dsl.specs.declared.function.StatsFunction.{StatsFunction}
use Rattle.plan_dsl.specs.declared.function.StatsFunction.TheVariants.{Sum, Min, Max}
use Rattle.plan_dsl.specs.Drops.{have_names}
use Rattle.plan_dsl.specs.Markers.{names_of_selectors}
use Rattle.plan_dsl.specs.Ops.{Expression, AggOp, AliasOp, CastOp, ColumnOp, LiteralOp}
use Rattle.plan_dsl.specs.Plans.{Work, SelectWork, FunctionWork, CallWork, PassWork, SamePass}
use Rattle.plan_dsl.specs.Refusals.{then_ok}
use Rattle.plan_dsl.specs.Signatures.{is_summable}
use Rattle.plan_dsl.specs.Sources.{Source}
use Rattle.plan_dsl.specs.TableFunctions.{TableCall, ExplodeCall, UnpivotCall, RenameCall, UnnestCall, StatsCall, ExplodeFunction, UnpivotFunction, RenameFunction, UnnestFunction}
use Rattle.plan_dsl.specs.Trees.{node, no_more, more}

-- ---- statistics

abbrev pub method_where : Bool → GroupByMethod → Option GroupByMethod
method_where test own = if test then Some own else None

-- the aggregate of a column of the type, if it has one
abbrev pub statistic_of : StatsFunction → Ty → Option GroupByMethod
statistic_of Sum type = method_where (is_summable type) method.Sum
statistic_of Min type = method_where (is_ord type) method.Min
statistic_of Max type = method_where (is_ord type) method.Max

-- the expression for a column, under its name
abbrev pub statistic_by : Option GroupByMethod → Name × Ty → Expression
statistic_by (Some own) column = node (AggOp own) (more (node (ColumnOp column.0) no_more) no_more)
statistic_by None column =
    node (AliasOp column.0) (more (node (CastOp column.1 NonStrict) (more (node (LiteralOp NullType NullValue) no_more) no_more)) no_more)

abbrev pub statistics : StatsFunction → Columns → List Expression
statistics statistic schema = map (λ column. statistic_by (statistic_of statistic column.1) column) schema

-- ---- calls

-- an explode of columns, or of none, which may be allowed
abbrev pub explode_work : Bool → List Name → Work
explode_work true [] = PassWork SamePass
explode_work allow_empty names = FunctionWork (ExplodeFunction names)

-- whether one of the names stands
abbrev pub has_some : Columns → List Name → Bool
has_some schema names = list_any (λ name. is_among name (names_of schema)) names

-- a rename, which may ask that each of as many columns as there are new names stands
abbrev pub rename_work : Columns → List Name → List Name → Bool → Result Work (List ErrorKind)
rename_work schema existing new strict =
    if length existing == length new && (strict && not (have_names schema existing)) then Err (ColumnNotFound ∷ []) else Ok (FunctionWork (RenameFunction existing new (has_some schema new)))

-- what a call does, over its lists of selectors. No query has other lists
abbrev pub called_work : Columns → TableCall → List (List Source) → Result Work (List ErrorKind)
called_work schema (ExplodeCall allow_empty) (selectors ∷ []) = then_ok (names_of_selectors schema selectors) (λ names. Ok (explode_work allow_empty names))
called_work schema (UnpivotCall variable value) (on ∷ index ∷ []) =
    then_ok (names_of_selectors schema on) (λ names. then_ok (names_of_selectors schema index) (λ others. Ok (FunctionWork (UnpivotFunction names others variable value))))
called_work schema (RenameCall existing new strict) [] = rename_work schema existing new strict
called_work schema UnnestCall (selectors ∷ []) = then_ok (names_of_selectors schema selectors) (λ names. Ok (FunctionWork (UnnestFunction names)))
called_work schema (StatsCall statistic) [] = Ok SelectWork
called_work schema call lists = Ok (CallWork call)

-- the expressions of a call
abbrev pub called_lists : Columns → TableCall → List (List Expression)
called_lists schema (StatsCall statistic) = statistics statistic schema ∷ []
called_lists schema call = []
