-- What a node does with the columns of its operands.
-- A column is a list of values.
use Rattle.std.specs.Prelude.{ℕ, pos, Bool, List, [], ◌∷◌, map, length, if◌then◌else◌}
use Rattle.plan_types.specs.Types.{Ty, same_type}
use Rattle.plan_types.specs.Schemas.{Name}
use Rattle.plan_types.specs.Values.{Val, IntValue}
use Rattle.plan_types.specs.Outcomes.{Outcome, Done, Stuck, then_do}
use Rattle.plan_types.specs.Casts.{cast, wrapped}
use Rattle.plan_types.specs.Frames.{Frame, value_in, row_at}
use Rattle.plan_types.specs.declared.dtype.CastOptions.{CastOptions}
use Rattle.plan_dsl.specs.declared.operator.Operator.{Operator}
use Rattle.plan_dsl.specs.Operators.{operator_value}
use Rattle.plan_dsl.specs.Slices.{slice_values}
use Rattle.plan_dsl.specs.Sorting.{key_options, sort_values, sorted_rows}
use Rattle.plan_dsl.specs.Picks.{explode_values, gather_values, where_true}
use Rattle.plan_dsl.specs.Aggregates.{aggregate_value}
use Rattle.plan_dsl.specs.Registry.{Registry}
use Rattle.plan_dsl.specs.FunctionValues.{function_values, ternary_value}
use Rattle.plan_dsl.specs.Ops.{Op, ColumnOp, LiteralOp, BinaryOp, CastOp, LenOp, SliceOp, AliasOp, ExplodeOp, GatherOp, FilterOp, SortOp, SortByOp, AggOp, TernaryOp, FunctionOp}
pub use Rattle.plan_dsl.specs.Rows.{common_length, stretched, for_rows, in_front, at_length, key_rows, value_before, length_of_all, rows_of, side_by_side, each_row, by_row}

-- what an expression gives on the rows of these numbers
abbrev pub Meaning : Type 0
Meaning = List ℕ → Outcome (List Val)

abbrev pub stuck : Meaning
stuck rows = Stuck

-- what operands give on the rows of these numbers, each evaluated once. The first that gives nothing is the answer
abbrev pub given : List Meaning → List ℕ → Outcome (List (List Val))
given [] rows = Done []
given (operand ∷ operands) rows = then_do (operand rows) (λ column. then_do (given operands rows) (λ columns. Done (column ∷ columns)))

-- a column's cast
abbrev pub cast_values : Ty → Ty → CastOptions → List Val → Outcome (List Val)
cast_values from target options [] = Done []
cast_values from target options (value ∷ values) = value_before (cast value from target options) (cast_values from target options values)

-- a cast, which to the own type changes nothing: of a column, and of what an operand gives
abbrev pub cast_column : Ty → Ty → CastOptions → List Val → Outcome (List Val)
cast_column from target options values = if same_type from target then Done values else cast_values from target options values

abbrev pub cast_meaning : Ty → Ty → CastOptions → Meaning → Meaning
cast_meaning from target options input =
    if same_type from target then input else (λ rows. then_do (input rows) (cast_values from target options))

-- the values of an operator at each place
abbrev pub at_each : (Val → Val → Val) → List Val → List Val → List Val
at_each f [] right = []
at_each f (x ∷ left) [] = []
at_each f (x ∷ left) (y ∷ right) = f x y ∷ at_each f left right

-- an operator on two columns, the first of that type
abbrev pub operator_values : Operator → Ty → Ty → List Val → List Val → Outcome (List Val)
operator_values operator from type left right =
    at_length (common_length (length left) (length right)) (λ count. at_each (operator_value operator from type) (stretched count left) (stretched count right))

-- the values of a column beside which another is true, at the common length
abbrev pub filter_values : List Val → List Val → Outcome (List Val)
filter_values values truths =
    at_length (common_length (length values) (length truths)) (λ count. where_true (stretched count truths) (stretched count values))

-- values in the order of columns of keys, by a flag for each or one for all
abbrev pub sort_by_values : List Bool → List Bool → List Val → List (List Val) → Outcome (List Val)
sort_by_values descending nulls_last values keys =
    then_do (key_rows (length values) keys) (λ rows. Done (map (λ row. row.0) (sorted_rows (key_options (length keys) descending nulls_last) rows values)))

-- a frame's column at these rows
abbrev pub column_values : Frame → Name → List ℕ → List Val
column_values frame name rows = map (λ number. value_in frame.schema name (row_at frame number)) rows

-- what a node gives on rows of a frame: of its operands' types, its own type, and its operands' columns
abbrev pub kernel : Registry → Frame → List ℕ → Op → List Ty → Ty → List (List Val) → Outcome (List Val)
kernel registry frame rows (ColumnOp name) [] type [] = Done (column_values frame name rows)
kernel registry frame rows (LiteralOp own value) [] type [] = Done (value ∷ [])
kernel registry frame rows (BinaryOp operator) (from ∷ types) type (left ∷ right ∷ []) = operator_values operator from type left right
kernel registry frame rows (CastOp target options) (from ∷ []) type (column ∷ []) = cast_column from target options column
kernel registry frame rows LenOp [] type [] = Done (IntValue (wrapped type (pos (length rows))) ∷ [])
kernel registry frame rows SliceOp types type (values ∷ offset ∷ count ∷ []) = slice_values values offset count
kernel registry frame rows ExplodeOp types type (values ∷ []) = Done (explode_values values)
kernel registry frame rows (GatherOp returns_scalar) types type (values ∷ indices ∷ []) = gather_values values indices
kernel registry frame rows FilterOp types type (values ∷ truths ∷ []) = filter_values values truths
kernel registry frame rows (SortOp options) types type (values ∷ []) = Done (sort_values options values)
kernel registry frame rows (SortByOp descending nulls_last) types type (values ∷ keys) = sort_by_values descending nulls_last values keys
kernel registry frame rows (AliasOp name) types type (column ∷ []) = Done column
kernel registry frame rows (AggOp method) types type (values ∷ []) = Done (aggregate_value method type rows values ∷ [])
kernel registry frame rows TernaryOp types type columns = by_row ternary_value columns
kernel registry frame rows (FunctionOp function recorded) types type columns = function_values function types columns
kernel registry frame rows op types type columns = Stuck
