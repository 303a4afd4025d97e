-- What a plan's node does with the frames of its inputs.
-- A scan gives its table, and the empty table has no rows. A select gives a column for each expression,
-- brought to a common length; one of nothing gives the frame without columns, whatever its input gives.
-- An hstack puts a column for each expression into its input's frame, brought to the frame's height.
-- A group-by gives a row for each group of its input's rows.
-- A filter keeps the rows for which its predicate is true: null is not true.
-- A simple projection gives its input's rows in its columns; one of none gives what a select of nothing does.
-- A slice gives so many rows from a place on. A sort gives its input's rows in the order of keys, of which a column has a
-- value for each row, or a single one that is repeated. A distinct keeps rows once. What passes its input's rows gives that frame.
use Rattle.std.specs.Prelude.{ℕ, List, [], ◌∷◌, map, length, replicate, slice_get, Option, Some, None, Bool, true, false, if◌then◌else◌}
use Rattle.plan_types.specs.Types.{Ty}
use Rattle.plan_types.specs.Schemas.{Name, Columns, same_name, with_column}
use Rattle.plan_types.specs.Values.{Val}
use Rattle.plan_types.specs.Outcomes.{Outcome, Done, Stuck, then_do}
use Rattle.plan_types.specs.Frames.{Row, Frame, value_in, empty_frame, row_numbers}
use Rattle.plan_dsl.specs.Ops.{Expression}
use Rattle.plan_dsl.specs.Picks.{where_true}
use Rattle.plan_dsl.specs.declared.distinct_options.UniqueKeepStrategy.{UniqueKeepStrategy}
use Rattle.plan_dsl.specs.Plans.{Work, SelectWork, HStackWork, GroupByWork, FilterWork, SimpleProjectionWork, SliceWork, SortWork, DistinctWork, PassWork, FunctionWork, PlanKind, ScanKind, OverKind, PlanOp, Named}
use Rattle.plan_dsl.specs.PlanRules.{names_in}
use Rattle.plan_dsl.specs.Sorting.{key_options}
use Rattle.plan_dsl.specs.FrameRows.{rows_between, rows_by_keys, rows_once, values_under}
use Rattle.plan_dsl.specs.Kernels.{common_length, stretched, at_length, for_rows, in_front, key_rows}
use Rattle.plan_dsl.specs.TableFrames.{function_frame}
pub use Rattle.plan_dsl.specs.Evaluations.{Evaluated, Evaluation, Series, series_typed, series_on, all_series, series_columns}
use Rattle.plan_dsl.specs.Grouping.{grouped_on}

abbrev pub length_beside : ℕ → Option ℕ → Option ℕ
length_beside count None = None
length_beside count (Some other) = common_length count other

-- the length to which columns are brought
abbrev pub shared_length : List Series → Option ℕ
shared_length [] = Some 1
shared_length (s ∷ ss) = length_beside (length s.values) (shared_length ss)

-- the rows of columns of that length
abbrev pub rows_of : ℕ → List Series → List Row
rows_of count [] = replicate count []
rows_of count (s ∷ ss) = in_front (stretched count s.values) (rows_of count ss)

-- the frame of the columns
abbrev pub framed : List Series → Outcome Frame
framed ss = at_length (shared_length ss) (λ count. record { schema = series_columns ss; rows = rows_of count ss })

-- the columns of the expressions on all rows of a frame
abbrev pub selected_on : List Evaluated → List ℕ → Outcome Frame
selected_on es rows = then_do (all_series rows es) framed

-- a row with the value in the column of that name: in its place where the name stands, else at the end
abbrev pub row_with : Columns → Name → Val → Row → Row
row_with [] name value row = value ∷ []
row_with (column ∷ columns) name value [] = []
row_with (column ∷ columns) name value (first ∷ row) =
    if same_name name column.0 then value ∷ row else first ∷ row_with columns name value row

-- each row with its value
abbrev pub rows_with : Columns → Name → List Val → List Row → List Row
rows_with columns name [] rows = []
rows_with columns name (value ∷ values) [] = []
rows_with columns name (value ∷ values) (row ∷ rows) = row_with columns name value row ∷ rows_with columns name values rows

-- the frame with the values in the column of that name
abbrev pub frame_with_column : Frame → Name → Ty → List Val → Frame
frame_with_column frame name type values =
    record { schema = with_column frame.schema name type; rows = rows_with frame.schema name values frame.rows }

-- a frame with columns, each of which is brought to the frame's height
abbrev pub stacked : List Series → Frame → Outcome Frame
stacked [] frame = Done frame
stacked (s ∷ ss) frame =
    then_do (for_rows (length frame.rows) s.values) (λ each. stacked ss (frame_with_column frame s.name s.type each))

-- a frame with the columns of the expressions on all of its rows
abbrev pub hstacked_on : List Evaluated → Frame → Outcome Frame
hstacked_on es frame = then_do (all_series (row_numbers frame) es) (λ ss. stacked ss frame)

-- the frame of the rows for which the values are true
abbrev pub kept_rows : Frame → List Val → Outcome Frame
kept_rows frame values =
    then_do (for_rows (length frame.rows) values) (λ each. Done (record { schema = frame.schema; rows = where_true each frame.rows }))

-- the rows of a frame for which an expression is true
abbrev pub filtered_on : Evaluated → Frame → Outcome Frame
filtered_on e frame = then_do (e.gives (row_numbers frame)) (kept_rows frame)

-- a frame's columns over other rows
abbrev pub with_rows : Frame → List Row → Frame
with_rows frame rows = record { schema = frame.schema; rows = rows }

-- a frame in the order of columns of keys, and of what expressions give on all of its rows
abbrev pub sorted_by : List Bool → List Bool → List Series → Frame → Outcome Frame
sorted_by descending nulls_last keys frame =
    then_do (key_rows (length frame.rows) (map (λ key. key.values) keys)) (λ rows. Done (with_rows frame (rows_by_keys (key_options (length keys) descending nulls_last) rows frame.rows)))

abbrev pub sorted_on : List Bool → List Bool → List Evaluated → Frame → Outcome Frame
sorted_on descending nulls_last es frame = then_do (all_series (row_numbers frame) es) (λ keys. sorted_by descending nulls_last keys frame)

-- by what rows are the same: by their values under names, or as a whole
abbrev pub subset_keys : Columns → Option (List Name) → List Row → List Row
subset_keys schema None rows = rows
subset_keys schema (Some names) rows = map (values_under schema names) rows

-- a frame with its rows once
abbrev pub distinct_on : UniqueKeepStrategy → Option (List Name) → Frame → Frame
distinct_on keep subset frame = with_rows frame (rows_once keep (subset_keys frame.schema subset frame.rows) frame.rows)

-- a row in other columns: its values under their names
abbrev pub row_in : Columns → Columns → Row → Row
row_in schema columns row = map (λ column. value_in schema column.0 row) columns

-- the rows of a frame in other columns
abbrev pub projected_on : Columns → Frame → Frame
projected_on columns frame = record { schema = columns; rows = map (row_in frame.schema columns) frame.rows }

abbrev pub table_frame : Option Frame → Outcome Frame
table_frame None = Stuck
table_frame (Some frame) = Done frame

-- the table of that number, or the empty table of the schema
abbrev pub scanned : List Frame → Option ℕ → Columns → Outcome Frame
scanned tables (Some number) schema = table_frame (slice_get tables number)
scanned tables None schema = Done (record { schema = schema; rows = [] })

-- whether a node over one input gives the frame without columns, whatever its input gives
abbrev pub gives_nothing : Work → List (List Name) → Bool
gives_nothing SelectWork ([] ∷ []) = true
gives_nothing (SimpleProjectionWork []) lists = true
gives_nothing work lists = false

-- What a node over one input gives on its frame, by what its expressions are there. With other lists than its own, which
-- no plan has, it is stuck, and so are a drop and a call, which no resolved plan has.
abbrev pub work_frame : Work → List (List Evaluated) → Frame → Outcome Frame
work_frame SelectWork (es ∷ []) frame = selected_on es (row_numbers frame)
work_frame HStackWork (es ∷ []) frame = hstacked_on es frame
work_frame GroupByWork (keys ∷ aggs ∷ []) frame = grouped_on keys aggs frame
work_frame FilterWork ((e ∷ []) ∷ []) frame = filtered_on e frame
work_frame (SimpleProjectionWork columns) [] frame = Done (projected_on columns frame)
work_frame (SliceWork offset count) [] frame = Done (with_rows frame (rows_between offset count frame.rows))
work_frame (SortWork descending nulls_last) (es ∷ []) frame = sorted_on descending nulls_last es frame
work_frame (DistinctWork keep subset) [] frame = Done (distinct_on keep subset frame)
work_frame (PassWork passing) [] frame = Done frame
work_frame (FunctionWork function) [] frame = function_frame function frame
work_frame work lists frame = Stuck

abbrev pub over_frame : Evaluation → Work → List (List (Named Expression)) → Outcome Frame → Outcome Frame
over_frame evaluate work lists input =
    if gives_nothing work (map names_in lists) then Done empty_frame else then_do input (λ frame. work_frame work (map (map (evaluate frame)) lists) frame)

-- what a node of the kind gives. With another number of inputs than its own, which no plan has, it is stuck
abbrev pub frame_by : PlanKind (Named Expression) → List Frame → Evaluation → List (Outcome Frame) → Outcome Frame
frame_by (ScanKind table schema) tables evaluate [] = scanned tables table schema
frame_by (OverKind work lists) tables evaluate (input ∷ []) = over_frame evaluate work lists input
frame_by kind tables evaluate inputs = Stuck

-- what a node gives, from what its inputs give
abbrev pub plan_kernel : List Frame → Evaluation → PlanOp (Named Expression) → List (Outcome Frame) → Outcome Frame
plan_kernel tables evaluate op inputs = frame_by op.kind tables evaluate inputs
