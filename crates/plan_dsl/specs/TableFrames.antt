-- What functions make of frames.
use Rattle.std.specs.Prelude.{ℕ, ◌+◌, ◌==◌, List, [], ◌∷◌, ◌++◌, map, length, replicate, Option, Some, None, false, unwrap_or, if◌then◌else◌}
use Rattle.std.specs.List.{flat_map, list_all}
use Rattle.plan_types.specs.Types.{Ty, NullType, Integer, StructType, Fields}
use Rattle.plan_types.specs.Schemas.{Name, Columns, type_at, is_among}
use Rattle.plan_types.specs.Values.{Val, NullValue, TextValue, StructValue}
use Rattle.plan_types.specs.Casts.{Converted, Gives, Fails, cast}
use Rattle.plan_types.specs.Outcomes.{Outcome, Done, then_do}
use Rattle.plan_types.specs.Frames.{Row, Frame, empty_frame, row_numbers, value_in}
use Rattle.plan_types.specs.declared.dtype.CastOptions.TheVariants.{NonStrict}
use Rattle.plan_dsl.specs.Aggregates.{count_value}
use Rattle.plan_dsl.specs.FrameRows.{values_under}
use Rattle.plan_dsl.specs.Picks.{exploded, items_in}
use Rattle.plan_dsl.specs.Rows.{at_length, in_front}
use Rattle.plan_dsl.specs.TableFunctions.{TableFunction, RowIndexFunction, ExplodeFunction, UnpivotFunction, RenameFunction, UnnestFunction}
use Rattle.plan_dsl.specs.TableRules.{exploded_columns, field_columns, indexed_columns, renamed_columns, unnested_columns, unpivoted_columns, value_columns, value_type}

-- ---- a row index

-- each row behind its number, which is counted from an offset on and wraps around in 32 bits
abbrev pub indexed_on : Name → Option ℕ → Frame → Frame
indexed_on name offset frame =
    record { schema = indexed_columns name frame.schema; rows = in_front (map (λ number. count_value (Integer false 32) (unwrap_or offset 0 + number)) (row_numbers frame)) frame.rows }

-- ---- an explode

-- how many rows each list of a row makes: one that is empty or null makes one
abbrev pub list_lengths : List Name → Columns → Row → List ℕ
list_lengths names [] row = []
list_lengths names (column ∷ columns) [] = []
list_lengths names (column ∷ columns) (value ∷ row) =
    if is_among column.0 names then length (exploded value) ∷ list_lengths names columns row else list_lengths names columns row

-- the number that all of these are
abbrev pub agreed : List ℕ → Option ℕ
agreed [] = Some 1
agreed (count ∷ counts) = if list_all (λ other. other == count) counts then Some count else None

-- so many rows of a row: each has an item of each list, and the other values
abbrev pub rows_of_items : ℕ → List Name → Columns → Row → List Row
rows_of_items count names [] row = replicate count []
rows_of_items count names (column ∷ columns) [] = []
rows_of_items count names (column ∷ columns) (value ∷ row) =
    in_front (if is_among column.0 names then exploded value else replicate count value) (rows_of_items count names columns row)

-- lists of one row that make different numbers of rows are a fault
abbrev pub exploded_row : List Name → Columns → Row → Outcome (List Row)
exploded_row names schema row = at_length (agreed (list_lengths names schema row)) (λ count. rows_of_items count names schema row)

abbrev pub exploded_rows : List Name → Columns → List Row → Outcome (List Row)
exploded_rows names schema [] = Done []
exploded_rows names schema (row ∷ rows) = then_do (exploded_row names schema row) (λ first. then_do (exploded_rows names schema rows) (λ rest. Done (first ++ rest)))

abbrev pub exploded_on : List Name → Frame → Outcome Frame
exploded_on names frame = then_do (exploded_rows names frame.schema frame.rows) (λ rows. Done (record { schema = exploded_columns names frame.schema; rows = rows }))

-- ---- an unpivot

-- what a cast that isn't strict gives
abbrev pub given_or_null : Converted → Val
given_or_null (Gives value) = value
given_or_null Fails = NullValue

-- a column's value in a row of the frame, in the common type, behind the row's index and the column's name
abbrev pub unpivoted_row : Columns → List Name → Ty → Name → Row → Row
unpivoted_row schema index type name row =
    values_under schema index row ++ TextValue name ∷ given_or_null (cast (value_in schema name row) (unwrap_or (type_at schema name) NullType) type NonStrict) ∷ []

-- the rows of one column after those of another
abbrev pub unpivoted_rows : Columns → List Name → Ty → List Name → List Row → List Row
unpivoted_rows schema index type names rows = flat_map (λ name. map (unpivoted_row schema index type name) rows) names

abbrev pub unpivoted_on : List Name → List Name → Option Name → Option Name → Frame → Frame
unpivoted_on on index variable value frame =
    record {
      schema = unpivoted_columns frame.schema on index variable value;
      rows = unpivoted_rows frame.schema index (unwrap_or (value_type frame.schema on index) NullType) (value_columns frame.schema on index) frame.rows;
    }

-- ---- a rename

abbrev pub renamed_on : List Name → List Name → Frame → Frame
renamed_on existing new frame = record { schema = renamed_columns existing new frame.schema; rows = frame.rows }

-- ---- an unnest

-- a struct's values, and those of a null are null
abbrev pub field_values : Fields → Val → List Val
field_values fields (StructValue parts) = items_in parts
field_values fields value = map (λ field. NullValue) (field_columns fields)

abbrev pub opened_value : Ty → Val → List Val
opened_value (StructType fields) value = field_values fields value
opened_value type value = value ∷ []

abbrev pub unnested_row : List Name → Columns → Row → Row
unnested_row names [] row = []
unnested_row names (column ∷ columns) [] = []
unnested_row names (column ∷ columns) (value ∷ row) =
    (if is_among column.0 names then opened_value column.1 value else value ∷ []) ++ unnested_row names columns row

-- a frame without columns has no rows
abbrev pub of_columns : Columns → List Row → Frame
of_columns [] rows = empty_frame
of_columns (column ∷ columns) rows = record { schema = column ∷ columns; rows = rows }

abbrev pub unnested_on : List Name → Frame → Frame
unnested_on names frame = of_columns (unnested_columns names frame.schema) (map (unnested_row names frame.schema) frame.rows)

-- ---- any of them

abbrev pub function_frame : TableFunction → Frame → Outcome Frame
function_frame (RowIndexFunction name offset) frame = Done (indexed_on name offset frame)
function_frame (ExplodeFunction columns) frame = exploded_on columns frame
function_frame (UnpivotFunction on index variable value) frame = Done (unpivoted_on on index variable value frame)
function_frame (RenameFunction existing new swapping) frame = Done (renamed_on existing new frame)
function_frame (UnnestFunction columns) frame = Done (unnested_on columns frame)
