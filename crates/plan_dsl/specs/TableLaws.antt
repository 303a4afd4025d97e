-- Laws of functions from a frame to a frame.
use Rattle.std.specs.Prelude.{◌≡◌, ◌<◌, ◌+◌, ◌*◌, ◌%◌, ◌^◌, ℕ, pos, true, false, List, [], ◌∷◌, ◌++◌, drop, length, map, replicate, slice_get, Option, Some, None, unwrap_or}
use Rattle.std.specs.List.{flat_map, sum_by}
use Rattle.std.specs.Option.{option_map}
use Rattle.plan_types.specs.SchemaCalls.{types_of}
use Rattle.plan_types.specs.Types.{Ty, NullType}
use Rattle.plan_types.specs.Schemas.{Name, Columns, is_among, repeats, type_at}
use Rattle.plan_types.specs.Values.{Val, IntValue, TextValue}
use Rattle.plan_types.specs.Outcomes.{Done}
use Rattle.plan_types.specs.Frames.{Row, Frame, RowFits, IsFrame, row_at, value_in}
use Rattle.plan_dsl.specs.Drops.{have_names}
use Rattle.plan_dsl.specs.FrameRows.{values_under}
use Rattle.plan_dsl.specs.Picks.{exploded, explode_values}
use Rattle.plan_dsl.specs.TableRules.{new_name, rename_kinds, renamed_columns, value_columns, value_type}
use Rattle.plan_dsl.specs.TableFrames.{agreed, exploded_on, indexed_on, list_lengths, renamed_on, unpivoted_on, unpivoted_row}

-- ---- row indices

-- each row stands behind its number, which is counted from the offset on, in 32 bits
abbrev pub RowsAreNumbered : Type 0
RowsAreNumbered = (name : Name) (offset : Option ℕ) (frame : Frame) (number : ℕ) → slice_get (indexed_on name offset frame).rows number ≡ option_map (λ row. IntValue (pos ((unwrap_or offset 0 + number) % 2 ^ 32)) ∷ row) (slice_get frame.rows number)

-- and is what it was without it
abbrev pub IndexesChangeNoOtherColumn : Type 0
IndexesChangeNoOtherColumn = (name : Name) (offset : Option ℕ) (frame : Frame) → map (λ row. drop 1 row) (indexed_on name offset frame).rows ≡ frame.rows

-- ---- unpivots

-- there is a row for each row and each column of values
abbrev pub UnpivotsGiveARowForEachValue : Type 0
UnpivotsGiveARowForEachValue = (on index : List Name) (variable value : Option Name) (frame : Frame) → length (unpivoted_on on index variable value frame).rows ≡ length (value_columns frame.schema on index) * length frame.rows

-- behind those of the columns before it stand a column's, in the order of the frame's rows
abbrev pub UnpivotsGoColumnByColumn : Type 0
UnpivotsGoColumnByColumn = (on index : List Name) (variable value : Option Name) (frame : Frame) (front : List Name) (name : Name) (back : List Name) (number : ℕ) → value_columns frame.schema on index ≡ front ++ name ∷ back → number < length frame.rows → slice_get (unpivoted_on on index variable value frame).rows (length front * length frame.rows + number) ≡ Some (unpivoted_row frame.schema index (unwrap_or (value_type frame.schema on index) NullType) name (row_at frame number))

-- a value that is of the common type stays
abbrev pub UnpivotsKeepValuesOfTheType : Type 0
UnpivotsKeepValuesOfTheType = (schema : Columns) (index : List Name) (type : Ty) (name : Name) (row : Row) → RowFits schema row → type_at schema name ≡ Some type → unpivoted_row schema index type name row ≡ values_under schema index row ++ TextValue name ∷ value_in schema name row ∷ []

-- ---- renames

-- only names change
abbrev pub RenamesKeepRowsAndTypes : Type 0
RenamesKeepRowsAndTypes = (existing new : List Name) (frame : Frame) → ((renamed_on existing new frame).rows ≡ frame.rows) × (types_of (renamed_on existing new frame).schema ≡ types_of frame.schema)

-- and of these none but the given ones: of two new names for one the later counts
abbrev pub OtherNamesStay : Type 0
OtherNamesStay = (existing new : List Name) (name : Name) → is_among name existing ≡ false → new_name existing new name ≡ None

abbrev pub TheLastNameCounts : Type 0
TheLastNameCounts = (existing new : List Name) (old own : Name) → length existing ≡ length new → new_name (existing ++ old ∷ []) (new ++ own ∷ []) old ≡ Some own

-- where the old names stand, none of them twice, a rename the other way round undoes it
abbrev pub RenamesCanBeUndone : Type 0
RenamesCanBeUndone = (schema : Columns) (existing new : List Name) → have_names schema existing ≡ true → repeats existing ≡ false → rename_kinds schema existing new ≡ [] → renamed_columns new existing (renamed_columns existing new schema) ≡ schema

-- ---- explodes

-- the values of all rows in the column of that name
abbrev pub values_of : Frame → Name → List Val
values_of frame name = map (value_in frame.schema name) frame.rows

-- how many rows a row makes, where its lists agree
abbrev pub rows_made : List Name → Columns → Row → ℕ
rows_made names schema row = unwrap_or (agreed (list_lengths names schema row)) 0

-- what an explode makes of a frame: each of its columns of lists explodes as it does alone, and beside the items of a row
-- stand the row's own values in the other columns
pub record IsExplodeOf (names : List Name) (frame found : Frame) : Type 0 where
  pub as_many : length found.rows ≡ sum_by (rows_made names frame.schema) frame.rows
  pub items : (name : Name) (type : Ty) → is_among name names ≡ true → type_at frame.schema name ≡ Some type → values_of found name ≡ explode_values (values_of frame name)
  pub others : (name : Name) (type : Ty) → is_among name names ≡ false → type_at frame.schema name ≡ Some type → values_of found name ≡ flat_map (λ row. replicate (rows_made names frame.schema row) (value_in frame.schema name row)) frame.rows

abbrev pub ExplodesHaveTheItems : Type 0
ExplodesHaveTheItems = (names : List Name) (frame found : Frame) → IsFrame frame → exploded_on names frame ≡ Done found → IsExplodeOf names frame found

-- an explode of one column has no fault: a row makes as many rows as its value explodes to
pub record ExplodesAlone (name : Name) (frame : Frame) : Type 0 where
  pub found : Frame
  pub found_is : exploded_on (name ∷ []) frame ≡ Done found
  pub each : (row : Row) → rows_made (name ∷ []) frame.schema row ≡ length (exploded (value_in frame.schema name row))

abbrev pub OneColumnExplodes : Type 0
OneColumnExplodes = (name : Name) (frame : Frame) → IsFrame frame → ExplodesAlone name frame
