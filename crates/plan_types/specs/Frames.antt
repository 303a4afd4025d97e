-- Frames.
-- A frame is a schema and a list of rows, each with a fitting value for every column. The names are
-- distinct, and without columns there are no rows.
use Rattle.std.specs.Prelude.{◌≡◌, ℕ, List, [], ◌∷◌, length, IsTrue, if◌then◌else◌, slice_get, unwrap_or}
use Rattle.std.specs.List.{AllByRecursion, range_with_len}
use Rattle.plan_types.specs.Values.{Val, NullValue, fits}
use Rattle.plan_types.specs.Columns.{Name, Columns, same_name, HasDistinctNames}

abbrev pub Row : Type 0
Row = List Val

pub record Frame : Type 0 where
  pub schema : Columns
  pub rows : List Row

-- the row has a fitting value for each column
abbrev pub RowFits : Columns → Row → Type 0
RowFits [] [] = Unit {0}
RowFits (column ∷ columns) (value ∷ values) = IsTrue (fits value column.1) × RowFits columns values
RowFits [] (value ∷ values) = ⊥
RowFits (column ∷ columns) [] = ⊥

abbrev pub HasNoRowsWithoutColumns : Columns → List Row → Type 0
HasNoRowsWithoutColumns [] rows = rows ≡ []
HasNoRowsWithoutColumns (column ∷ columns) rows = Unit {0}

pub record IsFrame (frame : Frame) : Type 0 where
  pub distinct : HasDistinctNames frame.schema
  pub fitting : AllByRecursion (RowFits frame.schema) frame.rows
  pub bare : HasNoRowsWithoutColumns frame.schema frame.rows

-- the frame without columns
abbrev pub empty_frame : Frame
empty_frame = record { schema = []; rows = [] }

-- a row's value in the column of that name
abbrev pub value_in : Columns → Name → Row → Val
value_in [] name values = NullValue
value_in (column ∷ columns) name [] = NullValue
value_in (column ∷ columns) name (value ∷ values) = if same_name name column.0 then value else value_in columns name values

-- the row of that number
abbrev pub row_at : Frame → ℕ → Row
row_at frame number = unwrap_or (slice_get frame.rows number) []

-- the numbers of all rows
abbrev pub row_numbers : Frame → List ℕ
row_numbers frame = range_with_len 0 (length frame.rows)

-- a frame of exactly these columns
pub record IsFrameOf (schema : Columns) (frame : Frame) : Type 0 where
  pub schema_is : frame.schema ≡ schema
  pub frame_is : IsFrame frame
