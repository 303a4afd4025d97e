-- Columns as the code keeps them, and what keeps them from being a frame.
-- It is looked for in this order: a name that stands before, a length that isn't the first column's, and a
-- value that doesn't fit its column's type.
use Rattle.std.specs.Prelude.{◌≡◌, ◌⊎◌, ◌==◌, ◌++◌, ◌+◌, ℕ, List, [], ◌∷◌, length, map, Option, Some, None, if◌then◌else◌, slice_get, unwrap_or}
use Rattle.std.specs.List.{range_with_len}
use Rattle.plan_types.specs.Types.{Ty, ty}
use Rattle.plan_types.specs.Columns.{Name, Columns, is_among}
use Rattle.plan_types.specs.Values.{Val, NullValue, fits}
use Rattle.plan_types.specs.ValueViews.{val_of}
use Rattle.plan_types.specs.Frames.{Row, Frame}
use Rattle.plan_types.specs.declared.column.Values.{Values}
use Rattle.plan_types.specs.declared.column.Column.{Column}
use Rattle.plan_types.specs.declared.frame.FrameError.{FrameError}
use Rattle.plan_types.specs.declared.frame.FrameError.TheVariants.{Duplicate, Length, Misfit, NoMemory}

-- the values of a column
abbrev pub vals_of : Values → List Val
vals_of values = map val_of values.items.items

-- a column's name and type
abbrev pub head_of : Column → Name × Ty
head_of column = (column.name, ty column.dtype)

abbrev pub heads_of : List Column → Columns
heads_of columns = map head_of columns

-- a column's name, type and values
abbrev pub shown : Column → (Name × Ty) × List Val
shown column = (head_of column, vals_of column.values)

-- how many values the column has
abbrev pub count_of : Column → ℕ
count_of column = length (vals_of column.values)

-- how many rows there are: without columns none
abbrev pub height_of : List Column → ℕ
height_of [] = 0
height_of (column ∷ columns) = count_of column

-- the row of that number: each column's value there
abbrev pub row_of : List Column → ℕ → Row
row_of columns number = map (λ column. unwrap_or (slice_get (vals_of column.values) number) NullValue) columns

-- the schema and the rows of columns
abbrev pub framed : List Column → Frame
framed columns = record { schema = heads_of columns; rows = map (row_of columns) (range_with_len 0 (height_of columns)) }

-- the first name that stands among those before it
abbrev pub repeated_name : List Name → List Column → Option FrameError
repeated_name before [] = None
repeated_name before (column ∷ columns) =
    if is_among column.name before then Some (Duplicate column.name) else repeated_name (before ++ column.name ∷ []) columns

-- the first column that has another number of values than is wanted
abbrev pub other_length : ℕ → List Column → Option FrameError
other_length wanted [] = None
other_length wanted (column ∷ columns) =
    if count_of column == wanted then other_length wanted columns else Some (Length column.name (count_of column) wanted)

-- the first value of a column that doesn't fit, the first of these being in the row of that number
abbrev pub misfit_from : ℕ → Name → Ty → List Val → Option FrameError
misfit_from row name type [] = None
misfit_from row name type (value ∷ values) =
    if fits value type then misfit_from (row + 1) name type values else Some (Misfit name row)

-- what comes first, else the other
abbrev pub else_fault : Option FrameError → Option FrameError → Option FrameError
else_fault None other = other
else_fault (Some fault) other = Some fault

-- the first column's first value that doesn't fit
abbrev pub misfit : List Column → Option FrameError
misfit [] = None
misfit (column ∷ columns) = else_fault (misfit_from 0 column.name (ty column.dtype) (vals_of column.values)) (misfit columns)

-- what keeps the columns from being a frame
abbrev pub frame_fault : List Column → Option FrameError
frame_fault columns = else_fault (repeated_name [] columns) (else_fault (other_length (height_of columns) columns) (misfit columns))

-- the refusal is out of memory, which may stand in place of any answer, or that fault
abbrev pub IsFault : Option FrameError → FrameError → Type 0
IsFault fault error = (error ≡ NoMemory) ⊎ (fault ≡ Some error)
