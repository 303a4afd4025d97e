-- Frames that are laid of columns: of their names, types and values.
use Rattle.std.specs.Prelude.{◌≡◌, ℕ, List, [], ◌∷◌, length, map, replicate, if◌then◌else◌}
use Rattle.std.specs.List.{AllByRecursion}
use Rattle.plan_types.specs.Types.{Ty, NullType}
use Rattle.plan_types.specs.Schemas.{Name, Columns, same_name}
use Rattle.plan_types.specs.Values.{Val}
use Rattle.plan_types.specs.Frames.{Row, Frame}
use Rattle.plan_dsl.specs.Rows.{in_front}

-- a column: its name and type, and its values
abbrev pub Shown : Type 0
Shown = (Name × Ty) × List Val

abbrev pub heads : List Shown → Columns
heads columns = map (λ column. column.0) columns

abbrev pub contents : List Shown → List (List Val)
contents columns = map (λ column. column.1) columns

-- so many rows of values side by side
abbrev pub beside : ℕ → List (List Val) → List Row
beside count [] = replicate count []
beside count (values ∷ others) = in_front values (beside count others)

-- the frame of so many rows of these columns
abbrev pub laid : ℕ → List Shown → Frame
laid count columns = record { schema = heads columns; rows = beside count (contents columns) }

-- each column has so many values
abbrev pub HaveRows : ℕ → List Shown → Type 0
HaveRows count columns = AllByRecursion (λ column. length column.1 ≡ count) columns

-- the first column of that name, else one of nulls without values
abbrev pub column_under : List Shown → Name → Shown
column_under [] name = ((name, NullType), [])
column_under (column ∷ columns) name = if same_name name column.0.0 then column else column_under columns name
