-- Calls on schemas.
-- A column is found with its place. Two schemas are compared by names and types in order, and get the common types
-- of their columns side by side.
use Rattle.std.specs.Prelude.{ℕ, suc, map, List, [], ◌∷◌, ◌&&◌, Option, Some, None, Result, Ok, Err, Bool, true, false, if◌then◌else◌}
use Rattle.std.specs.Option.{option_map}
use Rattle.plan_types.specs.Types.{Ty}
use Rattle.plan_types.specs.Supertypes.{supertype}
use Rattle.plan_types.specs.Columns.{Name, Columns, same_name}
use Rattle.plan_types.specs.declared.error.ErrorKind.{ErrorKind}
use Rattle.plan_types.specs.declared.error.ErrorKind.TheVariants.{SchemaMismatch, InvalidOperation}

-- the place of the column of that name, and its name and type
abbrev pub column_at : Columns → Name → Option (ℕ × (Name × Ty))
column_at [] name = None
column_at (column ∷ rest) name =
    if same_name name column.0 then Some (0, column) else option_map (λ found. (suc found.0, found.1)) (column_at rest name)

-- whether two lists of columns have the same names, in order
abbrev pub same_names : Columns → Columns → Bool
same_names [] [] = true
same_names [] (other ∷ others) = false
same_names (column ∷ columns) [] = false
same_names (column ∷ columns) (other ∷ others) = same_name column.0 other.0 && same_names columns others

-- the types of columns
abbrev pub types_of : Columns → List Ty
types_of columns = map (λ column. column.1) columns

-- a type in front of others, where there are all of these
abbrev pub type_in_front : Option Ty → Option (List Ty) → Option (List Ty)
type_in_front None types = None
type_in_front (Some type) None = None
type_in_front (Some type) (Some types) = Some (type ∷ types)

-- the common types of pairs side by side, or none where a pair has none
abbrev pub common_types : List Ty → List Ty → Option (List Ty)
common_types [] [] = Some []
common_types [] (other ∷ others) = None
common_types (type ∷ types) [] = None
common_types (type ∷ types) (other ∷ others) = type_in_front (supertype type other) (common_types types others)

-- the columns with these types in place of their own
abbrev pub with_types : Columns → List Ty → Columns
with_types [] types = []
with_types (column ∷ columns) [] = column ∷ columns
with_types (column ∷ columns) (type ∷ types) = (column.0, type) ∷ with_types columns types

-- the columns with the common types of pairs side by side, or none where a pair has none
abbrev pub common_columns : Columns → Columns → Option Columns
common_columns columns others = option_map (with_types columns) (common_types (types_of columns) (types_of others))

abbrev pub found_columns : Option Columns → Result Columns ErrorKind
found_columns None = Err SchemaMismatch
found_columns (Some columns) = Ok columns

-- the columns with common types, or why there are none: the names are asked first
abbrev pub super_columns : Columns → Columns → Result Columns ErrorKind
super_columns columns others =
    if same_names columns others then found_columns (common_columns columns others) else Err InvalidOperation
