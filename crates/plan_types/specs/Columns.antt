-- Columns of schemas.
-- A schema is the list of its columns, each a name and a type. No name stands twice.
use Rattle.std.specs.Prelude.{◌≡◌, ℕ, List, [], ◌∷◌, ◌||◌, map, Option, Some, None, Bool, false, if◌then◌else◌}
use Rattle.std.specs.List.{list_any, list_all}
use Rattle.std.specs.Str.{bytes_eq}
use Rattle.plan_types.specs.Types.{Ty, ty, is_known}
use Rattle.plan_types.specs.declared.dtype.DataType.{DataType}

-- the characters of a name
abbrev pub Name : Type 0
Name = List ℕ

-- whether two names are one
abbrev pub same_name : Name → Name → Bool
same_name = bytes_eq

-- a column's name and type
abbrev pub Columns : Type 0
Columns = List (Name × Ty)

-- a name and its type, without where the type lies in memory
abbrev pub column_of : Name × DataType → Name × Ty
column_of entry = (entry.0, ty entry.1)

-- the type of the column of that name
abbrev pub type_at : Columns → Name → Option Ty
type_at [] name = None
type_at (column ∷ rest) name = if same_name name column.0 then Some column.1 else type_at rest name

-- the columns with the type at the name: in its place where the name stands, else at the end
abbrev pub with_column : Columns → Name → Ty → Columns
with_column [] name type = (name, type) ∷ []
with_column (column ∷ rest) name type =
    if same_name name column.0 then (column.0, type) ∷ rest else column ∷ with_column rest name type

-- a name that no column has
abbrev pub IsNewName : Columns → Name → Type 0
IsNewName columns name = type_at columns name ≡ None

-- no name stands twice
abbrev pub HasDistinctNames : Columns → Type 0
HasDistinctNames [] = Unit {0}
HasDistinctNames (column ∷ rest) = IsNewName rest column.0 × HasDistinctNames rest

-- whether the name is one of the names
abbrev pub is_among : Name → List Name → Bool
is_among name names = list_any (same_name name) names

-- whether some name stands twice
abbrev pub repeats : List Name → Bool
repeats [] = false
repeats (name ∷ names) = is_among name names || repeats names

-- the names of columns, or of other things that have one
abbrev pub names_of : {A : Type 0} → List (Name × A) → List Name
names_of named = map (λ entry. entry.0) named

-- whether each column has a type of columns
abbrev pub all_known : Columns → Bool
all_known columns = list_all (λ column. is_known column.1) columns
