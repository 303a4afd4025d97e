-- The rules and schemas of functions from a frame to a frame.
-- The names that a function is given stand in its input's schema, but for those of a rename. Then their types are asked,
-- and then the names of its own columns are distinct.
use Rattle.std.specs.Prelude.{List, [], ◌∷◌, ◌++◌, ◌==◌, map, length, Option, Some, None, Bool, true, false, not, is_none, unwrap_or, codes, if◌then◌else◌}
use Rattle.std.specs.List.{flat_map, list_all}
use Rattle.std.specs.Option.{option_and_then}
use Rattle.plan_types.specs.Types.{Ty, NullType, Integer, TextType, StructType, Fields, no_field, with_field}
use Rattle.plan_types.specs.Schemas.{Name, Columns, same_name, type_at, is_among, repeats, names_of}
use Rattle.plan_types.specs.CommonTypes.{known_type}
use Rattle.plan_types.specs.SchemaCalls.{types_of}
use Rattle.plan_types.specs.TypeOrder.{folded_type}
use Rattle.plan_types.specs.declared.error.ErrorKind.{ErrorKind}
use Rattle.plan_types.specs.declared.error.ErrorKind.TheVariants.{ColumnNotFound, Duplicate, SchemaMismatch, InvalidOperation}
use Rattle.plan_dsl.specs.declared.signature.OwnType.TheVariants.{Item}
use Rattle.plan_dsl.specs.Drops.{columns_but, have_names}
use Rattle.plan_dsl.specs.Refusals.{kind_where}
use Rattle.plan_dsl.specs.Signatures.{is_list, own_type}
use Rattle.plan_dsl.specs.TableFunctions.{TableFunction, RowIndexFunction, ExplodeFunction, UnpivotFunction, RenameFunction, UnnestFunction}

-- what else is broken where columns have all of these names, else that one of them has none
abbrev pub where_standing : Columns → List Name → List ErrorKind → List ErrorKind
where_standing schema names kinds = if have_names schema names then kinds else ColumnNotFound ∷ []

-- the columns of these names, in the order of the names
abbrev pub columns_under : Columns → List Name → Columns
columns_under schema names = map (λ name. (name, unwrap_or (type_at schema name) NullType)) names

-- that names are distinct, or two of them are one
abbrev pub distinct_kinds : List Name → List ErrorKind
distinct_kinds names = kind_where (repeats names) Duplicate

-- ---- a row index

abbrev pub indexed_columns : Name → Columns → Columns
indexed_columns name schema = (name, Integer false 32) ∷ schema

-- ---- an explode

-- the columns of lists that are among the names become those of their items
abbrev pub exploded_columns : List Name → Columns → Columns
exploded_columns names schema = map (λ column. (column.0, if is_among column.0 names then own_type Item column.1 else column.1)) schema

-- there is a name, and each has lists
abbrev pub explode_kinds : Columns → List Name → List ErrorKind
explode_kinds schema [] = InvalidOperation ∷ []
explode_kinds schema (name ∷ names) =
    where_standing schema (name ∷ names) (kind_where (not (list_all is_list (types_of (columns_under schema (name ∷ names))))) InvalidOperation)

-- ---- an unpivot

-- whose values are put below each other: of no columns they are those of all that aren't in the index
abbrev pub value_columns : Columns → List Name → List Name → List Name
value_columns schema [] index = names_of (columns_but index schema)
value_columns schema (name ∷ on) index = name ∷ on

-- the common type of these values, which is a type of columns
abbrev pub value_type : Columns → List Name → List Name → Option Ty
value_type schema on index = option_and_then known_type (folded_type (types_of (columns_under schema (value_columns schema on index))))

abbrev pub variable_name : Option Name → Name
variable_name variable = unwrap_or variable (codes "variable")

abbrev pub value_name : Option Name → Name
value_name value = unwrap_or value (codes "value")

-- the index, the names of the columns, and their values
abbrev pub unpivoted_columns : Columns → List Name → List Name → Option Name → Option Name → Columns
unpivoted_columns schema on index variable value =
    columns_under schema index ++ (variable_name variable, TextType) ∷ (value_name value, unwrap_or (value_type schema on index) NullType) ∷ []

abbrev pub unpivot_kinds : Columns → List Name → List Name → Option Name → Option Name → List ErrorKind
unpivot_kinds schema on index variable value =
    where_standing schema (on ++ index)
    (kind_where (is_none (value_type schema on index)) SchemaMismatch ++ distinct_kinds (index ++ variable_name variable ∷ value_name value ∷ []))

-- ---- a rename

-- of two names for one the later counts
abbrev pub later_name : Option Name → Option Name → Option Name
later_name earlier None = earlier
later_name earlier (Some later) = Some later

-- the new name of a column, if it gets one
abbrev pub new_name : List Name → List Name → Name → Option Name
new_name [] new name = None
new_name (old ∷ existing) [] name = None
new_name (old ∷ existing) (own ∷ new) name = later_name (if same_name name old then Some own else None) (new_name existing new name)

abbrev pub renamed_columns : List Name → List Name → Columns → Columns
renamed_columns existing new schema = map (λ column. (unwrap_or (new_name existing new column.0) column.0, column.1)) schema

-- there are as many new names as old ones
abbrev pub rename_kinds : Columns → List Name → List Name → List ErrorKind
rename_kinds schema existing new =
    if length existing == length new then distinct_kinds (names_of (renamed_columns existing new schema)) else InvalidOperation ∷ []

-- ---- an unnest

abbrev pub is_struct : Ty → Bool
is_struct (StructType fields) = true
is_struct type = false

-- the fields of a type of structs, as columns
abbrev pub field_columns : Fields → Columns
field_columns no_field = []
field_columns (with_field name type rest) = (name, type) ∷ field_columns rest

-- a column of structs becomes a column for each field
abbrev pub opened_type : Name → Ty → Columns
opened_type name (StructType fields) = field_columns fields
opened_type name type = (name, type) ∷ []

abbrev pub opened_column : Name × Ty → Columns
opened_column column = opened_type column.0 column.1

abbrev pub unnested_columns : List Name → Columns → Columns
unnested_columns names schema = flat_map (λ column. if is_among column.0 names then opened_column column else column ∷ []) schema

abbrev pub unnest_kinds : Columns → List Name → List ErrorKind
unnest_kinds schema names =
    where_standing schema names
    (kind_where (not (list_all is_struct (types_of (columns_under schema names)))) SchemaMismatch ++ distinct_kinds (names_of (unnested_columns names schema)))

-- ---- any of them

-- the kinds that a function breaks over a schema
abbrev pub function_kinds : TableFunction → Columns → List ErrorKind
function_kinds (RowIndexFunction name offset) schema = kind_where (is_among name (names_of schema)) Duplicate
function_kinds (ExplodeFunction columns) schema = explode_kinds schema columns
function_kinds (UnpivotFunction on index variable value) schema = unpivot_kinds schema on index variable value
function_kinds (RenameFunction existing new swapping) schema = rename_kinds schema existing new
function_kinds (UnnestFunction columns) schema = unnest_kinds schema columns

-- the schema of what it makes
abbrev pub function_schema : TableFunction → Columns → Columns
function_schema (RowIndexFunction name offset) schema = indexed_columns name schema
function_schema (ExplodeFunction columns) schema = exploded_columns columns schema
function_schema (UnpivotFunction on index variable value) schema = unpivoted_columns schema on index variable value
function_schema (RenameFunction existing new swapping) schema = renamed_columns existing new schema
function_schema (UnnestFunction columns) schema = unnested_columns columns schema
