-- What functions make of a frame's columns, each by itself.
use Rattle.std.specs.Prelude.{◌≡◌, ℕ, List, [], ◌∷◌, ◌++◌, Bool, true, drop, length, map, Option, replicate, unwrap_or, if◌then◌else◌}
use Rattle.std.specs.Borrow.{Bor}
use Rattle.std.specs.List.{AllByRecursion, flat_map, list_any}
use Rattle.plan_types.specs.Types.{Ty, NullType, StructType, TextType, Fields, no_field, with_field}
use Rattle.plan_types.specs.Schemas.{Columns, Name, same_name}
use Rattle.plan_types.specs.Values.{Val, StructValue, TextValue, all_fit}
use Rattle.plan_types.specs.Casts.{can_cast, cast}
use Rattle.plan_types.specs.declared.dtype.CastOptions.TheVariants.{NonStrict}
use Rattle.plan_dsl.specs.Aggregates.{first_value}
use Rattle.plan_dsl.specs.Picks.{exploded, explode_values, items_in}
use Rattle.plan_dsl.specs.Signatures.{own_type}
use Rattle.plan_dsl.specs.declared.signature.OwnType.TheVariants.{Item}
use Rattle.plan_dsl.specs.TableFrames.{given_or_null}
use Rattle.plan_dsl.specs.TableRules.{new_name, value_columns, value_name, value_type, variable_name}
use Rattle.plan_exec.specs.LaidFrames.{Shown, column_under, heads}

-- whether the name is one of those that are kept
abbrev pub is_kept : List (Bor Name) → Name → Bool
is_kept names name = list_any (λ kept. same_name name kept.now) names

-- ---- a rename

abbrev pub renamed_column : List Name → List Name → Shown → Shown
renamed_column existing new column = ((unwrap_or (new_name existing new column.0.0) column.0.0, column.0.1), column.1)

-- ---- an explode

-- how many rows each of these values makes
abbrev pub counts_in : List Val → List ℕ
counts_in values = map (λ value. length (exploded value)) values

-- each value so often
abbrev pub repeated : List ℕ → List Val → List Val
repeated [] values = []
repeated (count ∷ counts) [] = []
repeated (count ∷ counts) (value ∷ values) = replicate count value ++ repeated counts values

-- the items of lists under the names that pass, and the values of other columns as often as their rows make rows
abbrev pub exploded_values : Bool → List ℕ → List Val → List Val
exploded_values listed counts values = if listed then explode_values values else repeated counts values

abbrev pub exploded_column : (Name → Bool) → List ℕ → Shown → Shown
exploded_column test counts column =
    ((column.0.0, if test column.0.0 then own_type Item column.0.1 else column.0.1), exploded_values (test column.0.0) counts column.1)

-- each column of such a name makes so many rows of each row
abbrev pub AllMake : (Name → Bool) → List ℕ → List Shown → Type 0
AllMake test counts columns = AllByRecursion (λ column. test column.0.0 ≡ true → counts_in column.1 ≡ counts) columns

-- there is such a column, and it makes so many
abbrev pub some_listed : (Name → Bool) → List Shown → Bool
some_listed test columns = list_any (λ column. test column.0.0) columns

-- two such columns make different numbers of rows of some row
pub record Disagree (test : Name → Bool) (columns : List Shown) : Type 0 where
  pub counts : List ℕ
  pub front : List Shown
  pub other : Shown
  pub back : List Shown
  pub whole : columns ≡ front ++ other ∷ back
  pub made : AllMake test counts front
  pub some : some_listed test front ≡ true
  pub listed : test other.0.0 ≡ true
  pub differs : ¬ (counts_in other.1 ≡ counts)

-- ---- an unpivot

-- a column's values so often, one after the other
abbrev pub times : ℕ → List Val → List Val
times count values = flat_map (λ once. once) (replicate count values)

-- the column of these values
abbrev pub column_times : ℕ → Shown → Shown
column_times count column = (column.0, times count column.1)

-- a column's name for each of its values
abbrev pub name_values : Shown → List Val
name_values column = map (λ value. TextValue column.0.0) column.1

-- a column's values in the type, and null where one has no place there
abbrev pub cast_values : Ty → Shown → List Val
cast_values type column = map (λ value. given_or_null (cast value column.0.1 type NonStrict)) column.1

-- the names of columns, for each row of one, and then for each of another
abbrev pub names_below : List Shown → List Val
names_below columns = flat_map name_values columns

-- the values of columns in the type, one column's after another's
abbrev pub values_below : Ty → List Shown → List Val
values_below type columns = flat_map (cast_values type) columns

-- each column's values fit its type, which can be cast to the other
abbrev pub AllCast : Ty → List Shown → Type 0
AllCast type columns = AllByRecursion (λ column. (can_cast column.0.1 type ≡ true) × (all_fit column.1 column.0.1 ≡ true)) columns

-- the columns of these names, in the order of the names
abbrev pub columns_named : List Shown → List Name → List Shown
columns_named columns names = map (column_under columns) names

-- the common type of the values that are put below each other
abbrev pub below_type : Columns → List Name → List Name → Ty
below_type schema on index = unwrap_or (value_type schema on index) NullType

-- the columns of the index, then one of names and one of values
abbrev pub unpivoted_shown : List Name → List Name → Option Name → Option Name → List Shown → List Shown
unpivoted_shown on index variable value columns =
    let below = columns_named columns (value_columns (heads columns) on index) in
    let type = below_type (heads columns) on index in
    map (column_times (length below)) (columns_named columns index) ++ ((variable_name variable, TextType), names_below below) ∷ ((value_name value, type), values_below type below) ∷ []

-- ---- an unnest

-- the parts of a struct, of which a null has none
abbrev pub parts_in : Val → List Val
parts_in (StructValue parts) = items_in parts
parts_in value = []

-- a column for each field: the first parts, the second ones, and so on, and null where there is none
abbrev pub parted : Fields → List (List Val) → List Shown
parted no_field rows = []
parted (with_field name type fields) rows = ((name, type), map first_value rows) ∷ parted fields (map (drop 1) rows)

abbrev pub opened_columns : Name → Ty → List Val → List Shown
opened_columns name (StructType fields) values = parted fields (map parts_in values)
opened_columns name type values = ((name, type), values) ∷ []

abbrev pub unnested_column : (Name → Bool) → Shown → List Shown
unnested_column test column = if test column.0.0 then opened_columns column.0.0 column.0.1 column.1 else column ∷ []
