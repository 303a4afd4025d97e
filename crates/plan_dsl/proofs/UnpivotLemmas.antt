-- Unpivots keep frames.
use Rattle.std.proofs.Common.{◌≡◌, List, [], ◌∷◌, ◌++◌, map, Option, Some, None, true, false, cond, unwrap_or, IsTrue, refl, sym, ap, ◌∙◌, subst}
use Rattle.std.specs.Prelude.{is_none}
use Rattle.std.specs.List.{AllByRecursion}
use Rattle.std.specs.Option.{option_and_then}
use Rattle.plan_types.specs.Types.{Ty, NullType, TextType, is_known}
use Rattle.plan_types.specs.Schemas.{Name, Columns, same_name, type_at, repeats, names_of}
use Rattle.plan_types.specs.Values.{TextValue, fits}
use Rattle.plan_types.specs.Casts.{Converted, Gives, Fails, can_cast, cast}
use Rattle.plan_types.specs.CommonTypes.{known_type}
use Rattle.plan_types.specs.SchemaCalls.{types_of}
use Rattle.plan_types.specs.TypeOrder.{folded_type, is_below}
use Rattle.plan_types.specs.Frames.{Row, Frame, RowFits, HasNoRowsWithoutColumns, IsFrameOf, value_in}
use Rattle.plan_types.specs.declared.dtype.CastOptions.TheVariants.{NonStrict}
use Rattle.plan_types.specs.declared.error.ErrorKind.TheVariants.{Duplicate, SchemaMismatch}
use Rattle.plan_types.proofs.SchemaLemmas.{distinct_from_test}
use Rattle.plan_types.proofs.TypeOrderLemmas.{below_casts, folded_above}
use Rattle.plan_types.proofs.ValueLemmas.{ConvertedFits, cast_fits}
use Rattle.plan_dsl.specs.FrameRows.{values_under}
use Rattle.plan_dsl.specs.Refusals.{kind_where}
use Rattle.plan_dsl.specs.TableRules.{columns_under, distinct_kinds, unpivot_kinds, unpivoted_columns, value_columns, value_name, value_type, variable_name}
use Rattle.plan_dsl.specs.TableFrames.{given_or_null, unpivoted_on, unpivoted_row, unpivoted_rows}
use Rattle.plan_dsl.proofs.GroupingLemmas.{rows_joined_fit}
use Rattle.plan_dsl.proofs.RowWorkLemmas.{both_have}
use Rattle.plan_dsl.proofs.RuleLemmas.{no_front, no_tail, not_repeated}
use Rattle.plan_dsl.proofs.TableLemmas.{else_unbroken}

-- ---- values under names

-- a row's value under a name fits the type there, and is null where there is none
value_fits : (columns : Columns) (name : Name) (row : Row) → RowFits columns row → IsTrue (fits (value_in columns name row) (unwrap_or (type_at columns name) NullType))
value_fits [] name row h = refl
value_fits (column ∷ columns) name [] h = absurd h
value_fits (column ∷ columns) name (value ∷ row) h =
    elim (same_name name column.0) as (λ b. IsTrue (fits (cond b value (value_in columns name row)) (unwrap_or (cond b (Some column.1) (type_at columns name)) NullType))) [ true ↦ h.0 | false ↦ value_fits columns name row h.1 ]

values_fit : (schema : Columns) (names : List Name) (row : Row) → RowFits schema row → RowFits (columns_under schema names) (values_under schema names row)
values_fit schema [] row h = tt
values_fit schema (name ∷ names) row h = (value_fits schema name row h, values_fit schema names row h)

given_or_null_fits : (type : Ty) (converted : Converted) → ConvertedFits type converted → IsTrue (fits (given_or_null converted) type)
given_or_null_fits type (Gives value) h = h
given_or_null_fits type Fails h = refl

-- ---- rows

module _ (schema : Columns) (index : List Name) (variable value : Name) (type : Ty) where
  abbrev own_columns : Columns
  own_columns = columns_under schema index ++ (variable, TextType) ∷ (value, type) ∷ []

  -- rows of a column whose values can be cast to the type fit
  row_fits : (name : Name) (row : Row) → can_cast (unwrap_or (type_at schema name) NullType) type ≡ true → RowFits schema row → RowFits own_columns (unpivoted_row schema index type name row)
  row_fits name row k h =
      let from = unwrap_or (type_at schema name) NullType in
      let own = value_in schema name row in
      let converted = cast own from type NonStrict in
      let fit = given_or_null_fits type converted (cast_fits own from type NonStrict (value_fits schema name row h) k) in
      rows_joined_fit (columns_under schema index) ((variable, TextType) ∷ (value, type) ∷ []) (values_under schema index row) (TextValue name ∷ given_or_null converted ∷ []) (values_fit schema index row h) (refl, (fit, tt))

  rows_of_one_fit : (name : Name) (rows : List Row) → can_cast (unwrap_or (type_at schema name) NullType) type ≡ true → AllByRecursion (RowFits schema) rows → AllByRecursion (RowFits own_columns) (map (unpivoted_row schema index type name) rows)
  rows_of_one_fit name [] k h = tt
  rows_of_one_fit name (row ∷ rows) k h = (row_fits name row k h.0, rows_of_one_fit name rows k h.1)

  rows_fit : (names : List Name) (rows : List Row) → AllByRecursion (λ from. can_cast from type ≡ true) (types_of (columns_under schema names)) → AllByRecursion (RowFits schema) rows → AllByRecursion (RowFits own_columns) (unpivoted_rows schema index type names rows)
  rows_fit [] rows k h = tt
  rows_fit (name ∷ names) rows k h =
      both_have (RowFits own_columns) (map (unpivoted_row schema index type name) rows) (unpivoted_rows schema index type names rows) (rows_of_one_fit name rows k.0 h) (rows_fit names rows k.1 h)

-- ---- columns

pub names_under : (schema : Columns) (index : List Name) (others : Columns) → names_of (columns_under schema index ++ others) ≡ index ++ names_of others
names_under schema [] others = refl
names_under schema (name ∷ index) others = ap (λ names. name ∷ names) (names_under schema index others)

has_a_column : (front : Columns) (column : Name × Ty) (back : Columns) (rows : List Row) → HasNoRowsWithoutColumns (front ++ column ∷ back) rows
has_a_column [] column back rows = tt
has_a_column (first ∷ front) column back rows = tt

-- ---- types

-- a common type that is one of columns
common_known : (common : Option Ty) → is_none (option_and_then known_type common) ≡ false → (common ≡ Some (unwrap_or (option_and_then known_type common) NullType)) × (is_known (unwrap_or (option_and_then known_type common) NullType) ≡ true)
common_known None h = cc
common_known (Some type) h =
    elim (is_known type) as (λ b. is_known type ≡ b → is_none (cond b (Some type) None) ≡ false → (Some type ≡ Some (unwrap_or (cond b (Some type) None) NullType)) × (is_known (unwrap_or (cond b (Some type) None) NullType) ≡ true)) [ true ↦ λ e k. (refl, e) | false ↦ λ e k. cc ] refl h

some_there : (common : Option Ty) → is_none common ≡ false → common ≡ Some (unwrap_or common NullType)
some_there None h = cc
some_there (Some type) h = refl

-- what is below a type of columns can be cast to it
below_cast : (types : List Ty) (found : Ty) → is_known found ≡ true → AllByRecursion (λ type. is_below type found ≡ true) types → AllByRecursion (λ type. can_cast type found ≡ true) types
below_cast [] found known h = tt
below_cast (type ∷ types) found known h = (below_casts type found known h.0, below_cast types found known h.1)

-- there is a common type, and the values that are put below each other can be cast to it
pub values_cast : (schema : Columns) (on index : List Name) (variable value : Option Name) → unpivot_kinds schema on index variable value ≡ [] → let type = unwrap_or (value_type schema on index) NullType in (value_type schema on index ≡ Some type) × AllByRecursion (λ from. can_cast from type ≡ true) (types_of (columns_under schema (value_columns schema on index)))
values_cast schema on index variable value none =
    let types = types_of (columns_under schema (value_columns schema on index)) in
    let type = unwrap_or (value_type schema on index) NullType in
    let names = distinct_kinds (index ++ variable_name variable ∷ value_name value ∷ []) in
    let front = kind_where (is_none (value_type schema on index)) SchemaMismatch in
    let found = not_repeated (is_none (value_type schema on index)) SchemaMismatch (no_front front names (else_unbroken schema (on ++ index) (front ++ names) none)) in
    let common = common_known (folded_type types) found in
    (some_there (value_type schema on index) found, below_cast types type common.1 (folded_above types type common.0))

-- ---- frames

keeps_own : (frame : Frame) (on index : List Name) (variable value : Option Name) → IsFrameOf frame.schema frame → unpivot_kinds frame.schema on index variable value ≡ [] → IsFrameOf (unpivoted_columns frame.schema on index variable value) (unpivoted_on on index variable value frame)
keeps_own frame on index variable value h none =
    let schema = frame.schema in
    let names = value_columns schema on index in
    let type = unwrap_or (value_type schema on index) NullType in
    let others : Columns = (variable_name variable, TextType) ∷ (value_name value, type) ∷ [] in
    let own = index ++ names_of others in
    let front = kind_where (is_none (value_type schema on index)) SchemaMismatch in
    let kinds = else_unbroken schema (on ++ index) (front ++ distinct_kinds own) none in
    record {
      schema_is = refl;
      frame_is = record {
        distinct = distinct_from_test (columns_under schema index ++ others) (ap repeats (names_under schema index others) ∙ not_repeated (repeats own) Duplicate (no_tail front (distinct_kinds own) kinds));
        fitting = rows_fit schema index (variable_name variable) (value_name value) type names frame.rows (values_cast schema on index variable value none).1 h.frame_is.fitting;
        bare = has_a_column (columns_under schema index) (variable_name variable, TextType) ((value_name value, type) ∷ []) _;
      };
    }

pub unpivot_keeps : (schema : Columns) (frame : Frame) (on index : List Name) (variable value : Option Name) → IsFrameOf schema frame → unpivot_kinds schema on index variable value ≡ [] → IsFrameOf (unpivoted_columns schema on index variable value) (unpivoted_on on index variable value frame)
unpivot_keeps schema frame on index variable value h none =
    let own = keeps_own frame on index variable value (record { schema_is = refl; frame_is = h.frame_is }) (subst (λ s. unpivot_kinds s on index variable value ≡ []) (sym h.schema_is) none) in
    record { schema_is = ap (λ s. unpivoted_columns s on index variable value) h.schema_is; frame_is = own.frame_is }
