-- An unnest of a frame is a frame of its columns, in which those of structs are those of their fields.
use Rattle.std.proofs.Common.{◌≡◌, true, false, cond, List, [], ◌∷◌, ◌++◌, map, not, IsTrue, refl, sym, subst}
use Rattle.std.specs.List.{AllByRecursion, list_all}
use Rattle.std.proofs.lemmas.Bool.{and_parts}
use Rattle.plan_types.specs.Types.{Ty, StructType, Fields, no_field, with_field}
use Rattle.plan_types.specs.SchemaCalls.{types_of}
use Rattle.plan_types.specs.Schemas.{Name, Columns, HasDistinctNames, is_among, names_of, repeats}
use Rattle.plan_types.specs.Values.{Val, Vals, no_value, with_value, NullValue, StructValue, fits, parts_fit}
use Rattle.plan_types.specs.Frames.{Row, Frame, RowFits, IsFrameOf}
use Rattle.plan_types.specs.declared.error.ErrorKind.{ErrorKind}
use Rattle.plan_types.specs.declared.error.ErrorKind.TheVariants.{ColumnNotFound, Duplicate, SchemaMismatch}
use Rattle.plan_types.proofs.SchemaLemmas.{distinct_from_test}
use Rattle.plan_dsl.specs.Drops.{have_names}
use Rattle.plan_dsl.specs.Picks.{items_in}
use Rattle.plan_dsl.specs.Refusals.{kind_where}
use Rattle.plan_dsl.specs.TableFrames.{field_values, opened_value, unnested_row, of_columns, unnested_on}
use Rattle.plan_dsl.specs.TableRules.{columns_under, distinct_kinds, field_columns, is_struct, opened_column, opened_type, unnest_kinds, unnested_columns, where_standing}
use Rattle.plan_dsl.proofs.GroupingLemmas.{rows_joined_fit}
use Rattle.plan_dsl.proofs.RowFitLemmas.{without_columns}
use Rattle.plan_dsl.proofs.RuleLemmas.{no_tail, not_repeated}

-- where columns have all names, nothing else is broken either
standing_kinds : (schema : Columns) (names : List Name) (kinds : List ErrorKind) → where_standing schema names kinds ≡ [] → kinds ≡ []
standing_kinds schema names kinds none =
    elim (have_names schema names) as (λ b. cond b kinds (ColumnNotFound ∷ []) ≡ [] → kinds ≡ []) [ true ↦ λ h. h | false ↦ λ h. cc ] none

-- so the columns have distinct names
unnested_distinct : (schema : Columns) (names : List Name) → unnest_kinds schema names ≡ [] → HasDistinctNames (unnested_columns names schema)
unnested_distinct schema names none =
    let own = unnested_columns names schema in
    let types = kind_where (not (list_all is_struct (types_of (columns_under schema names)))) SchemaMismatch in
    let broken = standing_kinds schema names (types ++ distinct_kinds (names_of own)) none in
    distinct_from_test own (not_repeated (repeats (names_of own)) Duplicate (no_tail types _ broken))

-- a struct's parts fit its fields, and so do nulls
parts_fit_fields : (parts : Vals) (fields : Fields) → IsTrue (parts_fit parts fields) → RowFits (field_columns fields) (items_in parts)
parts_fit_fields no_value no_field h = tt
parts_fit_fields no_value (with_field name type others) h = cc
parts_fit_fields (with_value first rest) no_field h = cc
parts_fit_fields (with_value first rest) (with_field name type others) h =
    let both = and_parts (fits first type) (parts_fit rest others) h in (both.0, parts_fit_fields rest others both.1)

nulls_fit : (columns : Columns) → RowFits columns (map (λ column. NullValue) columns)
nulls_fit [] = tt
nulls_fit (column ∷ columns) = (refl, nulls_fit columns)

field_values_fit : (fields : Fields) (value : Val) → IsTrue (fits value (StructType fields)) → RowFits (field_columns fields) (field_values fields value)
field_values_fit fields (StructValue parts) h = parts_fit_fields parts fields h
field_values_fit fields value h = nulls_fit (field_columns fields)

opened_fits : (name : Name) (type : Ty) (value : Val) → IsTrue (fits value type) → RowFits (opened_type name type) (opened_value type value)
opened_fits name (StructType fields) value h = field_values_fit fields value h
opened_fits name type value h = (h, tt)

-- rows that fit still do with these in place of structs
unnested_row_fits : (names : List Name) (schema : Columns) (row : Row) → RowFits schema row → RowFits (unnested_columns names schema) (unnested_row names schema row)
unnested_row_fits names [] row h = tt
unnested_row_fits names (column ∷ columns) [] h = absurd h
unnested_row_fits names (column ∷ columns) (value ∷ row) h =
    let others = unnested_columns names columns in
    let rest = unnested_row names columns row in
    let fit = unnested_row_fits names columns row h.1 in
    elim (is_among column.0 names) as (λ b. RowFits (cond b (opened_column column) (column ∷ []) ++ others) (cond b (opened_value column.1 value) (value ∷ []) ++ rest)) [
      | true ↦ rows_joined_fit (opened_column column) others (opened_value column.1 value) rest (opened_fits column.0 column.1 value h.0) fit
      | false ↦ (h.0, fit)
    ]

unnested_rows_fit : (names : List Name) (schema : Columns) (rows : List Row) → AllByRecursion (RowFits schema) rows → AllByRecursion (RowFits (unnested_columns names schema)) (map (unnested_row names schema) rows)
unnested_rows_fit names schema [] h = tt
unnested_rows_fit names schema (row ∷ rows) h = (unnested_row_fits names schema row h.0, unnested_rows_fit names schema rows h.1)

of_columns_frame : (schema : Columns) (rows : List Row) → HasDistinctNames schema → AllByRecursion (RowFits schema) rows → IsFrameOf schema (of_columns schema rows)
of_columns_frame [] rows distinct fit = without_columns [] refl
of_columns_frame (column ∷ columns) rows distinct fit = record { schema_is = refl; frame_is = record { distinct = distinct; fitting = fit; bare = tt } }

-- an unnest that breaks no rule is a frame of its columns
pub unnest_keeps : (schema : Columns) (frame : Frame) (names : List Name) → IsFrameOf schema frame → unnest_kinds schema names ≡ [] → IsFrameOf (unnested_columns names schema) (unnested_on names frame)
unnest_keeps schema frame names h none =
    let own = unnested_columns names in
    let distinct = unnested_distinct frame.schema names (subst (λ columns. unnest_kinds columns names ≡ []) (sym h.schema_is) none) in
    let made = of_columns_frame (own frame.schema) (map (unnested_row names frame.schema) frame.rows) distinct (unnested_rows_fit names frame.schema frame.rows h.frame_is.fitting) in
    subst (λ columns. IsFrameOf (own columns) (unnested_on names frame)) h.schema_is made
