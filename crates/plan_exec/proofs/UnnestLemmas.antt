-- Unnests, column by column: rows with fields in place of structs are rows of the columns that stand in place of those of structs.
use Rattle.std.proofs.Common.{◌≡◌, ◌∙◌, ℕ, zero, suc, List, [], ◌∷◌, ◌++◌, drop, length, map, Bool, true, false, cond, None, IsTrue, refl, sym, ap, subst, arith}
use Rattle.std.specs.List.{AllByRecursion, flat_map}
use Rattle.std.proofs.lemmas.Bool.{and_parts}
use Rattle.std.proofs.lemmas.List.{length-map, map-append}
use Rattle.plan_types.specs.Types.{Ty, StructType, Fields, no_field, with_field}
use Rattle.plan_types.specs.Schemas.{Name, Columns, is_among}
use Rattle.plan_types.specs.Values.{Val, Vals, no_value, with_value, NullValue, StructValue, fits, parts_fit, all_fit}
use Rattle.plan_types.specs.Frames.{Row, RowFits, IsFrame, IsFrameOf}
use Rattle.plan_types.specs.FrameFaults.{frame_fault, framed, height_of, shown}
use Rattle.plan_types.specs.FrameViews.{frame_of}
use Rattle.plan_types.specs.declared.column.Column.{Column}
use Rattle.plan_types.specs.declared.frame.Frame.{Frame as CodeFrame}
use Rattle.plan_types.proofs.FrameCallLemmas.{framed_is_frame}
use Rattle.plan_dsl.specs.Aggregates.{first_value}
use Rattle.plan_dsl.specs.Picks.{items_in}
use Rattle.plan_dsl.specs.Rows.{in_front}
use Rattle.plan_dsl.specs.TableFrames.{field_values, of_columns, opened_value, unnested_on, unnested_row}
use Rattle.plan_dsl.specs.TableRules.{field_columns, opened_column, unnest_kinds, unnested_columns}
use Rattle.plan_dsl.proofs.UnnestLemmas.{unnest_keeps}
use Rattle.plan_exec.specs.ColumnFunctions.{opened_columns, parted, parts_in, unnested_column}
use Rattle.plan_exec.specs.LaidFrames.{Shown, HaveRows, beside, contents, heads, laid}
use Rattle.plan_exec.proofs.LaidLemmas.{beside_many}
use Rattle.plan_exec.proofs.SoundLemmas.{IsFrameOfColumns, front_fits, laid_is_sound, sound_is_laid}

-- ---- rows behind values

-- rows, each behind values of its own
abbrev prefixed : List (List Val) → List Row → List Row
prefixed [] rows = []
prefixed (own ∷ others) [] = []
prefixed (own ∷ others) (row ∷ rows) = (own ++ row) ∷ prefixed others rows

-- rows behind columns of values
abbrev fronted : List (List Val) → List Row → List Row
fronted [] rows = rows
fronted (values ∷ others) rows = in_front values (fronted others rows)

beside_both : (count : ℕ) (columns others : List Shown) → beside count (contents (columns ++ others)) ≡ fronted (contents columns) (beside count (contents others))
beside_both count [] others = refl
beside_both count (column ∷ columns) others = ap (in_front column.1) (beside_both count columns others)

-- one value in front of each row
single : (values : List Val) (rows : List Row) → in_front values rows ≡ prefixed (map (λ value. value ∷ []) values) rows
single [] rows = refl
single (value ∷ values) [] = refl
single (value ∷ values) (row ∷ rows) = ap (λ l. (value ∷ row) ∷ l) (single values rows)

-- ---- the fields of structs

-- a value for each field: these, and null where there is none
abbrev filled : Fields → List Val → List Val
filled no_field parts = []
filled (with_field name type fields) parts = first_value parts ∷ filled fields (drop 1 parts)

filled_none : (parts : List (List Val)) (rows : List Row) → length parts ≡ length rows → rows ≡ prefixed (map (filled no_field) parts) rows
filled_none [] [] h = refl
filled_none [] (row ∷ rows) h = cc
filled_none (own ∷ parts) [] h = cc
filled_none (own ∷ parts) (row ∷ rows) h = ap (λ l. row ∷ l) (filled_none parts rows (omega (arith, h)))

filled_more : (name : Name) (type : Ty) (fields : Fields) (parts : List (List Val)) (rows : List Row) → in_front (map first_value parts) (prefixed (map (filled fields) (map (drop 1) parts)) rows) ≡ prefixed (map (filled (with_field name type fields)) parts) rows
filled_more name type fields [] rows = refl
filled_more name type fields (own ∷ parts) [] = refl
filled_more name type fields (own ∷ parts) (row ∷ rows) = ap (λ l. (first_value own ∷ (filled fields (drop 1 own) ++ row)) ∷ l) (filled_more name type fields parts rows)

parted_rows : (fields : Fields) (parts : List (List Val)) (rows : List Row) → length parts ≡ length rows → fronted (contents (parted fields parts)) rows ≡ prefixed (map (filled fields) parts) rows
parted_rows no_field parts rows many = filled_none parts rows many
parted_rows (with_field name type fields) parts rows many =
    ap (in_front (map first_value parts)) (parted_rows fields (map (drop 1) parts) rows (length-map parts (drop 1) ∙ many)) ∙ filled_more name type fields parts rows

parted_even : (count : ℕ) (fields : Fields) (parts : List (List Val)) → length parts ≡ count → HaveRows count (parted fields parts)
parted_even count no_field parts many = tt
parted_even count (with_field name type fields) parts many =
    (length-map parts first_value ∙ many, parted_even count fields (map (drop 1) parts) (length-map parts (drop 1) ∙ many))

parted_heads : (fields : Fields) (parts : List (List Val)) → heads (parted fields parts) ≡ field_columns fields
parted_heads no_field parts = refl
parted_heads (with_field name type fields) parts = ap (λ l. (name, type) ∷ l) (parted_heads fields (map (drop 1) parts))

-- a struct that fits has a part for each field, and a null has none
parts_filled : (parts : Vals) (fields : Fields) → IsTrue (parts_fit parts fields) → items_in parts ≡ filled fields (items_in parts)
parts_filled no_value no_field fit = refl
parts_filled no_value (with_field name type others) fit = cc
parts_filled (with_value first rest) no_field fit = cc
parts_filled (with_value first rest) (with_field name type others) fit =
    ap (λ l. first ∷ l) (parts_filled rest others (and_parts (fits first type) (parts_fit rest others) fit).1)

nulls_filled : (fields : Fields) → map (λ field. NullValue) (field_columns fields) ≡ filled fields []
nulls_filled no_field = refl
nulls_filled (with_field name type fields) = ap (λ l. NullValue ∷ l) (nulls_filled fields)

value_filled : (fields : Fields) (value : Val) → IsTrue (fits value (StructType fields)) → field_values fields value ≡ filled fields (parts_in value)
value_filled fields (StructValue parts) fit = parts_filled parts fields fit
value_filled fields value fit = nulls_filled fields

values_filled : (fields : Fields) (values : List Val) → IsTrue (all_fit values (StructType fields)) → map (filled fields) (map parts_in values) ≡ map (field_values fields) values
values_filled fields [] fit = refl
values_filled fields (value ∷ values) fit =
    let both = and_parts (fits value (StructType fields)) (all_fit values (StructType fields)) fit in
    let first = value_filled fields value both.0 in
    let rest = values_filled fields values both.1 in
    (λ i. sym first i ∷ rest i)

-- ---- a column, and those that stand in its place

opened_rows : (name : Name) (type : Ty) (values : List Val) (rows : List Row) → length values ≡ length rows → IsTrue (all_fit values type) → fronted (contents (opened_columns name type values)) rows ≡ prefixed (map (opened_value type) values) rows
opened_rows name (StructType fields) values rows many fit =
    parted_rows fields (map parts_in values) rows (length-map values parts_in ∙ many) ∙ ap (λ l. prefixed l rows) (values_filled fields values fit)
opened_rows name type values rows many fit = single values rows

opened_even : (count : ℕ) (name : Name) (type : Ty) (values : List Val) → length values ≡ count → HaveRows count (opened_columns name type values)
opened_even count name (StructType fields) values many = parted_even count fields (map parts_in values) (length-map values parts_in ∙ many)
opened_even count name type values many = (many, tt)

opened_heads : (name : Name) (type : Ty) (values : List Val) → heads (opened_columns name type values) ≡ opened_column (name, type)
opened_heads name (StructType fields) values = parted_heads fields (map parts_in values)
opened_heads name type values = refl

both_even : (count : ℕ) (columns others : List Shown) → HaveRows count columns → HaveRows count others → HaveRows count (columns ++ others)
both_even count [] others h k = k
both_even count (column ∷ columns) others h k = (h.0, both_even count columns others h.1 k)

-- the values of each column fit its type
abbrev AllFit : List Shown → Type 0
AllFit columns = AllByRecursion (λ column. IsTrue (all_fit column.1 column.0.1)) columns

laid_fit : (count : ℕ) (columns : List Shown) → HaveRows count columns → AllByRecursion (RowFits (heads columns)) (beside count (contents columns)) → AllFit columns
laid_fit count [] even fit = tt
laid_fit count (column ∷ columns) even fit =
    let parts = front_fits column.0 (heads columns) column.1 (beside count (contents columns)) (even.0 ∙ sym (beside_many count columns even.1)) fit in
    (parts.0, laid_fit count columns even.1 parts.1)

-- as many rows as columns are made for, and none without columns
abbrev rows_with : ℕ → List Shown → ℕ
rows_with count [] = 0
rows_with count (column ∷ columns) = count

laid_of_columns : (count : ℕ) (columns : List Shown) (schema : Columns) (rows : List Row) → heads columns ≡ schema → beside count (contents columns) ≡ rows → laid (rows_with count columns) columns ≡ of_columns schema rows
laid_of_columns count [] schema rows own are = ap (λ s. of_columns s rows) own
laid_of_columns count (column ∷ columns) schema rows own are = (λ i. of_columns (own i) (are i))

even_with : (count : ℕ) (columns : List Shown) → HaveRows count columns → HaveRows (rows_with count columns) columns
even_with count [] even = tt
even_with count (column ∷ columns) even = even

none_unnested : (names : List Name) (count : ℕ) → beside count [] ≡ map (unnested_row names []) (beside count [])
none_unnested names zero = refl
none_unnested names (suc count) = ap (λ l. [] ∷ l) (none_unnested names count)

module _ (names : List Name) (test : Name → Bool) (same : (name : Name) → test name ≡ is_among name names) where
  -- what stands in a row in place of a column's value
  abbrev in_place : Name × Ty → Val → List Val
  in_place head value = cond (test head.0) (opened_value head.1 value) (value ∷ [])

  in_place_rows : (head : Name × Ty) (schema : Columns) (values : List Val) (rows : List Row) → prefixed (map (in_place head) values) (map (unnested_row names schema) rows) ≡ map (unnested_row names (head ∷ schema)) (in_front values rows)
  in_place_rows head schema [] rows = refl
  in_place_rows head schema (value ∷ values) [] = refl
  in_place_rows head schema (value ∷ values) (row ∷ rows) =
      let rest = in_place_rows head schema values rows in
      (λ i. (cond (same head.0 i) (opened_value head.1 value) (value ∷ []) ++ unnested_row names schema row) ∷ rest i)

  column_rows : (column : Shown) (rows : List Row) → length column.1 ≡ length rows → IsTrue (all_fit column.1 column.0.1) → fronted (contents (unnested_column test column)) rows ≡ prefixed (map (in_place column.0) column.1) rows
  column_rows column rows many fit =
      elim (test column.0.0) as (λ b. fronted (contents (cond b (opened_columns column.0.0 column.0.1 column.1) (column ∷ []))) rows ≡ prefixed (map (λ value. cond b (opened_value column.0.1 value) (value ∷ [])) column.1) rows) [
        | true ↦ opened_rows column.0.0 column.0.1 column.1 rows many fit
        | false ↦ single column.1 rows
      ]

  column_even : (count : ℕ) (column : Shown) → length column.1 ≡ count → HaveRows count (unnested_column test column)
  column_even count column many =
      elim (test column.0.0) as (λ b. HaveRows count (cond b (opened_columns column.0.0 column.0.1 column.1) (column ∷ []))) [
        | true ↦ opened_even count column.0.0 column.0.1 column.1 many
        | false ↦ (many, tt)
      ]

  column_heads : (column : Shown) → heads (unnested_column test column) ≡ cond (is_among column.0.0 names) (opened_column column.0) (column.0 ∷ [])
  column_heads column =
      elim (test column.0.0) as (λ b. heads (cond b (opened_columns column.0.0 column.0.1 column.1) (column ∷ [])) ≡ cond b (opened_column column.0) (column.0 ∷ [])) [
        | true ↦ opened_heads column.0.0 column.0.1 column.1
        | false ↦ refl
      ] ∙ ap (λ b. cond b (opened_column column.0) (column.0 ∷ [])) (same column.0.0)

  -- ---- all columns

  abbrev unnested : List Shown → List Shown
  unnested columns = flat_map (unnested_column test) columns

  unnested_even : (count : ℕ) (columns : List Shown) → HaveRows count columns → HaveRows count (unnested columns)
  unnested_even count [] even = tt
  unnested_even count (column ∷ columns) even = both_even count (unnested_column test column) (unnested columns) (column_even count column even.0) (unnested_even count columns even.1)

  unnested_heads : (columns : List Shown) → heads (unnested columns) ≡ unnested_columns names (heads columns)
  unnested_heads [] = refl
  unnested_heads (column ∷ columns) =
      let first = column_heads column in
      let rest = unnested_heads columns in
      map-append (λ (own : Shown). own.0) (unnested_column test column) (unnested columns) ∙ (λ i. first i ++ rest i)

  unnested_rows : (count : ℕ) (columns : List Shown) → HaveRows count columns → AllFit columns → beside count (contents (unnested columns)) ≡ map (unnested_row names (heads columns)) (beside count (contents columns))
  unnested_rows count [] even fit = none_unnested names count
  unnested_rows count (column ∷ columns) even fit =
      let schema = heads columns in
      let rows = beside count (contents columns) in
      let many = even.0 ∙ sym (length-map rows (unnested_row names schema) ∙ beside_many count columns even.1) in
      beside_both count (unnested_column test column) (unnested columns)
      ∙ ap (fronted (contents (unnested_column test column))) (unnested_rows count columns even.1 fit.1)
      ∙ column_rows column (map (unnested_row names schema) rows) many fit.0
      ∙ in_place_rows column.0 schema column.1 rows

  -- ---- frames

  laid_unnested : (count : ℕ) (columns : List Shown) → HaveRows count columns → AllFit columns → laid (rows_with count (unnested columns)) (unnested columns) ≡ unnested_on names (laid count columns)
  laid_unnested count columns even fit = laid_of_columns count (unnested columns) (unnested_columns names (heads columns)) _ (unnested_heads columns) (unnested_rows count columns even fit)

  -- columns with those of fields in place of those of structs are the frame that an unnest makes
  unnested_is : (old new : List Column) → frame_fault old ≡ None → unnest_kinds (framed old).schema names ≡ [] → map shown new ≡ unnested (map shown old) → IsFrameOfColumns new (unnested_on names (framed old))
  unnested_is old new sound kinds are =
      let is_laid = sound_is_laid old sound in
      let count = height_of old in
      let columns = map shown old in
      let own : IsFrameOf (framed old).schema (framed old) = record { schema_is = refl; frame_is = framed_is_frame old sound } in
      let fit = laid_fit count columns is_laid.even (subst IsFrame is_laid.frame own.frame_is).fitting in
      let rows = rows_with count (unnested columns) in
      let even : HaveRows rows (map shown new) = subst (HaveRows rows) (sym are) (even_with count (unnested columns) (unnested_even count columns is_laid.even)) in
      let made = ap (laid rows) are ∙ laid_unnested count columns is_laid.even fit ∙ ap (unnested_on names) (sym is_laid.frame) in
      laid_is_sound rows new (unnested_on names (framed old)) even made (unnest_keeps (framed old).schema (framed old) names own kinds).frame_is

  -- of the columns that a frame had
  pub unnested_frame : (frame : CodeFrame) (old new : List Column) → old ≡ frame.columns.items → frame_fault old ≡ None → unnest_kinds (frame_of frame).schema names ≡ [] → map shown new ≡ unnested (map shown old) → IsFrameOfColumns new (unnested_on names (frame_of frame))
  unnested_frame frame old new own sound kinds are =
      unnested_is frame.columns.items new (subst (λ l. frame_fault l ≡ None) own sound) kinds (are ∙ ap (λ l. unnested (map shown l)) own)
