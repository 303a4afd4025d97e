-- Rows of row indices and unpivots, one by one, and what renames leave.
use Rattle.std.proofs.Common.{◌≡◌, ◌<◌, ◌+◌, ◌*◌, ℕ, zero, suc, List, [], ◌∷◌, ◌++◌, drop, length, map, slice_get, Some, false, unwrap_or, refl, ap, ◌∙◌, arith}
use Rattle.std.specs.List.{flat_map, range_with_len}
use Rattle.std.specs.Option.{option_map}
use Rattle.std.proofs.Math.Nat.{suc-mul}
use Rattle.std.proofs.lemmas.List.{length-append, length-map}
use Rattle.plan_types.specs.Types.{Integer, NullType}
use Rattle.plan_types.specs.SchemaCalls.{types_of}
use Rattle.plan_types.specs.Schemas.{Name, Columns}
use Rattle.plan_types.specs.Values.{Val, TextValue}
use Rattle.plan_types.specs.Casts.{cast}
use Rattle.plan_types.specs.Frames.{Row, value_in}
use Rattle.plan_types.specs.declared.dtype.CastOptions.TheVariants.{NonStrict}
use Rattle.plan_types.proofs.CastLemmas.{cast_itself}
use Rattle.plan_types.proofs.ValueLemmas.{value_in_fits}
use Rattle.plan_dsl.specs.Aggregates.{count_value}
use Rattle.plan_dsl.specs.FrameRows.{values_under}
use Rattle.plan_dsl.specs.Rows.{in_front}
use Rattle.plan_dsl.specs.TableRules.{renamed_columns, value_columns, value_type}
use Rattle.plan_dsl.specs.TableFrames.{given_or_null, unpivoted_row, unpivoted_rows}
use Rattle.plan_dsl.specs.TableLaws.{IndexesChangeNoOtherColumn, RenamesKeepRowsAndTypes, RowsAreNumbered, UnpivotsGiveARowForEachValue, UnpivotsGoColumnByColumn, UnpivotsKeepValuesOfTheType}

-- ---- row indices

module _ (f : ℕ → Val) where
  numbered : (start : ℕ) (rows : List Row) (number at : ℕ) → at ≡ start + number → slice_get (in_front (map f (range_with_len start (length rows))) rows) number ≡ option_map (λ row. f at ∷ row) (slice_get rows number)
  numbered start [] number at e = refl
  numbered start (row ∷ rows) zero at e = let same : start ≡ at = omega (arith, e) in ap (λ n. Some (f n ∷ row)) same
  numbered start (row ∷ rows) (suc number) at e = numbered (start + 1) rows number at (omega (arith, e))

  behind_numbers : (start : ℕ) (rows : List Row) → map (λ row. drop 1 row) (in_front (map f (range_with_len start (length rows))) rows) ≡ rows
  behind_numbers start [] = refl
  behind_numbers start (row ∷ rows) = ap (λ l. row ∷ l) (behind_numbers (start + 1) rows)

pub rows_are_numbered : RowsAreNumbered
rows_are_numbered name offset frame number = numbered (λ n. count_value (Integer false 32) (unwrap_or offset 0 + n)) 0 frame.rows number number (omega arith)

pub indexes_change_no_other : IndexesChangeNoOtherColumn
indexes_change_no_other name offset frame = behind_numbers (λ n. count_value (Integer false 32) (unwrap_or offset 0 + n)) 0 frame.rows

-- ---- lists behind each other

past : {A : Type 0} (front back : List A) (number place : ℕ) → place ≡ length front + number → slice_get (front ++ back) place ≡ slice_get back number
past [] back number place e = let same : place ≡ number = omega (arith, e) in ap (slice_get back) same
past (x ∷ front) back number zero e = absurd (omega (arith, e))
past (x ∷ front) back number (suc place) e = past front back number place (omega (arith, e))

within : (f : Row → Row) (rows back : List Row) (number : ℕ) → number < length rows → slice_get (map f rows ++ back) number ≡ Some (f (unwrap_or (slice_get rows number) []))
within f [] back number h = absurd (omega (arith, h))
within f (row ∷ rows) back zero h = refl
within f (row ∷ rows) back (suc number) h = within f rows back number (omega (arith, h))

-- ---- unpivots

module _ (f : Name → Row → Row) (rows : List Row) where
  abbrev rows_of : List Name → List Row
  rows_of names = flat_map (λ name. map (f name) rows) names

  rows_for_each : (names : List Name) → length (rows_of names) ≡ length names * length rows
  rows_for_each [] = omega arith
  rows_for_each (name ∷ names) =
      let later = rows_for_each names in
      omega (arith, length-append (map (f name) rows) (rows_of names), length-map rows (f name), later, suc-mul (length names) (length rows))

  rows_in_order : (front : List Name) (name : Name) (back : List Name) (number : ℕ) → number < length rows → slice_get (rows_of (front ++ name ∷ back)) (length front * length rows + number) ≡ Some (f name (unwrap_or (slice_get rows number) []))
  rows_in_order [] name back number h =
      let same : 0 * length rows + number ≡ number = omega arith in
      ap (slice_get (rows_of (name ∷ back))) same ∙ within (f name) rows (rows_of back) number h
  rows_in_order (x ∷ front) name back number h =
      past (map (f x) rows) (rows_of (front ++ name ∷ back)) (length front * length rows + number) _ (omega (arith, length-map rows (f x), suc-mul (length front) (length rows)))
      ∙ rows_in_order front name back number h

pub unpivots_give_a_row_for_each : UnpivotsGiveARowForEachValue
unpivots_give_a_row_for_each on index variable value frame =
    rows_for_each (unpivoted_row frame.schema index (unwrap_or (value_type frame.schema on index) NullType)) frame.rows (value_columns frame.schema on index)

pub unpivots_go_column_by_column : UnpivotsGoColumnByColumn
unpivots_go_column_by_column on index variable value frame front name back number e h =
    let type = unwrap_or (value_type frame.schema on index) NullType in
    ap (λ names. slice_get (unpivoted_rows frame.schema index type names frame.rows) (length front * length frame.rows + number)) e
    ∙ rows_in_order (unpivoted_row frame.schema index type) frame.rows front name back number h

pub unpivots_keep_values : UnpivotsKeepValuesOfTheType
unpivots_keep_values schema index type name row h at =
    let own = value_in schema name row in
    let front = values_under schema index row in
    ap (λ o. front ++ TextValue name ∷ given_or_null (cast own (unwrap_or o NullType) type NonStrict) ∷ []) at
    ∙ ap (λ c. front ++ TextValue name ∷ given_or_null c ∷ []) (cast_itself own type NonStrict (value_in_fits schema name row type h at))

-- ---- renames

types_stay : (existing new : List Name) (columns : Columns) → types_of (renamed_columns existing new columns) ≡ types_of columns
types_stay existing new [] = refl
types_stay existing new (column ∷ columns) = ap (λ types. column.1 ∷ types) (types_stay existing new columns)

pub renames_keep_rows_and_types : RenamesKeepRowsAndTypes
renames_keep_rows_and_types existing new frame = (refl, types_stay existing new frame.schema)
