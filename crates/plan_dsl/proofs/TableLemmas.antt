-- Row indices and renames keep frames; what else is broken of names that stand.
use Rattle.std.proofs.Common.{◌≡◌, ℕ, ◌+◌, pos, List, [], ◌∷◌, length, map, Option, Bool, true, false, ◌==◌, cond, unwrap_or, IsTrue, refl, sym, ap, subst}
use Rattle.std.specs.List.{AllByRecursion}
use Rattle.std.proofs.lemmas.Bool.{and_from}
use Rattle.plan_types.specs.Types.{Integer}
use Rattle.plan_types.specs.Schemas.{Name, Columns, is_among, repeats, names_of}
use Rattle.plan_types.specs.Values.{all_fit}
use Rattle.plan_types.specs.Frames.{Row, Frame, RowFits, HasNoRowsWithoutColumns, IsFrameOf, row_numbers}
use Rattle.plan_types.specs.declared.error.ErrorKind.{ErrorKind}
use Rattle.plan_types.specs.declared.error.ErrorKind.TheVariants.{ColumnNotFound, Duplicate, InvalidOperation}
use Rattle.plan_types.proofs.SchemaLemmas.{IsNewName-test, distinct_from_test}
use Rattle.plan_types.proofs.ValueLemmas.{wrapped_in_range}
use Rattle.plan_dsl.specs.Aggregates.{count_value}
use Rattle.plan_dsl.specs.Drops.{have_names}
use Rattle.plan_dsl.specs.TableFunctions.{RowIndexFunction}
use Rattle.plan_dsl.specs.TableRules.{distinct_kinds, function_kinds, indexed_columns, rename_kinds, renamed_columns, where_standing}
use Rattle.plan_dsl.specs.TableFrames.{indexed_on, renamed_on}
use Rattle.plan_dsl.proofs.RowFitLemmas.{rows_in_front}
use Rattle.plan_dsl.proofs.RuleLemmas.{not_repeated}

-- ---- rules

-- where no kind is broken the names stand, and nothing else is broken
pub else_unbroken : (schema : Columns) (names : List Name) (kinds : List ErrorKind) → where_standing schema names kinds ≡ [] → kinds ≡ []
else_unbroken schema names kinds h = elim (have_names schema names) as (λ b. cond b kinds (ColumnNotFound ∷ []) ≡ [] → kinds ≡ []) [ true ↦ λ e. e | false ↦ λ e. absurd cc ] h

-- ---- row indices

-- numbers that are counted from another on are counts
counts_fit : (start : ℕ) (numbers : List ℕ) → IsTrue (all_fit (map (λ number. count_value (Integer false 32) (start + number)) numbers) (Integer false 32))
counts_fit start [] = refl
counts_fit start (number ∷ numbers) = and_from _ _ (wrapped_in_range false 32 (pos (start + number))) (counts_fit start numbers)

pub index_keeps : (schema : Columns) (frame : Frame) (name : Name) (offset : Option ℕ) → IsFrameOf schema frame → function_kinds (RowIndexFunction name offset) schema ≡ [] → IsFrameOf (indexed_columns name schema) (indexed_on name offset frame)
index_keeps schema frame name offset h none =
    let new = subst (λ s. is_among name (names_of s) ≡ false) (sym h.schema_is) (not_repeated (is_among name (names_of schema)) Duplicate none) in
    record {
      schema_is = ap (indexed_columns name) h.schema_is;
      frame_is = record { distinct = (IsNewName-test frame.schema name new, h.frame_is.distinct); fitting = rows_in_front frame.schema name (Integer false 32) _ frame.rows (counts_fit (unwrap_or offset 0) (row_numbers frame)) h.frame_is.fitting; bare = tt };
    }

-- ---- renames

-- as many new names as old ones are only asked to be distinct
pub as_many : (test : Bool) (kinds : List ErrorKind) → cond test kinds (InvalidOperation ∷ []) ≡ [] → kinds ≡ []
as_many true kinds h = h
as_many false kinds h = absurd cc

-- columns with other names have the rows
module _ (existing new : List Name) where
  renamed_row : (columns : Columns) (row : Row) → RowFits columns row → RowFits (renamed_columns existing new columns) row
  renamed_row [] [] h = tt
  renamed_row [] (value ∷ row) h = absurd h
  renamed_row (column ∷ columns) [] h = absurd h
  renamed_row (column ∷ columns) (value ∷ row) h = (h.0, renamed_row columns row h.1)

  renamed_rows : (columns : Columns) (rows : List Row) → AllByRecursion (RowFits columns) rows → AllByRecursion (RowFits (renamed_columns existing new columns)) rows
  renamed_rows columns [] h = tt
  renamed_rows columns (row ∷ rows) h = (renamed_row columns row h.0, renamed_rows columns rows h.1)

  renamed_bare : (columns : Columns) (rows : List Row) → HasNoRowsWithoutColumns columns rows → HasNoRowsWithoutColumns (renamed_columns existing new columns) rows
  renamed_bare [] rows h = h
  renamed_bare (column ∷ columns) rows h = tt

pub rename_keeps : (schema : Columns) (frame : Frame) (existing new : List Name) → IsFrameOf schema frame → rename_kinds schema existing new ≡ [] → IsFrameOf (renamed_columns existing new schema) (renamed_on existing new frame)
rename_keeps schema frame existing new h none =
    let own = renamed_columns existing new schema in
    let same = ap (renamed_columns existing new) h.schema_is in
    let apart = not_repeated (repeats (names_of own)) Duplicate (as_many (length existing == length new) (distinct_kinds (names_of own)) none) in
    record {
      schema_is = same;
      frame_is = record { distinct = distinct_from_test (renamed_columns existing new frame.schema) (subst (λ s. repeats (names_of s) ≡ false) (sym same) apart); fitting = renamed_rows existing new frame.schema frame.rows h.frame_is.fitting; bare = renamed_bare existing new frame.schema frame.rows h.frame_is.bare };
    }
