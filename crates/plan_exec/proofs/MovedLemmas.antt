-- Frames whose columns stay: under new names, and behind their rows' numbers.
use Rattle.std.proofs.Common.{◌≡◌, ◌∙◌, ◌+◌, ◌==◌, ℕ, List, [], ◌∷◌, length, map, true, false, cond, Option, None, unwrap_or, refl, sym, ap, subst}
use Rattle.std.specs.List.{range_with_len}
use Rattle.std.proofs.lemmas.Bool.{eqb-true}
use Rattle.std.proofs.lemmas.List.{length-map}
use Rattle.std.proofs.lemmas.List.FromFn.{length-range_with_len}
use Rattle.plan_types.specs.Types.{Integer, ty}
use Rattle.plan_types.specs.Schemas.{Name, Columns, names_of}
use Rattle.plan_types.specs.Values.{Val}
use Rattle.plan_types.specs.Frames.{IsFrameOf}
use Rattle.plan_types.specs.FrameFaults.{frame_fault, framed, height_of, row_of, shown, vals_of}
use Rattle.plan_types.specs.declared.column.Column.{Column}
use Rattle.plan_types.specs.declared.error.ErrorKind.TheVariants.{InvalidOperation}
use Rattle.plan_types.proofs.FrameCallLemmas.{framed_is_frame}
use Rattle.plan_types.proofs.ListLemmas.{map-map}
use Rattle.plan_dsl.specs.Aggregates.{count_value}
use Rattle.plan_dsl.specs.Rows.{in_front}
use Rattle.plan_dsl.specs.TableFrames.{indexed_on, renamed_on}
use Rattle.plan_dsl.specs.TableFunctions.{RowIndexFunction}
use Rattle.plan_dsl.specs.TableRules.{distinct_kinds, function_kinds, new_name, rename_kinds, renamed_columns}
use Rattle.plan_dsl.proofs.TableLemmas.{index_keeps, rename_keeps}
use Rattle.plan_exec.specs.ColumnFunctions.{renamed_column}
use Rattle.plan_exec.specs.LaidFrames.{Shown, HaveRows, beside, contents, heads, laid}
use Rattle.plan_exec.proofs.RowNumberLemmas.{number_from}
use Rattle.plan_exec.proofs.SoundLemmas.{IsFrameOfColumns, laid_is_sound, sound_is_laid}

own_frame : (columns : List Column) → frame_fault columns ≡ None → IsFrameOf (framed columns).schema (framed columns)
own_frame columns sound = record { schema_is = refl; frame_is = framed_is_frame columns sound }

-- ---- renames

-- there are as many new names as old ones
pub as_many_names : (columns : Columns) (existing new : List Name) → rename_kinds columns existing new ≡ [] → length existing ≡ length new
as_many_names columns existing new h =
    let kinds = distinct_kinds (names_of (renamed_columns existing new columns)) in
    elim (length existing == length new) as (λ b. (length existing == length new) ≡ b → cond b kinds (InvalidOperation ∷ []) ≡ [] → length existing ≡ length new) [ true ↦ λ e k. eqb-true (length existing) (length new) e | false ↦ λ e k. cc ] refl h

renamed_even : (count : ℕ) (existing new : List Name) (columns : List Shown) → HaveRows count columns → HaveRows count (map (renamed_column existing new) columns)
renamed_even count existing new [] h = tt
renamed_even count existing new (c ∷ cs) h = (h.0, renamed_even count existing new cs h.1)

pub renamed_is : (existing names : List Name) (old new : List Column) → frame_fault old ≡ None → rename_kinds (framed old).schema existing names ≡ [] → map shown new ≡ map (renamed_column existing names) (map shown old) → IsFrameOfColumns new (renamed_on existing names (framed old))
renamed_is existing names old new sound kinds are =
    let is_laid = sound_is_laid old sound in
    let columns = map shown old in
    let back = sym is_laid.frame in
    let even = subst (HaveRows (height_of old)) (sym are) (renamed_even (height_of old) existing names columns is_laid.even) in
    let schema : heads (map (renamed_column existing names) columns) ≡ renamed_columns existing names (heads columns) =
    map-map (λ (column : Shown). column.0) (renamed_column existing names) columns ∙ sym (map-map (λ column. (unwrap_or (new_name existing names column.0) column.0, column.1)) (λ (column : Shown). column.0) columns) in
    let values : contents (map (renamed_column existing names) columns) ≡ contents columns = map-map (λ (column : Shown). column.1) (renamed_column existing names) columns in
    let made : laid (height_of old) (map (renamed_column existing names) columns) ≡ renamed_on existing names (laid (height_of old) columns) =
    λ i. record { schema = schema i; rows = beside (height_of old) (values i) } in
    laid_is_sound (height_of old) new (renamed_on existing names (framed old)) even (ap (laid (height_of old)) are ∙ made ∙ ap (renamed_on existing names) back) (rename_keeps (framed old).schema (framed old) existing names (own_frame old sound) kinds).frame_is

-- ---- row indices

abbrev pub numbers_of : Option ℕ → ℕ → List Val
numbers_of offset count = map (λ number. count_value (Integer false 32) (unwrap_or offset 0 + number)) (range_with_len 0 count)

-- the column of the numbers of so many rows
pub numbered : (name : Name) (offset : Option ℕ) (count : ℕ) (column : Column) (first height : ℕ) → column.name ≡ name → ty column.dtype ≡ Integer false 32 → vals_of column.values ≡ map (number_from first) (range_with_len 0 height) → first ≡ unwrap_or offset 0 → height ≡ count → shown column ≡ ((name, Integer false 32), numbers_of offset count)
numbered name offset count column first height named typed own from many =
    let values = own ∙ (λ i. map (number_from (from i)) (range_with_len 0 (many i))) in
    (λ i. ((named i, typed i), values i))

pub indexed_is : (name : Name) (offset : Option ℕ) (old new : List Column) (column : Column) → frame_fault old ≡ None → function_kinds (RowIndexFunction name offset) (framed old).schema ≡ [] → new ≡ column ∷ old → shown column ≡ ((name, Integer false 32), numbers_of offset (length (framed old).rows)) → IsFrameOfColumns new (indexed_on name offset (framed old))
indexed_is name offset old new column sound kinds put own =
    let is_laid = sound_is_laid old sound in
    let columns = map shown old in
    let count = height_of old in
    let many : length (framed old).rows ≡ count = length-map (range_with_len 0 count) (row_of old) ∙ length-range_with_len 0 count in
    let values = numbers_of offset (length (framed old).rows) in
    let long : length values ≡ count = length-map (range_with_len 0 (length (framed old).rows)) _ ∙ length-range_with_len 0 (length (framed old).rows) ∙ many in
    let are : map shown new ≡ ((name, Integer false 32), values) ∷ columns = ap (map shown) put ∙ ap (λ c. c ∷ columns) own in
    let even = subst (HaveRows count) (sym are) (long, is_laid.even) in
    let back = sym is_laid.frame in
    let made : laid count (((name, Integer false 32), values) ∷ columns) ≡ indexed_on name offset (framed old) = λ i. record { schema = (name, Integer false 32) ∷ (back i).schema; rows = in_front values (back i).rows } in
    laid_is_sound count new (indexed_on name offset (framed old)) even (ap (laid count) are ∙ made) (index_keeps (framed old).schema (framed old) name offset (own_frame old sound) kinds).frame_is
