-- Works that give some of a frame's rows: these are a frame of its columns.
use Rattle.std.proofs.Common.{◌≡◌, ℕ, zero, suc, Bool, ℤ, pos, ◌+ℤ◌, List, [], ◌∷◌, ◌++◌, length, map, take, drop, Option, refl, sym, subst}
use Rattle.std.specs.Prelude.{zip}
use Rattle.std.specs.List.{AllByRecursion, filter, flat_map}
use Rattle.plan_types.specs.Schemas.{Name, Columns}
use Rattle.plan_types.specs.Frames.{Row, Frame, row_numbers, RowFits, HasNoRowsWithoutColumns, IsFrameOf}
use Rattle.plan_types.specs.Outcomes.{Done, Meets}
use Rattle.plan_types.proofs.ValueLemmas.{meets_then}
use Rattle.plan_dsl.specs.declared.sort_options.SortOptions.{SortOptions}
use Rattle.plan_dsl.specs.declared.distinct_options.UniqueKeepStrategy.{UniqueKeepStrategy}
use Rattle.plan_dsl.specs.declared.distinct_options.UniqueKeepStrategy.TheVariants.{First, Last, None, Any}
use Rattle.plan_dsl.specs.Groups.{Group, firsts, items_beside, same_keys}
use Rattle.plan_dsl.specs.Kernels.{key_rows}
use Rattle.plan_dsl.specs.Sorting.{key_options, keys_before, sorted}
use Rattle.plan_dsl.specs.Slices.{in_front_of, between_places, slice_start}
use Rattle.plan_dsl.specs.FrameRows.{rows_between, rows_by_keys, kept_of, rows_once}
use Rattle.plan_dsl.specs.PlanKernels.{Evaluated, Series, all_series, with_rows, sorted_by, sorted_on, subset_keys, distinct_on}
use Rattle.plan_dsl.proofs.GroupingLemmas.{kept_have}
use Rattle.plan_dsl.proofs.SortLemmas.{key_rows_many, permuted_each, sorted_same}

-- ---- some of the rows

-- each of the found rows has what each of the rows has
abbrev pub AreAmong : List Row → List Row → Type 1
AreAmong rows found = (P : Row → Type 0) → AllByRecursion P rows → AllByRecursion P found

none_among : (found : List Row) → AllByRecursion (λ (row : Row). ⊥) found → found ≡ []
none_among [] h = refl
none_among (row ∷ found) h = absurd h.0

among_bare : (columns : Columns) (rows found : List Row) → AreAmong rows found → HasNoRowsWithoutColumns columns rows → HasNoRowsWithoutColumns columns found
among_bare [] rows found among h = none_among found (among (λ row. ⊥) (subst (AllByRecursion (λ (row : Row). ⊥)) (sym h) tt))
among_bare (column ∷ columns) rows found among h = tt

-- so they are a frame of the same columns
pub among_frame : (schema : Columns) (frame : Frame) (found : List Row) → AreAmong frame.rows found → IsFrameOf schema frame → IsFrameOf schema (with_rows frame found)
among_frame schema frame found among h = record {
  schema_is = h.schema_is;
  frame_is = record {
    distinct = h.frame_is.distinct;
    fitting = among (RowFits frame.schema) h.frame_is.fitting;
    bare = among_bare frame.schema frame.rows found among h.frame_is.bare;
  };
}

-- ---- slices

taken_have : {A : Type 0} (P : A → Type 0) (count : ℕ) (items : List A) → AllByRecursion P items → AllByRecursion P (take count items)
taken_have P zero items h = tt
taken_have P (suc count) [] h = tt
taken_have P (suc count) (item ∷ items) h = (h.0, taken_have P count items h.1)

dropped_have : {A : Type 0} (P : A → Type 0) (count : ℕ) (items : List A) → AllByRecursion P items → AllByRecursion P (drop count items)
dropped_have P zero items h = h
dropped_have P (suc count) [] h = tt
dropped_have P (suc count) (item ∷ items) h = dropped_have P count items h.1

between_have : {A : Type 0} (P : A → Type 0) (start stop : ℤ) (items : List A) → AllByRecursion P items → AllByRecursion P (between_places start stop items)
between_have P start stop items h = dropped_have P (in_front_of start) (take (in_front_of stop) items) (taken_have P (in_front_of stop) items h)

pub sliced_frame : (schema : Columns) (frame : Frame) (offset : ℤ) (count : ℕ) → IsFrameOf schema frame → IsFrameOf schema (with_rows frame (rows_between offset count frame.rows))
sliced_frame schema frame offset count h =
    let start = slice_start offset (length frame.rows) in
    among_frame schema frame (rows_between offset count frame.rows) (λ P each. between_have P start (start +ℤ pos count) frame.rows each) h

-- ---- sorts

rows_beside : (P : Row → Type 0) (rows keys : List Row) → AllByRecursion P rows → AllByRecursion (λ (pair : Row × Row). P pair.0) (zip rows keys)
rows_beside P [] keys h = tt
rows_beside P (row ∷ rows) [] h = tt
rows_beside P (row ∷ rows) (key ∷ keys) h = (h.0, rows_beside P rows keys h.1)

firsts_of_pairs : (P : Row → Type 0) (pairs : List (Row × Row)) → AllByRecursion (λ (pair : Row × Row). P pair.0) pairs → AllByRecursion P (map (λ pair. pair.0) pairs)
firsts_of_pairs P [] h = tt
firsts_of_pairs P (pair ∷ pairs) h = (h.0, firsts_of_pairs P pairs h.1)

by_keys_among : (options : List SortOptions) (keys rows : List Row) → AreAmong rows (rows_by_keys options keys rows)
by_keys_among options keys rows P each =
    let before : Row × Row → Row × Row → Bool = λ left right. keys_before options left.1 right.1 in
    let pairs = zip rows keys in
    firsts_of_pairs P (sorted before pairs) (permuted_each (λ (pair : Row × Row). P pair.0) pairs (sorted before pairs) (sorted_same before pairs) (rows_beside P rows keys each))

sorted_meets : (schema : Columns) (frame : Frame) (descending nulls_last : List Bool) (keys : List Series) → IsFrameOf schema frame → Meets (IsFrameOf schema) (sorted_by descending nulls_last keys frame)
sorted_meets schema frame descending nulls_last keys h =
    let count = length frame.rows in
    let columns = map (λ (key : Series). key.values) keys in
    let options = key_options (length keys) descending nulls_last in
    meets_then (λ rows. length rows ≡ count) (IsFrameOf schema) (key_rows count columns) (λ rows. Done (with_rows frame (rows_by_keys options rows frame.rows))) (key_rows_many count columns) (λ rows many. among_frame schema frame (rows_by_keys options rows frame.rows) (by_keys_among options rows frame.rows) h)

-- where keys aren't stuck, neither is the sort
pub sorted_frame : (schema : Columns) (frame : Frame) (descending nulls_last : List Bool) (es : List Evaluated) (Are : List Series → Type 0) → Meets Are (all_series (row_numbers frame) es) → IsFrameOf schema frame → Meets (IsFrameOf schema) (sorted_on descending nulls_last es frame)
sorted_frame schema frame descending nulls_last es Are keys h =
    meets_then Are (IsFrameOf schema) (all_series (row_numbers frame) es) (λ found. sorted_by descending nulls_last found frame) keys (λ found are. sorted_meets schema frame descending nulls_last found h)

-- ---- distinct rows

keys_beside : (P : Row → Type 0) (keys rows : List Row) → AllByRecursion P rows → AllByRecursion (λ (pair : Row × Row). P pair.1) (zip keys rows)
keys_beside P [] rows h = tt
keys_beside P (key ∷ keys) [] h = tt
keys_beside P (key ∷ keys) (row ∷ rows) h = (h.0, keys_beside P keys rows h.1)

seconds_of_pairs : (P : Row → Type 0) (pairs : List (Row × Row)) → AllByRecursion (λ (pair : Row × Row). P pair.1) pairs → AllByRecursion P (map (λ pair. pair.1) pairs)
seconds_of_pairs P [] h = tt
seconds_of_pairs P (pair ∷ pairs) h = (h.0, seconds_of_pairs P pairs h.1)

group_among : (key : Row) (keys rows : List Row) → AreAmong rows (items_beside key keys rows)
group_among key keys rows P each =
    let test : Row × Row → Bool = λ pair. same_keys key pair.0 in
    let pairs = zip keys rows in
    seconds_of_pairs P (filter test pairs) (kept_have (λ (pair : Row × Row). P pair.1) test pairs (keys_beside P keys rows each))

kept_among : (keep : UniqueKeepStrategy) (rows : List Row) → AreAmong rows (kept_of keep rows)
kept_among keep [] P each = tt
kept_among First (row ∷ rows) P each = (each.0, tt)
kept_among Any (row ∷ rows) P each = (each.0, tt)
kept_among Last (row ∷ []) P each = (each.0, tt)
kept_among Last (row ∷ next ∷ rows) P each = kept_among Last (next ∷ rows) P each.1
kept_among None (row ∷ []) P each = (each.0, tt)
kept_among None (row ∷ next ∷ rows) P each = tt

pub both_have : (P : Row → Type 0) (front back : List Row) → AllByRecursion P front → AllByRecursion P back → AllByRecursion P (front ++ back)
both_have P [] back h k = k
both_have P (row ∷ front) back h k = (h.0, both_have P front back h.1 k)

groups_among : (keep : UniqueKeepStrategy) (keys rows found : List Row) → AreAmong rows (flat_map (λ (group : Group Row). kept_of keep group.items) (map (λ key. record { key = key; items = items_beside key keys rows }) found))
groups_among keep keys rows [] P each = tt
groups_among keep keys rows (key ∷ found) P each =
    let items = items_beside key keys rows in
    let others = map (λ (other : Row). record { key = other; items = items_beside other keys rows }) found in
    both_have P (kept_of keep items) (flat_map (λ (group : Group Row). kept_of keep group.items) others) (kept_among keep items P (group_among key keys rows P each)) (groups_among keep keys rows found P each)

pub distinct_frame : (schema : Columns) (frame : Frame) (keep : UniqueKeepStrategy) (subset : Option (List Name)) → IsFrameOf schema frame → IsFrameOf schema (distinct_on keep subset frame)
distinct_frame schema frame keep subset h =
    let keys = subset_keys frame.schema subset frame.rows in
    among_frame schema frame (rows_once keep keys frame.rows) (groups_among keep keys frame.rows (firsts same_keys keys)) h
