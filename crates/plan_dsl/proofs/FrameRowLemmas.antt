-- Rows that are sorted, sliced, and kept once.
use Rattle.std.proofs.Common.{◌≡◌, ◌∙◌, ◌<◌, ◌≤◌, ◌+◌, ◌-◌, ℕ, zero, suc, ℤ, pos, negsuc, neg_ℤ, ◌+ℤ◌, Bool, true, false, cond, T, List, [], ◌∷◌, ◌++◌, length, take, drop, slice_get, refl, sym, ap, arith, ltb, ltb→lt, suc-add, append_assoc, append-nil, map, subst, length-drop, length-take, take-append-drop, take_all}
use Rattle.std.specs.Prelude.{not, ◌||◌, ◌==◌, min, flat_map, zip, IsPermutation}
use Rattle.std.specs.List.{AllByRecursion, filter}
use Rattle.std.proofs.Math.IntN.{sub_ℕ}
use Rattle.std.proofs.Math.Nat.{min-le_left}
use Rattle.std.proofs.lemmas.Bool.{eqb-true}
use Rattle.std.proofs.lemmas.List.{map-append}
use Rattle.std.proofs.lemmas.List.Sorted.{IsPermutation-map}
use Rattle.std.proofs.lemmas.Slice.Zip.{firsts-zip}
use Rattle.plan_types.specs.Frames.{Row}
use Rattle.plan_dsl.specs.declared.distinct_options.UniqueKeepStrategy.{UniqueKeepStrategy}
use Rattle.plan_dsl.specs.declared.distinct_options.UniqueKeepStrategy.TheVariants.{First, Last, None, Any}
use Rattle.plan_dsl.specs.FrameRows.{kept_of}
use Rattle.plan_dsl.specs.FrameRowLaws.{AllRowsFromTheEndAreTheFront, AnyRowIsTheFirst, FirstRowsStandInOrder, IsKept, IsSliceOf, LongSlicesAreAllRows, NoneBeside, OffsetsCountFromTheEnd, OneRowIsKeptOfOneKey, RowsAreKeptOnce, SlicesArePartsOfRows, SortsHaveTheRows, SortsPutRowsInOrder, StandsBetween, is_one_kept}
use Rattle.plan_dsl.specs.GroupLaws.{AreApart, with_item}
use Rattle.plan_dsl.specs.Groups.{Group, firsts, groups, items_beside, same_keys}
use Rattle.plan_dsl.specs.Slices.{between_places, in_front_of, slice_start}
use Rattle.plan_dsl.specs.Sorting.{keys_before, sorted}
use Rattle.plan_dsl.proofs.GroupLemmas.{HaveKeys, all_there, among, apart_kept, each_is_in_one_group, firsts_apart, items_go_to_the_end, keys_exact, keys_found, keys_of_groups, or_right}
use Rattle.plan_dsl.proofs.GroupingLemmas.{firsts_have}
use Rattle.plan_dsl.proofs.OrderLemmas.{beside_keys_sorted}
use Rattle.plan_dsl.proofs.SortLemmas.{sorted_same}

-- ---- slices

left_in_front : (less : Bool) (a b : ℕ) → (T less → a < b) → in_front_of (cond less (negsuc (b - suc a)) (pos (a - b))) ≡ a - b
left_in_front true a b h = let less = h tt in omega (arith, less)
left_in_front false a b h = refl

difference_in_front : (a b : ℕ) → in_front_of (sub_ℕ a b) ≡ a - b
difference_in_front a b = left_in_front (ltb a b) a b (ltb→lt a b)

left_over : (less : Bool) (a b : ℕ) → (T less → a < b) → b ≤ a → cond less (negsuc (b - suc a)) (pos (a - b)) ≡ pos (a - b)
left_over true a b h k = let less = h tt in absurd (omega (arith, less, k))
left_over false a b h k = refl

difference_over : (a b : ℕ) → b ≤ a → sub_ℕ a b ≡ pos (a - b)
difference_over a b k = left_over (ltb a b) a b (ltb→lt a b) k

-- the end of a slice is no nearer to the front than its start, and at most so many behind it
ends_behind : (start : ℤ) (count : ℕ) → in_front_of start ≤ in_front_of (start +ℤ pos count)
ends_behind (pos place) count = omega arith
ends_behind (negsuc before) count = omega arith

ends_within : (start : ℤ) (count : ℕ) → in_front_of (start +ℤ pos count) ≤ in_front_of start + count
ends_within (pos place) count = omega arith
ends_within (negsuc before) count = let left = difference_in_front count (suc before) in omega (arith, left)

module _ {A : Type 0} where
  front_and_slice : (start stop : ℕ) (rows : List A) → start ≤ stop → take start rows ++ drop start (take stop rows) ≡ take stop rows
  front_and_slice zero stop rows h = refl
  front_and_slice (suc start) zero rows h = absurd (omega (arith, h))
  front_and_slice (suc start) (suc stop) [] h = refl
  front_and_slice (suc start) (suc stop) (row ∷ rows) h = ap (λ l. row ∷ l) (front_and_slice start stop rows (omega (arith, h)))

  all_parts : (start stop : ℕ) (rows : List A) → start ≤ stop → rows ≡ take start rows ++ (drop start (take stop rows) ++ drop stop rows)
  all_parts start stop rows h =
      sym (sym (append_assoc (take start rows) (drop start (take stop rows)) (drop stop rows)) ∙ ap (λ l. l ++ drop stop rows) (front_and_slice start stop rows h) ∙ take-append-drop stop rows)

  get_dropped : (start : ℕ) (rows : List A) (place : ℕ) → slice_get (drop start rows) place ≡ slice_get rows (start + place)
  get_dropped zero rows place = let same : place ≡ zero + place = omega arith in ap (slice_get rows) same
  get_dropped (suc start) [] place = refl
  get_dropped (suc start) (row ∷ rows) place = get_dropped start rows place ∙ ap (slice_get (row ∷ rows)) (sym (suc-add start place))

  get_taken : (stop : ℕ) (rows : List A) (place : ℕ) → place < stop → slice_get (take stop rows) place ≡ slice_get rows place
  get_taken zero rows place h = absurd (omega (arith, h))
  get_taken (suc stop) [] place h = refl
  get_taken (suc stop) (row ∷ rows) zero h = refl
  get_taken (suc stop) (row ∷ rows) (suc place) h = get_taken stop rows place (omega (arith, h))

  slice_length : (start stop : ℕ) (rows : List A) → length (drop start (take stop rows)) ≡ min stop (length rows) - start
  slice_length start stop rows = length-drop start (take stop rows) ∙ ap (λ n. n - start) (length-take stop rows)

  slice_within : (start stop : ℕ) (rows : List A) → length (drop start (take stop rows)) ≤ stop - start
  slice_within start stop rows = let many = slice_length start stop rows in let least = min-le_left stop (length rows) in omega (arith, many, least)

  get_sliced : (start stop : ℕ) (rows : List A) (place : ℕ) → place < length (drop start (take stop rows)) → slice_get (drop start (take stop rows)) place ≡ slice_get rows (start + place)
  get_sliced start stop rows place h =
      let most = slice_within start stop rows in
      get_dropped start (take stop rows) place ∙ get_taken stop rows (start + place) (omega (arith, h, most))

slice_of : (start : ℤ) (count : ℕ) (rows : List Row) → IsSliceOf start count rows (between_places start (start +ℤ pos count) rows)
slice_of start count rows =
    let first = in_front_of start in
    let last = in_front_of (start +ℤ pos count) in
    let behind = ends_behind start count in
    let within = ends_within start count in
    let most = slice_within first last rows in
    record {
      front = take first rows;
      back = drop last rows;
      whole = all_parts first last rows behind;
      begins = length-take first rows;
      ends = ap length (front_and_slice first last rows behind) ∙ length-take last rows;
      at_most = omega (arith, within, most);
      each = get_sliced first last rows;
    }

pub slices_are_parts : SlicesArePartsOfRows
slices_are_parts offset count rows = slice_of (slice_start offset (length rows)) count rows

pub long_slices : LongSlicesAreAllRows
long_slices count rows h = take_all (zero + count) rows (omega (arith, h))

-- a slice from a place on
abbrev rows_from : ℤ → ℕ → List Row → List Row
rows_from start count rows = between_places start (start +ℤ pos count) rows

pub from_the_end : OffsetsCountFromTheEnd
from_the_end before count rows h = ap (λ start. rows_from start count rows) (difference_over (length rows) (suc before) (omega (arith, h)))

from_so_far : (length : ℕ) → slice_start (neg_ℤ (pos length)) length ≡ pos 0
from_so_far zero = refl
from_so_far (suc before) = let none : suc before - suc before ≡ 0 = omega arith in difference_over (suc before) (suc before) (omega arith) ∙ ap pos none

pub front_from_the_end : AllRowsFromTheEndAreTheFront
front_from_the_end count rows = ap (λ start. rows_from start count rows) (from_so_far (length rows))

-- ---- sorts

pub sorts_have_the_rows : SortsHaveTheRows
sorts_have_the_rows options keys rows many =
    let before = λ (left right : Row × Row). keys_before options left.1 right.1 in
    let found = sorted before (zip rows keys) in
    subst (λ l. IsPermutation l (map (λ row. row.0) found)) (firsts-zip rows keys many) (IsPermutation-map (λ row. row.0) (zip rows keys) found (sorted_same before (zip rows keys)))

pub sorts_put_rows_in_order : SortsPutRowsInOrder
sorts_put_rows_in_order options types keys rows fit = record {
  beside = sorted (λ left right. keys_before options left.1 right.1) (zip rows keys);
  sorted = beside_keys_sorted options types keys rows fit;
  found_is = refl;
}

-- ---- what is kept of the rows beside some keys

-- the rows beside keys
abbrev of_key : Row → List (Row × Row) → List (Row × Row)
of_key key rows = filter (λ row. same_keys key row.0) rows

abbrev rows_of : Row → List (Row × Row) → List Row
rows_of key rows = map (λ row. row.1) (of_key key rows)

-- rows, each behind the keys
abbrev behind : Row → List Row → List (Row × Row)
behind key rows = map (λ row. (key, row)) rows

some_rows : (row : Row) (rows : List Row) → row ∷ rows ≡ [] → ⊥
some_rows row rows h = cc

none_beside : (key : Row) (rows : List (Row × Row)) → rows_of key rows ≡ [] → NoneBeside key rows
none_beside key [] h = tt
none_beside key (row ∷ rows) h =
    elim (same_keys key row.0) as (λ b. same_keys key row.0 ≡ b → map (λ (r : Row × Row). r.1) (cond b (row ∷ of_key key rows) (of_key key rows)) ≡ [] → NoneBeside key (row ∷ rows)) [
      | true ↦ λ e h. absurd (some_rows row.1 (rows_of key rows) h)
      | false ↦ λ e h. (e, none_beside key rows h)
    ] refl h

-- a row beside the keys, in front of all others
kept_in_front : (keep : UniqueKeepStrategy) (key : Row) (row : Row × Row) (rows : List (Row × Row)) → same_keys key row.0 ≡ true → StandsBetween keep key [] rows → IsKept keep (row ∷ rows) (key, row.1)
kept_in_front keep key row rows e stands = let own = sym (keys_exact key row.0 e) in record { front = []; back = rows; whole = λ i. (own i, row.1) ∷ rows; stands = stands }

-- what is kept of rows with another in front of them
kept_behind : (keep : UniqueKeepStrategy) (key : Row) (first : Row × Row) (others : List (Row × Row)) (rows : List Row) → ((front back : List (Row × Row)) → StandsBetween keep key front back → StandsBetween keep key (first ∷ front) back) → AllByRecursion (IsKept keep others) (behind key rows) → AllByRecursion (IsKept keep (first ∷ others)) (behind key rows)
kept_behind keep key first others [] stands h = tt
kept_behind keep key first others (row ∷ rows) stands h =
    (record { front = first ∷ h.0.front; back = h.0.back; whole = ap (λ l. first ∷ l) h.0.whole; stands = stands h.0.front h.0.back h.0.stands }, kept_behind keep key first others rows stands h.1)

stands_behind_other : (keep : UniqueKeepStrategy) (key : Row) (first : Row × Row) (front back : List (Row × Row)) → same_keys key first.0 ≡ false → StandsBetween keep key front back → StandsBetween keep key (first ∷ front) back
stands_behind_other First key first front back e h = (e, h)
stands_behind_other Any key first front back e h = (e, h)
stands_behind_other Last key first front back e h = h
stands_behind_other None key first front back e h = ((e, h.0), h.1)

-- one more row of the keys in front of those that follow
kept_with_first : (keep : UniqueKeepStrategy) (key : Row) (first : Row × Row) (others : List (Row × Row)) (rows : List Row) → same_keys key first.0 ≡ true → rows_of key others ≡ rows → AllByRecursion (IsKept keep others) (behind key (kept_of keep rows)) → AllByRecursion (IsKept keep (first ∷ others)) (behind key (kept_of keep (first.1 ∷ rows)))
kept_with_first First key first others rows e is h = (kept_in_front First key first others e tt, tt)
kept_with_first Any key first others rows e is h = (kept_in_front Any key first others e tt, tt)
kept_with_first Last key first others [] e is h = (kept_in_front Last key first others e (none_beside key others is), tt)
kept_with_first Last key first others (row ∷ rows) e is h = kept_behind Last key first others (kept_of Last (row ∷ rows)) (λ front back stands. stands) h
kept_with_first None key first others [] e is h = (kept_in_front None key first others e (tt, none_beside key others is), tt)
kept_with_first None key first others (row ∷ rows) e is h = tt

kept_of_key : (keep : UniqueKeepStrategy) (key : Row) (rows : List (Row × Row)) → AllByRecursion (IsKept keep rows) (behind key (kept_of keep (rows_of key rows)))
kept_of_key keep key [] = tt
kept_of_key keep key (row ∷ rows) =
    elim (same_keys key row.0) as (λ b. same_keys key row.0 ≡ b → AllByRecursion (IsKept keep (row ∷ rows)) (behind key (kept_of keep (map (λ (r : Row × Row). r.1) (cond b (row ∷ of_key key rows) (of_key key rows)))))) [
      | true ↦ λ e. kept_with_first keep key row rows (rows_of key rows) e refl (kept_of_key keep key rows)
      | false ↦ λ e. kept_behind keep key row rows (kept_of keep (rows_of key rows)) (λ front back. stands_behind_other keep key row front back e) (kept_of_key keep key rows)
    ] refl

-- ---- what is kept of all rows

-- the kept rows of these keys, each behind its own
abbrev kept_behind_keys : UniqueKeepStrategy → List Row → List Row → List Row → List (Row × Row)
kept_behind_keys keep keys rows found = flat_map (λ key. behind key (kept_of keep (items_beside key keys rows))) found

each_of_both : {A : Type 0} (P : A → Type 0) (left right : List A) → AllByRecursion P left → AllByRecursion P right → AllByRecursion P (left ++ right)
each_of_both P [] right h k = k
each_of_both P (item ∷ left) right h k = (h.0, each_of_both P left right h.1 k)

each_is_kept : (keep : UniqueKeepStrategy) (keys rows found : List Row) → AllByRecursion (IsKept keep (zip keys rows)) (kept_behind_keys keep keys rows found)
each_is_kept keep keys rows [] = tt
each_is_kept keep keys rows (key ∷ found) =
    each_of_both (IsKept keep (zip keys rows)) (behind key (kept_of keep (items_beside key keys rows))) (kept_behind_keys keep keys rows found) (kept_of_key keep key (zip keys rows)) (each_is_kept keep keys rows found)

rows_behind : (key : Row) (rows : List Row) → map (λ (row : Row × Row). row.1) (behind key rows) ≡ rows
rows_behind key [] = refl
rows_behind key (row ∷ rows) = ap (λ l. row ∷ l) (rows_behind key rows)

rows_kept : (keep : UniqueKeepStrategy) (keys rows found : List Row) → flat_map (λ (group : Group Row). kept_of keep group.items) (map (λ key. record { key = key; items = items_beside key keys rows }) found) ≡ map (λ row. row.1) (kept_behind_keys keep keys rows found)
rows_kept keep keys rows [] = refl
rows_kept keep keys rows (key ∷ found) =
    let own = kept_of keep (items_beside key keys rows) in
    let first = sym (rows_behind key own) in
    let later = rows_kept keep keys rows found in
    (λ i. first i ++ later i) ∙ sym (map-append (λ (row : Row × Row). row.1) (behind key own) (kept_behind_keys keep keys rows found))

-- ---- the keys of kept rows

as_many_beside : (key : Row) (keys rows : List Row) → length keys ≡ length rows → length (items_beside key keys rows) ≡ length (filter (same_keys key) keys)
as_many_beside key [] rows h = refl
as_many_beside key (first ∷ keys) [] h = absurd (omega (arith, h))
as_many_beside key (first ∷ keys) (row ∷ rows) h =
    let others = of_key key (zip keys rows) in
    let others_keys = filter (same_keys key) keys in
    let later = as_many_beside key keys rows (omega (arith, h)) in
    elim (same_keys key first) as (λ b. length (map (λ (r : Row × Row). r.1) (cond b ((first, row) ∷ others) others)) ≡ length (cond b (first ∷ others_keys) others_keys)) [ true ↦ ap suc later | false ↦ later ]

key_of_last : (key row : Row) (rows : List Row) → map (λ (row : Row × Row). row.0) (behind key (kept_of Last (row ∷ rows))) ≡ key ∷ []
key_of_last key row [] = refl
key_of_last key row (next ∷ rows) = key_of_last key next rows

more_than_one : (count : ℕ) → (suc (suc count) == 1) ≡ false
more_than_one count = elim (suc (suc count) == 1) as (λ b. (suc (suc count) == 1) ≡ b → b ≡ false) [ true ↦ λ e. let same = eqb-true (suc (suc count)) 1 e in absurd (omega (arith, same)) | false ↦ λ e. refl ] refl

-- the keys are there where one of their rows is kept
key_kept : (keep : UniqueKeepStrategy) (keys : List Row) (key : Row) (rows : List Row) → ¬ (rows ≡ []) → length rows ≡ length (filter (same_keys key) keys) → map (λ (row : Row × Row). row.0) (behind key (kept_of keep rows)) ≡ cond (is_one_kept keep keys key) (key ∷ []) []
key_kept keep keys key [] some many = absurd (some refl)
key_kept First keys key (row ∷ rows) some many = refl
key_kept Any keys key (row ∷ rows) some many = refl
key_kept Last keys key (row ∷ rows) some many = key_of_last key row rows
key_kept None keys key (row ∷ []) some many = ap (λ n. cond (n == 1) (key ∷ []) []) many
key_kept None keys key (row ∷ next ∷ rows) some many = ap (λ b. cond b (key ∷ []) []) (sym (more_than_one (length rows))) ∙ ap (λ n. cond (n == 1) (key ∷ []) []) many

in_front_where : (test : Bool) (key : Row) (keys : List Row) → cond test (key ∷ []) [] ++ keys ≡ cond test (key ∷ keys) keys
in_front_where true key keys = refl
in_front_where false key keys = refl

keys_kept : (keep : UniqueKeepStrategy) (keys rows found : List Row) → length keys ≡ length rows → AllByRecursion (λ key. ¬ (items_beside key keys rows ≡ [])) found → map (λ row. row.0) (kept_behind_keys keep keys rows found) ≡ filter (is_one_kept keep keys) found
keys_kept keep keys rows [] h some = refl
keys_kept keep keys rows (key ∷ found) h some =
    let own = items_beside key keys rows in
    let first = key_kept keep keys key own some.0 (as_many_beside key keys rows h) in
    let later = keys_kept keep keys rows found h some.1 in
    map-append (λ (row : Row × Row). row.0) (behind key (kept_of keep own)) (kept_behind_keys keep keys rows found) ∙ (λ i. first i ++ later i) ∙ in_front_where (is_one_kept keep keys key) key (filter (is_one_kept keep keys) found)

-- what a test leaves out isn't among what is left, and what it doesn't leave out is, where it was
none_left : (test : Row → Bool) (key : Row) (found : List Row) → test key ≡ false → among (filter test found) key ≡ false
none_left test key [] h = refl
none_left test key (first ∷ found) h =
    let left = filter test found in
    let later = none_left test key found h in
    elim (test first) as (λ b. test first ≡ b → among (cond b (first ∷ left) left) key ≡ false) [
      | true ↦ λ e.
          let apart : same_keys first key ≡ false = elim (same_keys first key) as (λ b. same_keys first key ≡ b → b ≡ false) [ true ↦ λ f. sym e ∙ ap test (keys_exact first key f) ∙ h | false ↦ λ f. refl ] refl in
          ap (λ b. b || among left key) apart ∙ later
      | false ↦ λ e. later
    ] refl

still_there : (test : Row → Bool) (key : Row) (found : List Row) → test key ≡ true → among found key ≡ true → among (filter test found) key ≡ true
still_there test key [] h there = there
still_there test key (first ∷ found) h there =
    let left = filter test found in
    elim (same_keys first key) as (λ b. same_keys first key ≡ b → (b || among found key) ≡ true → among (cond (test first) (first ∷ left) left) key ≡ true) [
      | true ↦ λ e there. let own : test first ≡ true = ap test (keys_exact first key e) ∙ h in subst (λ b. among (cond b (first ∷ left) left) key ≡ true) (sym own) (ap (λ b. b || among left key) e)
      | false ↦ λ e there.
          let later = still_there test key found h there in
          elim (test first) as (λ b. among (cond b (first ∷ left) left) key ≡ true) [ true ↦ or_right (same_keys first key) (among left key) later | false ↦ later ]
    ] refl there

left_where : (test : Row → Bool) (key : Row) (found : List Row) → among found key ≡ true → among (filter test found) key ≡ test key
left_where test key found there = elim (test key) as (λ b. test key ≡ b → among (filter test found) key ≡ b) [ true ↦ λ e. still_there test key found e there | false ↦ λ e. none_left test key found e ] refl

all_left_where : (test : Row → Bool) (found : List Row) (rows : List (Row × Row)) → HaveKeys found rows → AllByRecursion (λ row. among (filter test found) row.0 ≡ test row.0) rows
all_left_where test found [] h = tt
all_left_where test found (row ∷ rows) h = (left_where test row.0 found h.0, all_left_where test found rows h.1)

pub rows_are_kept_once : RowsAreKeptOnce
rows_are_kept_once keep keys rows h =
    let found = firsts same_keys keys in
    let test = is_one_kept keep keys in
    let some = firsts_have (λ key. ¬ (items_beside key keys rows ≡ [])) same_keys keys (all_there keys rows h) in
    let in_order = keys_kept keep keys rows found h some in
    record {
      beside = kept_behind_keys keep keys rows found;
      found_is = rows_kept keep keys rows found;
      each = each_is_kept keep keys rows found;
      apart = subst AreApart (sym in_order) (apart_kept test found (firsts_apart keys));
      all = subst (λ l. AllByRecursion (λ row. among l row.0 ≡ test row.0) (zip keys rows)) (sym in_order) (all_left_where test found (zip keys rows) (keys_found keys rows));
      in_order = in_order;
    }

-- ---- one more row

-- the first rows of groups
abbrev firsts_of : List (Group Row) → List Row
firsts_of found = flat_map (λ (group : Group Row). kept_of First group.items) found

first_stays : (rows : List Row) (row : Row) → ¬ (rows ≡ []) → kept_of First (rows ++ row ∷ []) ≡ kept_of First rows
first_stays [] row some = absurd (some refl)
first_stays (first ∷ rows) row some = refl

first_of_more : (key row : Row) (found : List (Group Row)) → AllByRecursion (λ (group : Group Row). ¬ (group.items ≡ [])) found → firsts_of (with_item key row found) ≡ firsts_of found ++ cond (among (map (λ (group : Group Row). group.key) found) key) [] (row ∷ [])
first_of_more key row [] some = refl
first_of_more key row (group ∷ found) some =
    let own = kept_of First group.items in
    let new = cond (among (map (λ (group : Group Row). group.key) found) key) [] (row ∷ []) in
    elim (same_keys group.key key) as (λ b. firsts_of (cond b (record { key = group.key; items = group.items ++ row ∷ [] } ∷ found) (group ∷ with_item key row found)) ≡ (own ++ firsts_of found) ++ cond (b || among (map (λ (group : Group Row). group.key) found) key) [] (row ∷ [])) [
      | true ↦ ap (λ l. l ++ firsts_of found) (first_stays group.items row some.0) ∙ sym (append-nil (own ++ firsts_of found))
      | false ↦ ap (λ l. own ++ l) (first_of_more key row found some.1) ∙ sym (append_assoc own (firsts_of found) new)
    ]

-- keys are among the first ones where they are among all
among_others : (left key : Row) (keys : List Row) → same_keys left key ≡ false → among (filter (λ other. not (same_keys left other)) keys) key ≡ among keys key
among_others left key [] e = refl
among_others left key (first ∷ keys) e =
    let others = filter (λ other. not (same_keys left other)) keys in
    let later = among_others left key keys e in
    elim (same_keys left first) as (λ b. same_keys left first ≡ b → among (cond (not b) (first ∷ others) others) key ≡ (same_keys first key || among keys key)) [
      | true ↦ λ f. let apart : same_keys first key ≡ false = ap (λ k. same_keys k key) (sym (keys_exact left first f)) ∙ e in later ∙ sym (ap (λ b. b || among keys key) apart)
      | false ↦ λ f. ap (λ b. same_keys first key || b) later
    ] refl

among_firsts : (keys : List Row) (key : Row) → among (firsts same_keys keys) key ≡ among keys key
among_firsts [] key = refl
among_firsts (first ∷ keys) key =
    let others = filter (λ other. not (same_keys first other)) (firsts same_keys keys) in
    elim (same_keys first key) as (λ b. same_keys first key ≡ b → (b || among others key) ≡ (b || among keys key)) [ true ↦ λ e. refl | false ↦ λ e. among_others first key (firsts same_keys keys) e ∙ among_firsts keys key ] refl

pub first_rows_stand_in_order : FirstRowsStandInOrder
first_rows_stand_in_order keys rows key row h =
    let found = groups keys rows in
    let there = ap (λ l. among l key) (keys_of_groups keys rows (firsts same_keys keys)) ∙ among_firsts keys key in
    ap firsts_of (items_go_to_the_end keys rows key row h) ∙ first_of_more key row found (each_is_in_one_group keys rows h).filled ∙ ap (λ b. firsts_of found ++ cond b [] (row ∷ [])) there

-- ---- any row, and one row

any_of_group : (rows : List Row) → kept_of Any rows ≡ kept_of First rows
any_of_group [] = refl
any_of_group (row ∷ rows) = refl

any_of_groups : (found : List (Group Row)) → flat_map (λ (group : Group Row). kept_of Any group.items) found ≡ flat_map (λ (group : Group Row). kept_of First group.items) found
any_of_groups [] = refl
any_of_groups (group ∷ found) =
    let first = any_of_group group.items in
    let later = any_of_groups found in
    λ i. first i ++ later i

pub any_row_is_the_first : AnyRowIsTheFirst
any_row_is_the_first keys rows = any_of_groups (groups keys rows)

at_most_one : (keep : UniqueKeepStrategy) (rows : List Row) → length (kept_of keep rows) ≤ 1
at_most_one keep [] = omega arith
at_most_one First (row ∷ rows) = omega arith
at_most_one Any (row ∷ rows) = omega arith
at_most_one Last (row ∷ []) = omega arith
at_most_one Last (row ∷ next ∷ rows) = at_most_one Last (next ∷ rows)
at_most_one None (row ∷ []) = omega arith
at_most_one None (row ∷ next ∷ rows) = omega arith

no_others : (key first : Row) (keys : List Row) → same_keys key first ≡ true → AllByRecursion (λ other. same_keys key other ≡ true) keys → filter (λ other. not (same_keys first other)) keys ≡ []
no_others key first [] e h = refl
no_others key first (other ∷ keys) e h =
    let left = filter (λ other. not (same_keys first other)) keys in
    let same : same_keys first other ≡ true = ap (λ k. same_keys k other) (sym (keys_exact key first e)) ∙ h.0 in
    ap (λ b. cond (not b) (other ∷ left) left) same ∙ no_others key first keys e h.1

pub one_row_of_one_key : OneRowIsKeptOfOneKey
one_row_of_one_key keep key [] rows h = omega arith
one_row_of_one_key keep key (first ∷ keys) rows h =
    let own = kept_of keep (items_beside first (first ∷ keys) rows) in
    let none = no_others key first (firsts same_keys keys) h.0 (firsts_have (λ other. same_keys key other ≡ true) same_keys keys h.1) in
    let one = subst (λ l. length l ≤ 1) (sym (append-nil own)) (at_most_one keep (items_beside first (first ∷ keys) rows)) in
    subst (λ l. length (flat_map (λ (group : Group Row). kept_of keep group.items) (map (λ key. record { key = key; items = items_beside key (first ∷ keys) rows }) (first ∷ l))) ≤ 1) (sym none) one
