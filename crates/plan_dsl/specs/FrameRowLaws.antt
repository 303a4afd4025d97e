-- Laws of rows that are sorted, sliced, and kept once.
use Rattle.std.specs.Prelude.{◌≡◌, ◌<◌, ◌≤◌, ◌+◌, ◌-◌, ◌==◌, ℕ, suc, min, ℤ, pos, negsuc, neg_ℤ, ◌+ℤ◌, Bool, true, false, List, [], ◌∷◌, ◌++◌, length, map, slice_get, zip, IsPermutation, IsTrue, if◌then◌else◌}
use Rattle.std.specs.List.{AllByRecursion, filter, list_all, list_any}
use Rattle.plan_types.specs.Types.{Ty}
use Rattle.plan_types.specs.Frames.{Row}
use Rattle.plan_dsl.specs.declared.distinct_options.UniqueKeepStrategy.{UniqueKeepStrategy}
use Rattle.plan_dsl.specs.declared.distinct_options.UniqueKeepStrategy.TheVariants.{First, Last, None, Any}
use Rattle.plan_dsl.specs.declared.sort_options.SortOptions.{SortOptions}
use Rattle.plan_dsl.specs.FrameRows.{rows_between, rows_by_keys, rows_once}
use Rattle.plan_dsl.specs.GroupLaws.{AreApart}
use Rattle.plan_dsl.specs.Groups.{firsts, same_keys}
use Rattle.plan_dsl.specs.Slices.{in_front_of, slice_start}
use Rattle.plan_dsl.specs.SortLaws.{IsSortOf, keys_fit}
use Rattle.plan_dsl.specs.Sorting.{keys_before}

-- ---- slices

-- what a slice has of rows, from a place on: a part of them, of at most so many. Where it begins and ends is what the places
-- say, brought to where there are rows
pub record IsSliceOf (start : ℤ) (count : ℕ) (rows found : List Row) : Type 0 where
  pub front : List Row
  pub back : List Row
  pub whole : rows ≡ front ++ (found ++ back)
  pub begins : length front ≡ min (in_front_of start) (length rows)
  pub ends : length (front ++ found) ≡ min (in_front_of (start +ℤ pos count)) (length rows)
  pub at_most : length found ≤ count
  pub each : (place : ℕ) → place < length found → slice_get found place ≡ slice_get rows (in_front_of start + place)

abbrev pub SlicesArePartsOfRows : Type 0
SlicesArePartsOfRows = (offset : ℤ) (count : ℕ) (rows : List Row) → IsSliceOf (slice_start offset (length rows)) count rows (rows_between offset count rows)

-- so many rows as there are, or more, from the first on
abbrev pub LongSlicesAreAllRows : Type 0
LongSlicesAreAllRows = (count : ℕ) (rows : List Row) → length rows ≤ count → rows_between (pos 0) count rows ≡ rows

-- an offset below 0 is the place so far from the end
abbrev pub OffsetsCountFromTheEnd : Type 0
OffsetsCountFromTheEnd = (before count : ℕ) (rows : List Row) → before < length rows → rows_between (negsuc before) count rows ≡ rows_between (pos (length rows - suc before)) count rows

-- as far from the end as there are rows is the front
abbrev pub AllRowsFromTheEndAreTheFront : Type 0
AllRowsFromTheEndAreTheFront = (count : ℕ) (rows : List Row) → rows_between (neg_ℤ (pos (length rows))) count rows ≡ rows_between (pos 0) count rows

-- ---- sorts

-- a sort has the rows, whatever the keys
abbrev pub SortsHaveTheRows : Type 0
SortsHaveTheRows = (options : List SortOptions) (keys rows : List Row) → length keys ≡ length rows → IsPermutation rows (rows_by_keys options keys rows)

-- what a sort makes of rows: with its keys beside each, they are in the order of the keys, and ties as they stood
pub record IsRowSort (options : List SortOptions) (types : List Ty) (keys rows found : List Row) : Type 0 where
  pub beside : List (Row × Row)
  pub sorted : IsSortOf (λ row. keys_fit types row.1) (λ left right. keys_before options left.1 right.1) (zip rows keys) beside
  pub found_is : found ≡ map (λ row. row.0) beside

-- so it is of keys that fit some types
abbrev pub SortsPutRowsInOrder : Type 0
SortsPutRowsInOrder = (options : List SortOptions) (types : List Ty) (keys rows : List Row) → IsTrue (list_all (keys_fit types) keys) → IsRowSort options types keys rows (rows_by_keys options keys rows)

-- ---- rows that are kept once

-- none of these rows stands beside the keys
abbrev pub NoneBeside : Row → List (Row × Row) → Type 0
NoneBeside key rows = AllByRecursion (λ row. same_keys key row.0 ≡ false) rows

-- how a kept row stands among the rows beside the same keys: as the first, the last, or the only one
abbrev pub StandsBetween : UniqueKeepStrategy → Row → List (Row × Row) → List (Row × Row) → Type 0
StandsBetween First key front back = NoneBeside key front
StandsBetween Any key front back = NoneBeside key front
StandsBetween Last key front back = NoneBeside key back
StandsBetween None key front back = NoneBeside key front × NoneBeside key back

-- a row that is kept of others, each behind its keys: one of them, with the rows in front of it and behind it
pub record IsKept (keep : UniqueKeepStrategy) (rows : List (Row × Row)) (kept : Row × Row) : Type 0 where
  pub front : List (Row × Row)
  pub back : List (Row × Row)
  pub whole : rows ≡ front ++ kept ∷ back
  pub stands : StandsBetween keep kept.0 front back

-- whether a row is kept of those beside the keys: one always is, or where they are the keys of a single row
abbrev pub is_one_kept : UniqueKeepStrategy → List Row → Row → Bool
is_one_kept None keys key = length (filter (same_keys key) keys) == 1
is_one_kept keep keys key = true

-- What is kept of rows: each kept row is one of these and stands beside its keys, no two of which are the same. The keys of
-- each row are among them where a row of these keys is kept, and they stand as keys first occur.
pub record AreKept (keep : UniqueKeepStrategy) (keys rows found : List Row) : Type 0 where
  pub beside : List (Row × Row)
  pub found_is : found ≡ map (λ row. row.1) beside
  pub each : AllByRecursion (IsKept keep (zip keys rows)) beside
  pub apart : AreApart (map (λ row. row.0) beside)
  pub all : AllByRecursion (λ row. list_any (λ other. same_keys other row.0) (map (λ kept. kept.0) beside) ≡ is_one_kept keep keys row.0) (zip keys rows)
  pub in_order : map (λ row. row.0) beside ≡ filter (is_one_kept keep keys) (firsts same_keys keys)

abbrev pub RowsAreKeptOnce : Type 0
RowsAreKeptOnce = (keep : UniqueKeepStrategy) (keys rows : List Row) → length keys ≡ length rows → AreKept keep keys rows (rows_once keep keys rows)

-- where the first rows are kept, one more row behind the others is kept behind those that are, where no other stands beside
-- its keys
abbrev pub FirstRowsStandInOrder : Type 0
FirstRowsStandInOrder = (keys rows : List Row) (key row : Row) → length keys ≡ length rows →
    rows_once First (keys ++ key ∷ []) (rows ++ row ∷ []) ≡ rows_once First keys rows ++ (if list_any (λ other. same_keys other key) keys then [] else row ∷ [])

-- any row of some is the first
abbrev pub AnyRowIsTheFirst : Type 0
AnyRowIsTheFirst = (keys rows : List Row) → rows_once Any keys rows ≡ rows_once First keys rows

-- of rows beside keys that are all the same at most one is kept
abbrev pub OneRowIsKeptOfOneKey : Type 0
OneRowIsKeptOfOneKey = (keep : UniqueKeepStrategy) (key : Row) (keys rows : List Row) → AllByRecursion (λ other. same_keys key other ≡ true) keys → length (rows_once keep keys rows) ≤ 1
