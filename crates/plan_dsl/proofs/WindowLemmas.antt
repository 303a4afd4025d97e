-- Windows: over a function that means its type they give values of it.
use Rattle.std.proofs.Common.{◌≡◌, ◌++◌, ◌==◌, ◌||◌, ℕ, true, false, cond, List, [], ◌∷◌, length, map, Option, Some, None, replicate, refl, sym, ap, ◌∙◌}
use Rattle.std.specs.Prelude.{zip}
use Rattle.std.specs.List.{AllByRecursion, range_with_len}
use Rattle.std.proofs.lemmas.List.FromFn.{length-map-range_with_len}
use Rattle.std.proofs.lemmas.Bool.{and_parts, and_from}
use Rattle.plan_types.specs.Types.{Ty}
use Rattle.plan_types.specs.Values.{Val, NullValue, fits, all_fit}
use Rattle.plan_types.specs.Frames.{Frame, Row}
use Rattle.plan_types.specs.Outcomes.{Outcome, Done, Fault, Meets, then_do}
use Rattle.plan_types.proofs.ValueLemmas.{meets_then}
use Rattle.plan_dsl.specs.declared.sort_options.SortOptions.{SortOptions}
use Rattle.plan_dsl.specs.Groups.{Group, groups}
use Rattle.plan_dsl.specs.Registry.{Registry}
use Rattle.plan_dsl.specs.Ops.{WindowOp}
use Rattle.plan_dsl.specs.Kernels.{Meaning, for_rows, given, key_rows, stretched}
use Rattle.plan_dsl.specs.Laws.{AreOf}
use Rattle.plan_dsl.specs.Meaning.{applied}
use Rattle.plan_dsl.specs.Signatures.{signature}
use Rattle.plan_dsl.specs.Typing.{Typed, Ruling, own_over}
use Rattle.plan_dsl.specs.WindowLaws.{WindowsHaveAValueForEachRow}
use Rattle.plan_dsl.specs.Windows.{Spot, on_group, on_groups, over_keys, put_in_order, spots_from, value_at, window_values}
use Rattle.plan_dsl.proofs.ColumnLemmas.{AreAllOf, stretched_fits}
use Rattle.plan_dsl.proofs.GivenLemmas.{AllMean, MeansType, given_meet}
use Rattle.plan_dsl.proofs.OrderLemmas.{done_parts}
use Rattle.plan_dsl.proofs.SignatureLemmas.{OnSigned}
use Rattle.plan_dsl.proofs.SortLemmas.{column_for_rows, key_rows_many}

-- ---- values with places

-- the values fit the type
abbrev PlacedFit : Ty → List (ℕ × Val) → Type 0
PlacedFit type placed = AllByRecursion (λ (pair : ℕ × Val). fits pair.1 type ≡ true) placed

value_at_fits : (type : Ty) (placed : List (ℕ × Val)) → PlacedFit type placed → (place : ℕ) → fits (value_at placed place) type ≡ true
value_at_fits type [] h place = refl
value_at_fits type (first ∷ rest) h place =
    elim (first.0 == place) as (λ b. fits (cond b first.1 (value_at rest place)) type ≡ true) [ true ↦ h.0 | false ↦ value_at_fits type rest h.1 place ]

values_at_fit : (type : Ty) (placed : List (ℕ × Val)) → PlacedFit type placed → (places : List ℕ) → all_fit (map (value_at placed) places) type ≡ true
values_at_fit type placed h [] = refl
values_at_fit type placed h (place ∷ places) =
    and_from (fits (value_at placed place) type) (all_fit (map (value_at placed) places) type) (value_at_fits type placed h place) (values_at_fit type placed h places)

joined_fit : (type : Ty) (first others : List (ℕ × Val)) → PlacedFit type first → PlacedFit type others → PlacedFit type (first ++ others)
joined_fit type [] others h k = k
joined_fit type (pair ∷ first) others h k = (h.0, joined_fit type first others h.1 k)

zip_fit : (type : Ty) (places : List ℕ) (values : List Val) → all_fit values type ≡ true → PlacedFit type (zip places values)
zip_fit type [] values h = tt
zip_fit type (place ∷ places) [] h = tt
zip_fit type (place ∷ places) (value ∷ values) h =
    let parts = and_parts (fits value type) (all_fit values type) h in
    (parts.0, zip_fit type places values parts.1)

for_rows_fit : (type : Ty) (count : ℕ) (values : List Val) → all_fit values type ≡ true → Meets (λ column. all_fit column type ≡ true) (for_rows count values)
for_rows_fit type count values h =
    elim (length values == count || length values == 1) as (λ b. Meets (λ column. all_fit column type ≡ true) (cond b (Done (stretched count values)) Fault)) [ true ↦ stretched_fits count values type h | false ↦ tt ]

-- ---- groups

module _ (typed : Typed) (function : Meaning) (mean : MeansType typed function) where
  on_group_fits : (spots : List Spot) → Meets (PlacedFit typed.type) (on_group function spots)
  on_group_fits spots =
      let numbers = map (λ (spot : Spot). spot.number) spots in
      let places = map (λ (spot : Spot). spot.place) spots in
      let fit : List Val → Type 0 = λ column. all_fit column typed.type ≡ true in
      meets_then (AreOf typed) (PlacedFit typed.type) (function numbers) (λ values. then_do (for_rows (length spots) values) (λ column. Done (zip places column))) (mean numbers) (λ values of.
      meets_then fit (PlacedFit typed.type) (for_rows (length spots) values) (λ column. Done (zip places column)) (for_rows_fit typed.type (length spots) values of.fitting) (λ column h. zip_fit typed.type places column h))

  on_groups_fit : (order : Option SortOptions) (all : List (Group Spot)) → Meets (PlacedFit typed.type) (on_groups order function all)
  on_groups_fit order [] = tt
  on_groups_fit order (group ∷ rest) =
      meets_then (PlacedFit typed.type) (PlacedFit typed.type) (on_group function (put_in_order order group.items)) (λ first. then_do (on_groups order function rest) (λ others. Done (first ++ others))) (on_group_fits (put_in_order order group.items)) (λ first h.
      meets_then (PlacedFit typed.type) (PlacedFit typed.type) (on_groups order function rest) (λ others. Done (first ++ others)) (on_groups_fit order rest) (λ others k. joined_fit typed.type first others h k))

  abbrev own : Typed
  own = record { type = typed.type; many = true }

  over_keys_fit : (order : Option SortOptions) (rows : List ℕ) (by : List Val) (keys : List (List Val)) → Meets (AreOf own) (over_keys order function rows by keys)
  over_keys_fit order rows by keys =
      let places = range_with_len 0 (length rows) in
      let spots = spots_from 0 rows by in
      meets_then (λ each. length each ≡ length rows) (AreOf own) (key_rows (length rows) keys) (λ each. then_do (on_groups order function (groups each spots)) (λ placed. Done (map (value_at placed) places))) (key_rows_many (length rows) keys) (λ each many.
      meets_then (PlacedFit typed.type) (AreOf own) (on_groups order function (groups each spots)) (λ placed. Done (map (value_at placed) places)) (on_groups_fit order (groups each spots)) (λ placed h.
      record { fitting = values_at_fit typed.type placed h places; single = λ one. cc }))

  unordered_fits : (others : List Typed) (operands : List Meaning) → AllMean others operands → MeansType own (λ rows. then_do (given operands rows) (window_values None function rows))
  unordered_fits others operands all rows =
      meets_then (AreAllOf others) (AreOf own) (given operands rows) (window_values None function rows) (given_meet others operands all rows) (λ columns of. over_keys_fit None rows _ columns)

  in_order_fits : (options : SortOptions) (key : Typed) (others : List Typed) (rows : List ℕ) (columns : List (List Val)) → AreAllOf (key ∷ others) columns → Meets (AreOf own) (window_values (Some options) function rows columns)
  in_order_fits options key others rows [] of = absurd of
  in_order_fits options key others rows (column ∷ keys) of =
      meets_then (λ by. length by ≡ length rows) (AreOf own) (for_rows (length rows) column) (λ by. over_keys (Some options) function rows by keys) (column_for_rows (length rows) column) (λ by many. over_keys_fit (Some options) rows by keys)

  ordered_fits : (options : SortOptions) (key : Typed) (others : List Typed) (operands : List Meaning) → AllMean (key ∷ others) operands → MeansType own (λ rows. then_do (given operands rows) (window_values (Some options) function rows))
  ordered_fits options key others operands all rows =
      meets_then (AreAllOf (key ∷ others)) (AreOf own) (given operands rows) (window_values (Some options) function rows) (given_meet (key ∷ others) operands all rows) (in_order_fits options key others rows)

-- ---- how many there are

groups_many : (order : Option SortOptions) (function : Meaning) (rows : List ℕ) (by : List Val) (each : List Row) (found : List Val) → then_do (on_groups order function (groups each (spots_from 0 rows by))) (λ placed. Done (map (value_at placed) (range_with_len 0 (length rows)))) ≡ Done found → length found ≡ length rows
groups_many order function rows by each found h =
    let p = done_parts (on_groups order function (groups each (spots_from 0 rows by))) (λ placed. Done (map (value_at placed) (range_with_len 0 (length rows)))) found h in
    let e : map (value_at p.0) (range_with_len 0 (length rows)) ≡ found = cc in
    sym (ap length e) ∙ length-map-range_with_len (value_at p.0) 0 (length rows)

keys_many : (order : Option SortOptions) (function : Meaning) (rows : List ℕ) (by : List Val) (keys : List (List Val)) (found : List Val) → over_keys order function rows by keys ≡ Done found → length found ≡ length rows
keys_many order function rows by keys found h =
    let next : List Row → Outcome (List Val) = λ each. then_do (on_groups order function (groups each (spots_from 0 rows by))) (λ placed. Done (map (value_at placed) (range_with_len 0 (length rows)))) in
    let p = done_parts (key_rows (length rows) keys) next found h in
    groups_many order function rows by p.0 found p.2

pub value_for_each_row : WindowsHaveAValueForEachRow
value_for_each_row None function rows columns found h = keys_many None function rows (replicate (length rows) NullValue) columns found h
value_for_each_row (Some options) function rows (column ∷ keys) found h =
    let p = done_parts (for_rows (length rows) column) (λ by. over_keys (Some options) function rows by keys) found h in
    keys_many (Some options) function rows p.0 keys found p.2
value_for_each_row (Some options) function rows [] found h = cc

-- ---- the node

-- a window over operands of the types to which it takes them
abbrev pub WindowGives : Option SortOptions → Registry → Frame → Ruling → List Typed → List Meaning → Type 0
WindowGives order registry frame ruling typed operands = OnSigned (signature (WindowOp order) (length typed)) (λ signature. AllMean typed operands → MeansType (own_over signature typed) (applied registry frame (WindowOp order) ruling operands))

pub window_gives : (order : Option SortOptions) (registry : Registry) (frame : Frame) (ruling : Ruling) (typed : List Typed) (operands : List Meaning) → WindowGives order registry frame ruling typed operands
window_gives None registry frame ruling (input ∷ key ∷ keys) (m ∷ ms) = λ all. unordered_fits input m all.0 (key ∷ keys) ms all.1
window_gives None registry frame ruling (input ∷ key ∷ keys) [] = λ all. absurd all
window_gives None registry frame ruling (input ∷ []) operands = tt
window_gives None registry frame ruling [] operands = tt
window_gives (Some options) registry frame ruling (input ∷ order ∷ key ∷ keys) (m ∷ ms) = λ all. ordered_fits input m all.0 options order (key ∷ keys) ms all.1
window_gives (Some options) registry frame ruling (input ∷ order ∷ key ∷ keys) [] = λ all. absurd all
window_gives (Some options) registry frame ruling (input ∷ order ∷ []) operands = tt
window_gives (Some options) registry frame ruling (input ∷ []) operands = tt
window_gives (Some options) registry frame ruling [] operands = tt
