-- Windows: each row has what the function gives on its group, and a window of a column is that column.
use Rattle.std.proofs.Common.{◌≡◌, ◌++◌, ◌==◌, ◌||◌, ◌+◌, ◌<◌, ℕ, zero, suc, true, false, cond, List, [], ◌∷◌, length, map, slice_get, Option, Some, None, replicate, append_assoc, add-one, length-append, refl, sym, ap, ◌∙◌, subst, arith}
use Rattle.std.specs.Prelude.{flat_map, zip, IsPermutation}
use Rattle.std.specs.List.{AllByRecursion, IsDistinct, range_with_len}
use Rattle.std.proofs.lemmas.Bool.{and_parts, eqb-true, eq-eqb}
use Rattle.std.proofs.lemmas.List.{length-map, length-replicate, map-append}
use Rattle.std.proofs.lemmas.List.FromFn.{get_or-map-range_with_len, length-map-range_with_len}
use Rattle.std.proofs.lemmas.List.Sorted.{IsPermutation-append, IsPermutation-map, IsPermutation-refl, IsPermutation-sym, IsPermutation-trans}
use Rattle.std.proofs.lemmas.Map.Keys.{IsDistinct-cons, IsDistinct-head, IsDistinct-tail, IsDistinct-IsPermutation}
use Rattle.std.proofs.lemmas.Option.{slice_get-get_or}
use Rattle.std.proofs.lemmas.Slice.Zip.{firsts-zip, seconds-zip}
use Rattle.plan_types.specs.Values.{Val, NullValue, fits}
use Rattle.plan_types.specs.Frames.{Row}
use Rattle.plan_types.specs.Outcomes.{Outcome, Done, Fault, Meets, then_do}
use Rattle.plan_types.proofs.ListLemmas.{map-map, slice_get-seam}
use Rattle.plan_dsl.specs.declared.sort_options.SortOptions.{SortOptions}
use Rattle.plan_dsl.specs.GroupLaws.{rows_in}
use Rattle.plan_dsl.specs.Groups.{Group, groups}
use Rattle.plan_dsl.specs.Kernels.{Meaning, for_rows, in_front, key_rows, stretched}
use Rattle.plan_dsl.specs.Sorting.{comes_before}
use Rattle.plan_dsl.specs.WindowLaws.{AreOfGroups, GroupsArePutInOrder, HaveWhatIsGiven, RowsHaveWhatTheirGroupIsGiven, WindowsOfColumnsAreTheColumns, are_for_rows, of_each}
use Rattle.plan_dsl.specs.Windows.{Spot, on_group, on_groups, over_keys, put_in_order, spots_from, value_at, window_values}
use Rattle.plan_dsl.proofs.GroupLemmas.{each_is_in_one_group}
use Rattle.plan_dsl.proofs.OrderLemmas.{done_parts, is_sorted, values_in_order}
use Rattle.plan_dsl.proofs.SortLemmas.{column_for_rows, key_rows_many, permuted_each, sorted_same}

-- ---- values with places that differ

same_flips : (x y : ℕ) → (x == y) ≡ (y == x)
same_flips x y =
    elim (x == y) as (λ b. (x == y) ≡ b → b ≡ (y == x)) [
      | true ↦ λ e. sym (eq-eqb y x (sym (eqb-true x y e)))
      | false ↦ λ e. elim (y == x) as (λ c. (y == x) ≡ c → false ≡ c) [ true ↦ λ f. let same = eq-eqb x y (sym (eqb-true y x f)) in cc | false ↦ λ f. refl ] refl
    ] refl

abbrev Places : List (ℕ × Val) → List ℕ
Places placed = map (λ (pair : ℕ × Val). pair.0) placed

-- each place has its value
abbrev HaveOwn : (ℕ → Option Val) → List (ℕ × Val) → Type 0
HaveOwn look placed = AllByRecursion (λ (pair : ℕ × Val). look pair.0 ≡ Some pair.1) placed

behind_first : (first : ℕ × Val) (rest more : List (ℕ × Val)) → AllByRecursion (λ place. (first.0 == place) ≡ false) (Places more) → AllByRecursion (λ (pair : ℕ × Val). value_at rest pair.0 ≡ pair.1) more → AllByRecursion (λ (pair : ℕ × Val). value_at (first ∷ rest) pair.0 ≡ pair.1) more
behind_first first rest [] h k = tt
behind_first first rest (pair ∷ more) h k = (ap (λ b. cond b first.1 (value_at rest pair.0)) h.0 ∙ k.0, behind_first first rest more h.1 k.1)

own_values : (placed : List (ℕ × Val)) → IsDistinct ◌==◌ (Places placed) → AllByRecursion (λ (pair : ℕ × Val). value_at placed pair.0 ≡ pair.1) placed
own_values [] h = tt
own_values (first ∷ rest) h =
    (ap (λ b. cond b first.1 (value_at rest first.0)) (eq-eqb first.0 first.0 refl), behind_first first rest rest (IsDistinct-head ◌==◌ first.0 (Places rest) h) (own_values rest (IsDistinct-tail ◌==◌ first.0 (Places rest) h)))

own_found : (look : ℕ → Option Val) (at : ℕ → Val) (placed : List (ℕ × Val)) → AllByRecursion (λ place. look place ≡ Some (at place)) (Places placed) → AllByRecursion (λ (pair : ℕ × Val). at pair.0 ≡ pair.1) placed → HaveOwn look placed
own_found look at [] h k = tt
own_found look at (pair ∷ placed) h k = (h.0 ∙ ap Some k.0, own_found look at placed h.1 k.1)

own_parts : (look : ℕ → Option Val) (first others : List (ℕ × Val)) → HaveOwn look (first ++ others) → HaveOwn look first × HaveOwn look others
own_parts look [] others h = (tt, h)
own_parts look (pair ∷ first) others h = let parts = own_parts look first others h.1 in ((h.0, parts.0), parts.1)

-- ---- places from one on

later_differ : (place start count : ℕ) → place < start → AllByRecursion (λ other. (place == other) ≡ false) (range_with_len start count)
later_differ place start zero h = tt
later_differ place start (suc count) h = (
  elim (place == start) as (λ b. (place == start) ≡ b → b ≡ false) [ true ↦ λ e. let same = eqb-true place start e in absurd (omega (arith, h, same)) | false ↦ λ e. refl ] refl,
  later_differ place (start + 1) count (omega (arith, h)),
)

places_differ : (start count : ℕ) → IsDistinct ◌==◌ (range_with_len start count)
unfolding IsDistinct
places_differ start zero = tt
places_differ start (suc count) = IsDistinct-cons ◌==◌ start (range_with_len (start + 1) count) (later_differ start (start + 1) count (omega arith)) (places_differ (start + 1) count)

-- a list that is made of its places has at each what is made of it
made_at : (at : ℕ → Val) (count start more : ℕ) → start + more ≡ count → AllByRecursion (λ place. slice_get (map at (range_with_len 0 count)) place ≡ Some (at place)) (range_with_len start more)
made_at at count start zero h = tt
made_at at count start (suc more) h =
    let made = map at (range_with_len 0 count) in
    let within : start < length made = subst (λ n. start < n) (sym (length-map-range_with_len at 0 count)) (omega (arith, h)) in
    (slice_get-get_or made start NullValue within ∙ ap Some (get_or-map-range_with_len at 0 count start start NullValue (omega (arith, h)) (omega arith)), made_at at count (start + 1) more (omega (arith, h)))

places_of_spots : (start : ℕ) (rows : List ℕ) (by : List Val) → length by ≡ length rows → map (λ (spot : Spot). spot.place) (spots_from start rows by) ≡ range_with_len start (length rows)
places_of_spots start [] by h = refl
places_of_spots start (number ∷ rows) [] h = absurd (omega (arith, h))
places_of_spots start (number ∷ rows) (value ∷ by) h = ap (λ l. start ∷ l) (places_of_spots (suc start) rows by (omega (arith, h)) ∙ ap (λ n. range_with_len n (length rows)) (sym (add-one start)))

spots_many : (start : ℕ) (rows : List ℕ) (by : List Val) → length by ≡ length rows → length (spots_from start rows by) ≡ length rows
spots_many start [] by h = refl
spots_many start (number ∷ rows) [] h = absurd (omega (arith, h))
spots_many start (number ∷ rows) (value ∷ by) h = ap suc (spots_many (suc start) rows by (omega (arith, h)))

-- ---- groups in order have the same rows

in_order_same : (order : Option SortOptions) (spots : List Spot) → IsPermutation spots (put_in_order order spots)
in_order_same None spots = IsPermutation-refl spots
in_order_same (Some options) spots = sorted_same (λ (left right : Spot). comes_before options left.by right.by) spots

module _ {B : Type 0} (order : Option SortOptions) (made : Spot → B) where
  -- what is made of the rows of groups, each in order
  abbrev made_in : List (Group Spot) → List B
  made_in found = flat_map (λ (group : Group Spot). map made (put_in_order order group.items)) found

  made_same : (found : List (Group Spot)) → IsPermutation (map (λ (row : Row × Spot). made row.1) (rows_in found)) (made_in found)
  made_same [] = IsPermutation-refl []
  made_same (group ∷ found) =
      let beside : List (Row × Spot) = map (λ item. (group.key, item)) group.items in
      let parts : map (λ (row : Row × Spot). made row.1) (beside ++ rows_in found) ≡ map made group.items ++ map (λ (row : Row × Spot). made row.1) (rows_in found) =
      map-append (λ (row : Row × Spot). made row.1) beside (rows_in found) ∙ ap (λ l. l ++ map (λ (row : Row × Spot). made row.1) (rows_in found)) (map-map (λ (row : Row × Spot). made row.1) (λ (item : Spot). (group.key, item)) group.items) in
      subst (λ l. IsPermutation l (map made (put_in_order order group.items) ++ made_in found)) (sym parts)
      (IsPermutation-append (map made group.items) (map made (put_in_order order group.items)) (map (λ (row : Row × Spot). made row.1) (rows_in found)) (made_in found) (IsPermutation-map made group.items (put_in_order order group.items) (in_order_same order group.items)) (made_same found))

  -- is made of the same rows
  made_of_all : (keys : List Row) (spots : List Spot) → length keys ≡ length spots → IsPermutation (map made spots) (made_in (groups keys spots))
  made_of_all keys spots h =
      let seen = λ (row : Row × Spot). made row.1 in
      let all : map seen (zip keys spots) ≡ map made spots = sym (map-map made (λ (row : Row × Spot). row.1) (zip keys spots)) ∙ ap (map made) (seconds-zip keys spots (sym h)) in
      subst (λ l. IsPermutation l (made_in (groups keys spots))) all
      (IsPermutation-trans (map seen (zip keys spots)) (map seen (rows_in (groups keys spots))) (made_in (groups keys spots)) (IsPermutation-map seen (zip keys spots) (rows_in (groups keys spots)) (each_is_in_one_group keys spots h).same) (made_same (groups keys spots)))

-- ---- what is placed

abbrev numbers_of : List Spot → List ℕ
numbers_of spots = map (λ (spot : Spot). spot.number) spots

abbrev places_in : List Spot → List ℕ
places_in spots = map (λ (spot : Spot). spot.place) spots

-- what the function gives on a group
record IsPlaced (function : Meaning) (spots : List Spot) (placed : List (ℕ × Val)) : Type 0 where
  values : List Val
  given : then_do (function (numbers_of spots)) (for_rows (length spots)) ≡ Done values
  many : length values ≡ length (places_in spots)
  placed_is : placed ≡ zip (places_in spots) values

group_placed : (function : Meaning) (spots : List Spot) (placed : List (ℕ × Val)) → on_group function spots ≡ Done placed → IsPlaced function spots placed
group_placed function spots placed h =
    let next : List Val → Outcome (List (ℕ × Val)) = λ values. then_do (for_rows (length spots) values) (λ column. Done (zip (places_in spots) column)) in
    let p = done_parts (function (numbers_of spots)) next placed h in
    let q = done_parts (for_rows (length spots) p.0) (λ column. Done (zip (places_in spots) column)) placed p.2 in
    let as_many : length q.0 ≡ length spots = subst (Meets (λ column. length column ≡ length spots)) q.1 (column_for_rows (length spots) p.0) in
    record {
      values = q.0;
      given = ap (λ o. then_do o (for_rows (length spots))) p.1 ∙ q.1;
      many = as_many ∙ sym (length-map spots (λ (spot : Spot). spot.place));
      placed_is = cc;
    }

groups_places : (order : Option SortOptions) (function : Meaning) (all : List (Group Spot)) (placed : List (ℕ × Val)) → on_groups order function all ≡ Done placed → Places placed ≡ made_in order (λ spot. spot.place) all
groups_places order function [] placed h = let none : [] ≡ placed = cc in sym (ap Places none)
groups_places order function (group ∷ rest) placed h =
    let spots = put_in_order order group.items in
    let p = done_parts (on_group function spots) (λ first. then_do (on_groups order function rest) (λ others. Done (first ++ others))) placed h in
    let q = done_parts (on_groups order function rest) (λ others. Done (p.0 ++ others)) placed p.2 in
    let joined : p.0 ++ q.0 ≡ placed = cc in
    let own = group_placed function spots p.0 p.1 in
    let first : Places p.0 ≡ places_in spots = ap Places own.placed_is ∙ firsts-zip (places_in spots) own.values own.many in
    let later = groups_places order function rest q.0 q.1 in
    sym (ap Places joined) ∙ map-append (λ (pair : ℕ × Val). pair.0) p.0 q.0 ∙ (λ i. first i ++ later i)

zipped_own : (found : List Val) (spots : List Spot) (values : List Val) → length values ≡ length (places_in spots) → HaveOwn (slice_get found) (zip (places_in spots) values) → map (λ (spot : Spot). slice_get found spot.place) spots ≡ map Some values
zipped_own found [] [] h k = refl
zipped_own found [] (value ∷ values) h k = absurd (omega (arith, h))
zipped_own found (spot ∷ spots) [] h k = absurd (omega (arith, h))
zipped_own found (spot ∷ spots) (value ∷ values) h k =
    let first = k.0 in
    let later = zipped_own found spots values (omega (arith, h)) k.1 in
    λ i. first i ∷ later i

groups_have : (order : Option SortOptions) (function : Meaning) (found : List Val) (all : List (Group Spot)) (placed : List (ℕ × Val)) → on_groups order function all ≡ Done placed → HaveOwn (slice_get found) placed → AllByRecursion (λ (group : Group Spot). HaveWhatIsGiven function (put_in_order order group.items) found) all
groups_have order function found [] placed h own = tt
groups_have order function found (group ∷ rest) placed h own =
    let spots = put_in_order order group.items in
    let p = done_parts (on_group function spots) (λ first. then_do (on_groups order function rest) (λ others. Done (first ++ others))) placed h in
    let q = done_parts (on_groups order function rest) (λ others. Done (p.0 ++ others)) placed p.2 in
    let joined : placed ≡ p.0 ++ q.0 = cc in
    let parts = own_parts (slice_get found) p.0 q.0 (subst (HaveOwn (slice_get found)) joined own) in
    let it = group_placed function spots p.0 p.1 in
    (record { values = it.values; given = it.given; placed = zipped_own found spots it.values it.many (subst (HaveOwn (slice_get found)) it.placed_is parts.0) }, groups_have order function found rest q.0 q.1 parts.1)

-- all that is placed stands at its place
module _ (order : Option SortOptions) (function : Meaning) (rows : List ℕ) (by : List Val) (each : List Row) (ordered : length by ≡ length rows) (keyed : length each ≡ length rows) (placed : List (ℕ × Val)) (gives : on_groups order function (groups each (spots_from 0 rows by)) ≡ Done placed) where
  places_same : IsPermutation (range_with_len 0 (length rows)) (Places placed)
  places_same =
      let spots = spots_from 0 rows by in
      subst (IsPermutation (range_with_len 0 (length rows))) (sym (groups_places order function (groups each spots) placed gives))
      (subst (λ l. IsPermutation l (made_in order (λ spot. spot.place) (groups each spots))) (places_of_spots 0 rows by ordered)
      (made_of_all order (λ spot. spot.place) each spots (keyed ∙ sym (spots_many 0 rows by ordered))))

  placed_own : HaveOwn (slice_get (map (value_at placed) (range_with_len 0 (length rows)))) placed
  placed_own =
      let places = range_with_len 0 (length rows) in
      let found = map (value_at placed) places in
      own_found (slice_get found) (value_at placed) placed
      (permuted_each (λ place. slice_get found place ≡ Some (value_at placed place)) places (Places placed) places_same (made_at (value_at placed) (length rows) 0 (length rows) (omega arith)))
      (own_values placed (IsDistinct-IsPermutation ◌==◌ same_flips places (Places placed) places_same (places_differ 0 (length rows))))

over_keys_have : (order : Option SortOptions) (function : Meaning) (rows : List ℕ) (by : Outcome (List Val)) (values : List Val) (keys : List (List Val)) (found : List Val) → by ≡ Done values → length values ≡ length rows → over_keys order function rows values keys ≡ Done found → AreOfGroups order function rows by keys found
over_keys_have order function rows by values keys found is many h =
    let spots = spots_from 0 rows values in
    let places = range_with_len 0 (length rows) in
    let p = done_parts (key_rows (length rows) keys) (λ each. then_do (on_groups order function (groups each spots)) (λ placed. Done (map (value_at placed) places))) found h in
    let q = done_parts (on_groups order function (groups p.0 spots)) (λ placed. Done (map (value_at placed) places)) found p.2 in
    let keyed : length p.0 ≡ length rows = subst (Meets (λ each. length each ≡ length rows)) p.1 (key_rows_many (length rows) keys) in
    let found_is : map (value_at q.0) places ≡ found = cc in
    record {
      order_of_rows = values;
      keys_of_rows = p.0;
      order_is = is;
      keys_are = p.1;
      order_each = many;
      keys_each = keyed;
      in_groups = groups_have order function found (groups p.0 spots) q.0 q.1 (subst (λ l. HaveOwn (slice_get l) q.0) found_is (placed_own order function rows values p.0 many keyed q.0 q.1));
    }

ordered_have : (options : SortOptions) (function : Meaning) (rows : List ℕ) (column : List Val) (keys : List (List Val)) (found : List Val) → window_values (Some options) function rows (column ∷ keys) ≡ Done found → AreOfGroups (Some options) function rows (for_rows (length rows) column) keys found
ordered_have options function rows column keys found h =
    let p = done_parts (for_rows (length rows) column) (λ by. over_keys (Some options) function rows by keys) found h in
    let many : length p.0 ≡ length rows = subst (Meets (λ by. length by ≡ length rows)) p.1 (column_for_rows (length rows) column) in
    over_keys_have (Some options) function rows (for_rows (length rows) column) p.0 keys found p.1 many p.2

pub rows_have_what_is_given : RowsHaveWhatTheirGroupIsGiven
rows_have_what_is_given = record {
  unordered = λ function rows keys found h. over_keys_have None function rows (Done (replicate (length rows) NullValue)) (replicate (length rows) NullValue) keys found refl (length-replicate (length rows) NullValue) h;
  ordered = ordered_have;
}

pub groups_in_order : GroupsArePutInOrder
groups_in_order options type spots h =
    let order = values_in_order options type in
    is_sorted (λ (left right : Spot). comes_before options left.by right.by) (λ spot. fits spot.by type) (record { one_way = λ x y. order.one_way x.by y.by; chain = λ x y z. order.chain x.by y.by z.by }) spots h

-- ---- windows of columns

pub stretched_same : (count : ℕ) (values : List Val) → length values ≡ count → stretched count values ≡ values
stretched_same count [] h = refl
stretched_same count (value ∷ []) h = ap (λ n. replicate n value) (sym h)
stretched_same count (first ∷ second ∷ rest) h = refl

pub for_rows_same : (count : ℕ) (values : List Val) → length values ≡ count → for_rows count values ≡ Done values
for_rows_same count values h =
    ap (λ b. cond (b || length values == 1) (Done (stretched count values)) Fault) (eq-eqb (length values) count h) ∙ ap Done (stretched_same count values h)

-- a row's place and its value
abbrev valued : (ℕ → Val) → Spot → ℕ × Val
valued value spot = (spot.place, value spot.number)

zipped_values : (value : ℕ → Val) (spots : List Spot) → zip (places_in spots) (map value (numbers_of spots)) ≡ map (valued value) spots
zipped_values value [] = refl
zipped_values value (spot ∷ spots) = ap (λ l. valued value spot ∷ l) (zipped_values value spots)

on_group_each : (value : ℕ → Val) (spots : List Spot) → on_group (of_each value) spots ≡ Done (map (valued value) spots)
on_group_each value spots =
    let many : length (map value (numbers_of spots)) ≡ length spots = length-map (numbers_of spots) value ∙ length-map spots (λ (spot : Spot). spot.number) in
    ap (λ o. then_do o (λ column. Done (zip (places_in spots) column))) (for_rows_same (length spots) (map value (numbers_of spots)) many) ∙ ap Done (zipped_values value spots)

on_groups_each : (order : Option SortOptions) (value : ℕ → Val) (all : List (Group Spot)) → on_groups order (of_each value) all ≡ Done (made_in order (valued value) all)
on_groups_each order value [] = refl
on_groups_each order value (group ∷ rest) =
    let first = on_group_each value (put_in_order order group.items) in
    let later = on_groups_each order value rest in
    λ i. then_do (first i) (λ first. then_do (later i) (λ others. Done (first ++ others)))

-- a list that has each row's value at its place is those values
column_from : (value : ℕ → Val) (front rest : List Val) (rows : List ℕ) (by : List Val) → length by ≡ length rows → length rest ≡ length rows → HaveOwn (slice_get (front ++ rest)) (map (valued value) (spots_from (length front) rows by)) → rest ≡ map value rows
column_from value front [] [] by h k own = refl
column_from value front (x ∷ rest) [] by h k own = absurd (omega (arith, k))
column_from value front [] (number ∷ rows) by h k own = absurd (omega (arith, k))
column_from value front (x ∷ rest) (number ∷ rows) [] h k own = absurd (omega (arith, h))
column_from value front (x ∷ rest) (number ∷ rows) (y ∷ by) h k own =
    let first : x ≡ value number = let e = sym (slice_get-seam front x rest) ∙ own.0 in cc in
    let many : suc (length front) ≡ length (front ++ x ∷ []) = omega (arith, length-append front (x ∷ [])) in
    let moved : HaveOwn (slice_get ((front ++ x ∷ []) ++ rest)) (map (valued value) (spots_from (length (front ++ x ∷ [])) rows by)) =
    subst (λ n. HaveOwn (slice_get ((front ++ x ∷ []) ++ rest)) (map (valued value) (spots_from n rows by))) many (subst (λ l. HaveOwn (slice_get l) (map (valued value) (spots_from (suc (length front)) rows by))) (sym (append_assoc front (x ∷ []) rest)) own.1) in
    let later = column_from value (front ++ x ∷ []) rest rows by (omega (arith, h)) (omega (arith, k)) moved in
    λ i. first i ∷ later i

keys_for_rows : (count : ℕ) (keys : List (List Val)) → are_for_rows count keys ≡ true → (each : List Row) × (key_rows count keys ≡ Done each)
keys_for_rows count [] h = (replicate count [], refl)
keys_for_rows count (key ∷ keys) h =
    let parts = and_parts (length key == count || length key == 1) (are_for_rows count keys) h in
    let rest = keys_for_rows count keys parts.1 in
    let column : for_rows count key ≡ Done (stretched count key) = ap (λ b. cond b (Done (stretched count key)) Fault) parts.0 in
    (in_front (stretched count key) rest.0, λ i. then_do (column i) (λ column. then_do (rest.1 i) (λ rows. Done (in_front column rows))))

over_keys_each : (order : Option SortOptions) (value : ℕ → Val) (rows : List ℕ) (by : List Val) (keys : List (List Val)) → length by ≡ length rows → are_for_rows (length rows) keys ≡ true → over_keys order (of_each value) rows by keys ≡ Done (map value rows)
over_keys_each order value rows by keys many h =
    let spots = spots_from 0 rows by in
    let places = range_with_len 0 (length rows) in
    let keyed = keys_for_rows (length rows) keys h in
    let each_many : length keyed.0 ≡ length rows = subst (Meets (λ each. length each ≡ length rows)) keyed.1 (key_rows_many (length rows) keys) in
    let gives = on_groups_each order value (groups keyed.0 spots) in
    let placed = made_in order (valued value) (groups keyed.0 spots) in
    let found = map (value_at placed) places in
    let own = placed_own order (of_each value) rows by keyed.0 many each_many placed gives in
    let all_own : HaveOwn (slice_get found) (map (valued value) spots) =
    permuted_each (λ (pair : ℕ × Val). slice_get found pair.0 ≡ Some pair.1) placed (map (valued value) spots) (IsPermutation-sym (map (valued value) spots) placed (made_of_all order (valued value) keyed.0 spots (each_many ∙ sym (spots_many 0 rows by many)))) own in
    ap (λ o. then_do o (λ each. then_do (on_groups order (of_each value) (groups each spots)) (λ placed. Done (map (value_at placed) places)))) keyed.1
    ∙ ap (λ o. then_do o (λ placed. Done (map (value_at placed) places))) gives
    ∙ ap Done (column_from value [] found rows by many (length-map-range_with_len (value_at placed) 0 (length rows)) all_own)

ordered_column : (options : SortOptions) (value : ℕ → Val) (rows : List ℕ) (column : List Val) (keys : List (List Val)) → are_for_rows (length rows) (column ∷ keys) ≡ true → window_values (Some options) (of_each value) rows (column ∷ keys) ≡ Done (map value rows)
ordered_column options value rows column keys h =
    let parts = and_parts (length column == length rows || length column == 1) (are_for_rows (length rows) keys) h in
    let by = stretched (length rows) column in
    let is : for_rows (length rows) column ≡ Done by = ap (λ b. cond b (Done by) Fault) parts.0 in
    let many : length by ≡ length rows = subst (Meets (λ by. length by ≡ length rows)) is (column_for_rows (length rows) column) in
    ap (λ o. then_do o (λ by. over_keys (Some options) (of_each value) rows by keys)) is ∙ over_keys_each (Some options) value rows by keys many parts.1

pub windows_of_columns : WindowsOfColumnsAreTheColumns
windows_of_columns = record {
  unordered = λ value rows keys h. over_keys_each None value rows (replicate (length rows) NullValue) keys (length-replicate (length rows) NullValue) h;
  ordered = ordered_column;
}
