-- Groups: each item is in one of them, and one more item goes to the end.
use Rattle.std.proofs.Common.{◌≡◌, Bool, true, false, cond, not, ◌||◌, List, [], ◌∷◌, ◌++◌, map, length, append-nil, refl, sym, ap, ◌∙◌, subst, arith}
use Rattle.std.specs.Prelude.{flat_map, zip, IsPermutation}
use Rattle.std.specs.Bool.{Decides}
use Rattle.std.specs.List.{AllByRecursion, filter, list_any}
use Rattle.std.specs.Cmp.Lexicographic.{pointwise_decides}
use Rattle.std.proofs.lemmas.List.{map-append}
use Rattle.std.proofs.lemmas.List.Elements.{filter-append}
use Rattle.std.proofs.lemmas.List.Sorted.{IsPermutation-append, IsPermutation-filter_both, IsPermutation-refl, IsPermutation-trans}
use Rattle.plan_types.specs.Values.{Val, same_value}
use Rattle.plan_types.specs.ValueLaws.{same_value_exact, same_value_own}
use Rattle.plan_types.specs.Frames.{Row}
use Rattle.plan_dsl.specs.Groups.{Group, firsts, groups, items_beside, same_keys}
use Rattle.plan_dsl.specs.GroupLaws.{AreApart, AreGroupsOf, EachIsInOneGroup, ItemsGoToTheEnd, SameKeysAreOne, rows_in, with_item}
use Rattle.plan_dsl.proofs.GroupingLemmas.{kept_have, firsts_have}

-- ---- values and keys that are one

value_decides : (x y : Val) → Decides (same_value x y) (x ≡ y)
value_decides x y = (same_value_exact x y, λ e. subst (λ z. same_value x z ≡ true) e (same_value_own x))

pub same_keys_are_one : SameKeysAreOne
same_keys_are_one = pointwise_decides value_decides

pub keys_exact : (x y : Row) → same_keys x y ≡ true → x ≡ y
keys_exact x y = (same_keys_are_one x y).0

pub keys_own : (x : Row) → same_keys x x ≡ true
keys_own x = (same_keys_are_one x x).1 refl

-- keys that differ from a third alike
other_key : (x y z : Row) → same_keys y z ≡ true → same_keys x z ≡ same_keys x y
other_key x y z h = ap (same_keys x) (sym (keys_exact y z h))

turned : (x y : Row) → same_keys x y ≡ false → same_keys y x ≡ false
turned x y h = elim (same_keys y x) as (λ b. same_keys y x ≡ b → b ≡ false) [ false ↦ λ e. refl | true ↦ λ e. sym (keys_own x) ∙ other_key x y x e ∙ h ] refl

-- ---- keys that are found first

-- whether the key is among these
abbrev pub among : List Row → Row → Bool
among keys key = list_any (λ other. same_keys other key) keys

abbrev without : Row → List Row → List Row
without key keys = filter (λ other. not (same_keys key other)) keys

or_left : (a b : Bool) → a ≡ true → (a || b) ≡ true
or_left a b h = ap (λ x. x || b) h

pub or_right : (a b : Bool) → b ≡ true → (a || b) ≡ true
or_right true b h = refl
or_right false b h = h

-- a key that isn't left out stays among the others
stays_among : (left key : Row) (keys : List Row) → same_keys left key ≡ false → among keys key ≡ true → among (without left keys) key ≡ true
stays_among left key [] other h = h
stays_among left key (first ∷ keys) other h =
    elim (same_keys first key) as (λ b. same_keys first key ≡ b → (b || among keys key) ≡ true → among (without left (first ∷ keys)) key ≡ true) [
      | true ↦ λ e h. let kept : same_keys left first ≡ false = sym (other_key left first key e) ∙ other in subst (λ b. among (cond (not b) (first ∷ without left keys) (without left keys)) key ≡ true) (sym kept) (or_left (same_keys first key) _ e)
      | false ↦ λ e h. let later = stays_among left key keys other h in elim (same_keys left first) as (λ b. among (cond (not b) (first ∷ without left keys) (without left keys)) key ≡ true) [ true ↦ later | false ↦ or_right (same_keys first key) _ later ]
    ] refl h

abbrev pub HaveKeys : {A : Type 0} → List Row → List (Row × A) → Type 0
HaveKeys keys rows = AllByRecursion (λ row. among keys row.0 ≡ true) rows

more_keys : {A : Type 0} (key : Row) (keys : List Row) (rows : List (Row × A)) → HaveKeys keys rows → HaveKeys (key ∷ without key keys) rows
more_keys key keys [] h = tt
more_keys key keys (row ∷ rows) h =
    let first = elim (same_keys key row.0) as (λ b. same_keys key row.0 ≡ b → (b || among (without key keys) row.0) ≡ true) [ true ↦ λ e. refl | false ↦ λ e. stays_among key row.0 keys e h.0 ] refl in
    (first, more_keys key keys rows h.1)

-- the key of each row is found
pub keys_found : {A : Type 0} (keys : List Row) (items : List A) → HaveKeys (firsts same_keys keys) (zip keys items)
keys_found [] items = tt
keys_found (key ∷ keys) [] = tt
keys_found (key ∷ keys) (item ∷ items) = (or_left (same_keys key key) _ (keys_own key), more_keys key (firsts same_keys keys) (zip keys items) (keys_found keys items))

left_out : (key : Row) (keys : List Row) → AllByRecursion (λ other. same_keys key other ≡ false) (without key keys)
left_out key [] = tt
left_out key (other ∷ keys) =
    elim (same_keys key other) as (λ b. same_keys key other ≡ b → AllByRecursion (λ other. same_keys key other ≡ false) (cond (not b) (other ∷ without key keys) (without key keys))) [ true ↦ λ e. left_out key keys | false ↦ λ e. (e, left_out key keys) ] refl

pub apart_kept : (test : Row → Bool) (keys : List Row) → AreApart keys → AreApart (filter test keys)
apart_kept test [] h = tt
apart_kept test (key ∷ keys) h =
    elim (test key) as (λ b. AreApart (cond b (key ∷ filter test keys) (filter test keys))) [ true ↦ (kept_have (λ other. same_keys key other ≡ false) test keys h.0, apart_kept test keys h.1) | false ↦ apart_kept test keys h.1 ]

pub firsts_apart : (keys : List Row) → AreApart (firsts same_keys keys)
firsts_apart [] = tt
firsts_apart (key ∷ keys) = (left_out key (firsts same_keys keys), apart_kept (λ other. not (same_keys key other)) (firsts same_keys keys) (firsts_apart keys))

-- the keys with one more, behind those that are there
abbrev with_key : Row → List Row → List Row
with_key key [] = key ∷ []
with_key key (first ∷ keys) = cond (same_keys first key) (first ∷ keys) (first ∷ with_key key keys)

-- keys that are left out leave what one more changes
without_with_key : (left key : Row) (keys : List Row) → without left (with_key key keys) ≡ cond (same_keys left key) (without left keys) (with_key key (without left keys))
without_with_key left key [] = elim (same_keys left key) as (λ b. cond (not b) (key ∷ []) [] ≡ cond b [] (key ∷ [])) [ true ↦ refl | false ↦ refl ]
without_with_key left key (first ∷ keys) =
    let kept = without left keys in
    elim (same_keys first key) as (λ b. same_keys first key ≡ b → without left (cond b (first ∷ keys) (first ∷ with_key key keys)) ≡ cond (same_keys left key) (without left (first ∷ keys)) (with_key key (without left (first ∷ keys)))) [
      | true ↦ λ e. elim (same_keys left first) as (λ c. same_keys left first ≡ c → cond (not c) (first ∷ kept) kept ≡ cond (same_keys left key) (cond (not c) (first ∷ kept) kept) (with_key key (cond (not c) (first ∷ kept) kept))) [
        | true ↦ λ f. let alike : same_keys left key ≡ true = sym (ap (same_keys left) (keys_exact first key e)) ∙ f in sym (ap (λ d. cond d kept (with_key key kept)) alike)
        | false ↦ λ f. let alike : same_keys left key ≡ false = sym (ap (same_keys left) (keys_exact first key e)) ∙ f in sym (ap (λ d. cond d (first ∷ kept) (with_key key (first ∷ kept))) alike ∙ ap (λ d. cond d (first ∷ kept) (first ∷ with_key key kept)) e)
      ] refl
      | false ↦ λ e. elim (same_keys left first) as (λ c. cond (not c) (first ∷ without left (with_key key keys)) (without left (with_key key keys)) ≡ cond (same_keys left key) (cond (not c) (first ∷ kept) kept) (with_key key (cond (not c) (first ∷ kept) kept))) [
        | true ↦ without_with_key left key keys
        | false ↦ ap (λ l. first ∷ l) (without_with_key left key keys) ∙ elim (same_keys left key) as (λ d. first ∷ cond d kept (with_key key kept) ≡ cond d (first ∷ kept) (with_key key (first ∷ kept))) [ true ↦ refl | false ↦ sym (ap (λ b. cond b (first ∷ kept) (first ∷ with_key key kept)) e) ]
      ]
    ] refl

firsts_with_key : (keys : List Row) (key : Row) → firsts same_keys (keys ++ key ∷ []) ≡ with_key key (firsts same_keys keys)
firsts_with_key [] key = refl
firsts_with_key (first ∷ keys) key = ap (λ l. first ∷ without first l) (firsts_with_key keys key) ∙ (
    let found = firsts same_keys keys in
    ap (λ l. first ∷ l) (without_with_key first key found) ∙ elim (same_keys first key) as (λ b. first ∷ cond b (without first found) (with_key key (without first found)) ≡ cond b (first ∷ without first found) (first ∷ with_key key (without first found))) [ true ↦ refl | false ↦ refl ])

all_apart_from : (first key : Row) (keys : List Row) → same_keys first key ≡ true → AllByRecursion (λ other. same_keys first other ≡ false) keys → AllByRecursion (λ other. same_keys other key ≡ false) keys
all_apart_from first key [] e h = tt
all_apart_from first key (other ∷ keys) e h = (turned key other (subst (λ k. same_keys k other ≡ false) (keys_exact first key e) h.0), all_apart_from first key keys e h.1)

not_among : (key other : Row) (keys : List Row) → among keys key ≡ false → among keys other ≡ true → same_keys key other ≡ false
not_among key other keys none found = elim (same_keys key other) as (λ b. same_keys key other ≡ b → b ≡ false) [ false ↦ λ e. refl | true ↦ λ e. let same = ap (among keys) (keys_exact key other e) in cc ] refl

-- ---- each row is in one group

module _ {A : Type 0} where
  -- rows of a key, and those of others
  abbrev of_key : Row → List (Row × A) → List (Row × A)
  of_key key rows = filter (λ row. same_keys key row.0) rows

  abbrev of_others : Row → List (Row × A) → List (Row × A)
  of_others key rows = filter (λ row. not (same_keys key row.0)) rows

  beside_key : (key : Row) (rows : List (Row × A)) → map (λ item. (key, item)) (map (λ row. row.1) (of_key key rows)) ≡ of_key key rows
  beside_key key [] = refl
  beside_key key (row ∷ rows) =
      let later = beside_key key rows in
      elim (same_keys key row.0) as (λ b. same_keys key row.0 ≡ b → map (λ item. (key, item)) (map (λ (r : Row × A). r.1) (cond b (row ∷ of_key key rows) (of_key key rows))) ≡ cond b (row ∷ of_key key rows) (of_key key rows)) [ true ↦ λ e. let own = keys_exact key row.0 e in λ i. (own i, row.1) ∷ later i | false ↦ λ e. later ] refl

  -- where others are left out, those of a key stay
  of_key_among_others : (left key : Row) (rows : List (Row × A)) → same_keys left key ≡ false → of_key key (of_others left rows) ≡ of_key key rows
  of_key_among_others left key [] other = refl
  of_key_among_others left key (row ∷ rows) other =
      let later = of_key_among_others left key rows other in
      elim (same_keys left row.0) as (λ b. same_keys left row.0 ≡ b → of_key key (cond (not b) (row ∷ of_others left rows) (of_others left rows)) ≡ of_key key (row ∷ rows)) [
        | true ↦ λ e. let apart : same_keys key row.0 ≡ false = other_key key left row.0 e ∙ turned left key other in later ∙ sym (ap (λ b. cond b (row ∷ of_key key rows) (of_key key rows)) apart)
        | false ↦ λ e. ap (λ l. cond (same_keys key row.0) (row ∷ l) l) later
      ] refl

  of_keys_among_others : (left : Row) (keys : List Row) (rows : List (Row × A)) → AllByRecursion (λ key. same_keys left key ≡ false) keys → flat_map (λ key. of_key key (of_others left rows)) keys ≡ flat_map (λ key. of_key key rows) keys
  of_keys_among_others left [] rows h = refl
  of_keys_among_others left (key ∷ keys) rows h =
      let first = of_key_among_others left key rows h.0 in
      let later = of_keys_among_others left keys rows h.1 in
      λ i. first i ++ later i

  others_have : (left : Row) (keys : List Row) (rows : List (Row × A)) → HaveKeys (left ∷ keys) rows → HaveKeys keys (of_others left rows)
  others_have left keys [] h = tt
  others_have left keys (row ∷ rows) h =
      let later = others_have left keys rows h.1 in
      elim (same_keys left row.0) as (λ b. (b || among keys row.0) ≡ true → HaveKeys keys (cond (not b) (row ∷ of_others left rows) (of_others left rows))) [ true ↦ λ e. later | false ↦ λ e. (e, later) ] h.0

  none_without_keys : (rows : List (Row × A)) → HaveKeys [] rows → rows ≡ []
  none_without_keys [] h = refl
  none_without_keys (row ∷ rows) h = let no : false ≡ true = h.0 in cc

  -- rows are those of each of their keys
  rows_by_keys : (keys : List Row) (rows : List (Row × A)) → AreApart keys → HaveKeys keys rows → IsPermutation rows (flat_map (λ key. of_key key rows) keys)
  rows_by_keys [] rows apart h = subst (λ l. IsPermutation l []) (sym (none_without_keys rows h)) (IsPermutation-refl [])
  rows_by_keys (key ∷ keys) rows apart h =
      let own = of_key key rows in
      let others = of_others key rows in
      let later = subst (λ l. IsPermutation others l) (of_keys_among_others key keys rows apart.0) (rows_by_keys keys others apart.1 (others_have key keys rows h)) in
      IsPermutation-trans rows (own ++ others) (own ++ flat_map (λ k. of_key k rows) keys) (IsPermutation-filter_both (λ row. same_keys key row.0) (λ row. not (same_keys key row.0)) (λ row. refl) rows) (IsPermutation-append own own others (flat_map (λ k. of_key k rows) keys) (IsPermutation-refl own) later)

  rows_of_groups : (keys : List Row) (items : List A) (found : List Row) → rows_in (map (λ key. record { key = key; items = items_beside key keys items }) found) ≡ flat_map (λ key. of_key key (zip keys items)) found
  rows_of_groups keys items [] = refl
  rows_of_groups keys items (key ∷ found) =
      let first = beside_key key (zip keys items) in
      let later = rows_of_groups keys items found in
      λ i. first i ++ later i

  pub keys_of_groups : (keys : List Row) (items : List A) (found : List Row) → map (λ (group : Group A). group.key) (map (λ key. record { key = key; items = items_beside key keys items }) found) ≡ found
  keys_of_groups keys items [] = refl
  keys_of_groups keys items (key ∷ found) = ap (λ l. key ∷ l) (keys_of_groups keys items found)

  -- ---- no group is empty

  there : (key : Row) (row : Row × A) (rows : List (Row × A)) → same_keys key row.0 ≡ true → ¬ (map (λ row. row.1) (of_key key (row ∷ rows)) ≡ [])
  there key row rows h e = let first = ap (λ b. map (λ (r : Row × A). r.1) (cond b (row ∷ of_key key rows) (of_key key rows))) (sym h) ∙ e in cc

  also_there : (key : Row) (row : Row × A) (rows : List (Row × A)) → ¬ (map (λ row. row.1) (of_key key rows) ≡ []) → ¬ (map (λ row. row.1) (of_key key (row ∷ rows)) ≡ [])
  also_there key row rows h = elim (same_keys key row.0) as (λ b. ¬ (map (λ (r : Row × A). r.1) (cond b (row ∷ of_key key rows) (of_key key rows)) ≡ [])) [ true ↦ λ e. cc | false ↦ h ]

  all_also_there : (row : Row × A) (rows : List (Row × A)) (keys : List Row) → AllByRecursion (λ key. ¬ (map (λ row. row.1) (of_key key rows) ≡ [])) keys → AllByRecursion (λ key. ¬ (map (λ row. row.1) (of_key key (row ∷ rows)) ≡ [])) keys
  all_also_there row rows [] h = tt
  all_also_there row rows (key ∷ keys) h = (also_there key row rows h.0, all_also_there row rows keys h.1)

  pub all_there : (keys : List Row) (items : List A) → length keys ≡ length items → AllByRecursion (λ key. ¬ (items_beside key keys items ≡ [])) keys
  all_there [] items h = tt
  all_there (key ∷ keys) [] h = absurd (omega (arith, h))
  all_there (key ∷ keys) (item ∷ items) h =
      (there key (key, item) (zip keys items) (keys_own key), all_also_there (key, item) (zip keys items) keys (all_there keys items (omega (arith, h))))

  filled_groups : (keys : List Row) (items : List A) (found : List Row) → AllByRecursion (λ key. ¬ (items_beside key keys items ≡ [])) found → AllByRecursion (λ (group : Group A). ¬ (group.items ≡ [])) (map (λ key. record { key = key; items = items_beside key keys items }) found)
  filled_groups keys items [] h = tt
  filled_groups keys items (key ∷ found) h = (h.0, filled_groups keys items found h.1)

  are_groups : (keys : List Row) (items : List A) → length keys ≡ length items → AreGroupsOf keys items (groups keys items)
  are_groups keys items h =
      let found = firsts same_keys keys in
      record {
        same = subst (IsPermutation (zip keys items)) (sym (rows_of_groups keys items found)) (rows_by_keys found (zip keys items) (firsts_apart keys) (keys_found keys items));
        filled = filled_groups keys items found (firsts_have (λ key. ¬ (items_beside key keys items ≡ [])) same_keys keys (all_there keys items h));
        apart = subst AreApart (sym (keys_of_groups keys items found)) (firsts_apart keys);
      }

  -- ---- one more item

  zip_more : (keys : List Row) (items : List A) (key : Row) (item : A) → length keys ≡ length items → zip (keys ++ key ∷ []) (items ++ item ∷ []) ≡ zip keys items ++ (key, item) ∷ []
  zip_more [] [] key item h = refl
  zip_more [] (x ∷ items) key item h = absurd (omega (arith, h))
  zip_more (k ∷ keys) [] key item h = absurd (omega (arith, h))
  zip_more (k ∷ keys) (x ∷ items) key item h = ap (λ l. (k, x) ∷ l) (zip_more keys items key item (omega (arith, h)))

  -- the items of a group, with one more beside that key
  abbrev items_with : (Row → List A) → Row → A → Row → List A
  items_with its key item group = its group ++ cond (same_keys group key) (item ∷ []) []

  abbrev group_with : (Row → List A) → Row → Group A
  group_with its key = record { key = key; items = its key }

  others_stay : (its : Row → List A) (key : Row) (item : A) (keys : List Row) → AllByRecursion (λ other. same_keys other key ≡ false) keys → map (group_with (items_with its key item)) keys ≡ map (group_with its) keys
  others_stay its key item [] h = refl
  others_stay its key item (first ∷ keys) h =
      let same : items_with its key item first ≡ its first = ap (λ b. its first ++ cond b (item ∷ []) []) h.0 ∙ append-nil (its first) in
      let later = others_stay its key item keys h.1 in
      λ i. record { key = first; items = same i } ∷ later i

  -- groups of keys that are apart, with one more item
  groups_with : (its : Row → List A) (key : Row) (item : A) (keys : List Row) → AreApart keys → (among keys key ≡ false → its key ≡ []) → map (group_with (items_with its key item)) (with_key key keys) ≡ with_item key item (map (group_with its) keys)
  groups_with its key item [] apart none =
      let items : items_with its key item key ≡ item ∷ [] = ap (λ b. its key ++ cond b (item ∷ []) []) (keys_own key) ∙ ap (λ l. l ++ item ∷ []) (none refl) in
      λ i. record { key = key; items = items i } ∷ []
  groups_with its key item (first ∷ keys) apart none =
      elim (same_keys first key) as (λ b. same_keys first key ≡ b → ((b || among keys key) ≡ false → its key ≡ []) → map (group_with (items_with its key item)) (cond b (first ∷ keys) (first ∷ with_key key keys)) ≡ cond b (record { key = first; items = its first ++ item ∷ [] } ∷ map (group_with its) keys) (group_with its first ∷ with_item key item (map (group_with its) keys))) [
        | true ↦ λ e none.
            let items : items_with its key item first ≡ its first ++ item ∷ [] = ap (λ b. its first ++ cond b (item ∷ []) []) e in
            let later = others_stay its key item keys (all_apart_from first key keys e apart.0) in
            λ i. record { key = first; items = items i } ∷ later i
        | false ↦ λ e none.
            let items : items_with its key item first ≡ its first = ap (λ b. its first ++ cond b (item ∷ []) []) e ∙ append-nil (its first) in
            let later = groups_with its key item keys apart.1 none in
            λ i. record { key = first; items = items i } ∷ later i
      ] refl none

  -- a key that isn't found has no items
  none_of_key : (key : Row) (keys : List Row) (rows : List (Row × A)) → HaveKeys keys rows → among keys key ≡ false → map (λ row. row.1) (of_key key rows) ≡ []
  none_of_key key keys [] h none = refl
  none_of_key key keys (row ∷ rows) h none =
      ap (λ b. map (λ (r : Row × A). r.1) (cond b (row ∷ of_key key rows) (of_key key rows))) (not_among key row.0 keys none h.0) ∙ none_of_key key keys rows h.1 none

  items_more : (keys : List Row) (items : List A) (key : Row) (item : A) (group : Row) → length keys ≡ length items → items_beside group (keys ++ key ∷ []) (items ++ item ∷ []) ≡ items_with (λ k. items_beside k keys items) key item group
  items_more keys items key item group h =
      let rows = zip keys items in
      ap (λ l. map (λ (r : Row × A). r.1) (of_key group l)) (zip_more keys items key item h)
      ∙ ap (map (λ (r : Row × A). r.1)) (filter-append (λ (r : Row × A). same_keys group r.0) rows ((key, item) ∷ []))
      ∙ map-append (λ (r : Row × A). r.1) (of_key group rows) (of_key group ((key, item) ∷ []))
      ∙ ap (λ l. items_beside group keys items ++ l) (elim (same_keys group key) as (λ b. map (λ (r : Row × A). r.1) (cond b ((key, item) ∷ []) []) ≡ cond b (item ∷ []) []) [ true ↦ refl | false ↦ refl ])

  groups_more : (keys : List Row) (items : List A) (key : Row) (item : A) (found : List Row) → length keys ≡ length items → map (group_with (λ group. items_beside group (keys ++ key ∷ []) (items ++ item ∷ []))) found ≡ map (group_with (items_with (λ k. items_beside k keys items) key item)) found
  groups_more keys items key item [] h = refl
  groups_more keys items key item (group ∷ found) h =
      let own = items_more keys items key item group h in
      let later = groups_more keys items key item found h in
      λ i. record { key = group; items = own i } ∷ later i

  goes_to_the_end : (keys : List Row) (items : List A) (key : Row) (item : A) → length keys ≡ length items → groups (keys ++ key ∷ []) (items ++ item ∷ []) ≡ with_item key item (groups keys items)
  goes_to_the_end keys items key item h =
      let found = firsts same_keys keys in
      let its : Row → List A = λ k. items_beside k keys items in
      ap (map (group_with (λ group. items_beside group (keys ++ key ∷ []) (items ++ item ∷ [])))) (firsts_with_key keys key)
      ∙ groups_more keys items key item (with_key key found) h
      ∙ groups_with its key item found (firsts_apart keys) (none_of_key key found (zip keys items) (keys_found keys items))

pub each_is_in_one_group : {A : Type 0} → EachIsInOneGroup A
each_is_in_one_group keys items h = are_groups keys items h

pub items_go_to_the_end : {A : Type 0} → ItemsGoToTheEnd A
items_go_to_the_end keys items key item h = goes_to_the_end keys items key item h
