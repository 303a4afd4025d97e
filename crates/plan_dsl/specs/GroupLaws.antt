-- Laws of groups: what comes of items beside keys. They are said of items of any one type. No clause speaks of all types at
-- once, so they are clauses for the types whose items are put in groups: numbers of rows, and spots of windows.
use Rattle.std.specs.Prelude.{◌≡◌, false, List, [], ◌∷◌, ◌++◌, map, length, flat_map, zip, IsPermutation, if◌then◌else◌}
use Rattle.std.specs.List.{AllByRecursion}
use Rattle.std.specs.Bool.{Decides}
use Rattle.plan_types.specs.Frames.{Row}
use Rattle.plan_dsl.specs.Groups.{Group, groups, same_keys}

-- keys that are found the same are one
abbrev pub SameKeysAreOne : Type 0
SameKeysAreOne = (left right : Row) → Decides (same_keys left right) (left ≡ right)

-- the items of groups, group by group, each beside its group's key
abbrev pub rows_in : {A : Type 0} → List (Group A) → List (Row × A)
rows_in found = flat_map (λ group. map (λ item. (group.key, item)) group.items) found

-- no two of these keys are the same
abbrev pub AreApart : List Row → Type 0
AreApart [] = Unit {0}
AreApart (key ∷ keys) = AllByRecursion (λ other. same_keys key other ≡ false) keys × AreApart keys

-- each item is in one group, beside its own key; no group is empty, and no two have the same key
pub record AreGroupsOf {A : Type 0} (keys : List Row) (items : List A) (found : List (Group A)) : Type 0 where
  pub same : IsPermutation (zip keys items) (rows_in found)
  pub filled : AllByRecursion (λ group. ¬ (group.items ≡ [])) found
  pub apart : AreApart (map (λ group. group.key) found)

abbrev pub EachIsInOneGroup : Type 0 → Type 0
EachIsInOneGroup A = (keys : List Row) (items : List A) → length keys ≡ length items → AreGroupsOf keys items (groups keys items)

-- groups with an item more: at the end of the group of its key, or alone in a new one behind the others
abbrev pub with_item : {A : Type 0} → Row → A → List (Group A) → List (Group A)
with_item key item [] = record { key = key; items = item ∷ [] } ∷ []
with_item key item (group ∷ others) =
    if same_keys group.key key then record { key = group.key; items = group.items ++ item ∷ [] } ∷ others else group ∷ with_item key item others

-- so groups stand in the order in which their keys first occur, and their items as they stood
abbrev pub ItemsGoToTheEnd : Type 0 → Type 0
ItemsGoToTheEnd A = (keys : List Row) (items : List A) (key : Row) (item : A) → length keys ≡ length items → groups (keys ++ key ∷ []) (items ++ item ∷ []) ≡ with_item key item (groups keys items)
