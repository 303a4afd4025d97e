-- Groups.
-- Items that stand beside the same keys are one group, in order. The groups are in the order in which their keys first
-- occur. A null is the same key as another.
use Rattle.std.specs.Prelude.{Bool, not, List, [], ◌∷◌, map, zip}
use Rattle.std.specs.List.{filter}
use Rattle.std.specs.Cmp.Lexicographic.{pointwise}
use Rattle.plan_types.specs.Values.{same_value}
use Rattle.plan_types.specs.Frames.{Row}

-- items without those that are the same as an earlier one
abbrev pub firsts : {A : Type 0} → (A → A → Bool) → List A → List A
firsts same [] = []
firsts same (item ∷ items) = item ∷ filter (λ other. not (same item other)) (firsts same items)

-- whether two rows of keys are one
abbrev pub same_keys : Row → Row → Bool
same_keys left right = pointwise same_value left right

-- the items beside which the keys are these
abbrev pub items_beside : {A : Type 0} → Row → List Row → List A → List A
items_beside key keys items = map (λ row. row.1) (filter (λ row. same_keys key row.0) (zip keys items))

-- a group: its keys, and the items beside which they stand
pub record Group (A : Type 0) : Type 0 where
  pub key : Row
  pub items : List A

-- items in groups, by the keys beside each
abbrev pub groups : {A : Type 0} → List Row → List A → List (Group A)
groups keys items = map (λ key. record { key = key; items = items_beside key keys items }) (firsts same_keys keys)
