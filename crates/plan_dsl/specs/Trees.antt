-- Trees.
-- Expressions and plans are trees: what a node does, and its children in order.
use Rattle.std.specs.Prelude.{ℕ, zero, suc, ◌+◌, max, List, [], ◌∷◌, Option, Some, None}

mutual
  pub data Tree (Op : Type 0) : Type 0 where
    node : Op → Trees Op → Tree Op

  pub data Trees (Op : Type 0) : Type 0 where
    no_more : Trees Op
    more : Tree Op → Trees Op → Trees Op

-- how many nodes the longest way down has
abbrev mutual
  pub tree_depth : {Op : Type 0} → Tree Op → ℕ
  tree_depth (node op children) = 1 + trees_depth children

  pub trees_depth : {Op : Type 0} → Trees Op → ℕ
  trees_depth no_more = 0
  trees_depth (more child rest) = max (tree_depth child) (trees_depth rest)

-- a value of the whole tree, from a node and the values of its children
abbrev mutual
  pub fold : {Op A : Type 0} → (Op → List A → A) → Tree Op → A
  fold step (node op children) = step op (fold_all step children)

  pub fold_all : {Op A : Type 0} → (Op → List A → A) → Trees Op → List A
  fold_all step no_more = []
  fold_all step (more child rest) = fold step child ∷ fold_all step rest

-- trees in order, as children
abbrev pub children_from : {Op : Type 0} → List (Tree Op) → Trees Op
children_from [] = no_more
children_from (child ∷ rest) = more child (children_from rest)

-- how many trees there are
abbrev pub tree_count : {Op : Type 0} → Trees Op → ℕ
tree_count no_more = 0
tree_count (more child rest) = suc (tree_count rest)

-- what the top of a tree does
abbrev pub top_op : {Op : Type 0} → Tree Op → Op
top_op (node op children) = op

-- the child of that number
abbrev pub child_at : {Op : Type 0} → Trees Op → ℕ → Option (Tree Op)
child_at no_more number = None
child_at (more child rest) zero = Some child
child_at (more child rest) (suc number) = child_at rest number

abbrev pub child_of : {Op : Type 0} → Option (Tree Op) → ℕ → Option (Tree Op)
child_of None number = None
child_of (Some (node op children)) number = child_at children number

-- the tree at a place: by the child numbers on the way from the top
abbrev pub tree_at : {Op : Type 0} → Option (Tree Op) → List ℕ → Option (Tree Op)
tree_at tree [] = tree
tree_at tree (number ∷ place) = tree_at (child_of tree number) place

-- trees that are related one by one
abbrev pub AllRelated : {Op : Type 0} → (Tree Op → Tree Op → Type 0) → Trees Op → Trees Op → Type 0
AllRelated R no_more no_more = Unit {0}
AllRelated R (more t ts) (more u us) = R t u × AllRelated R ts us
AllRelated R no_more (more u us) = ⊥
AllRelated R (more t ts) no_more = ⊥
