-- Denotation.
-- A node of an arena denotes a tree where its item is the tree's top, and its inputs denote the children.
-- Trees are finite, so a node that denotes one leads into no circle. Nothing is said of the order of numbers.
use Rattle.std.specs.Prelude.{ℕ, zero, suc, ◌+◌, max, List, [], ◌∷◌, length, slice_get, unwrap_or}
use Rattle.plan_dsl.specs.Trees.{Tree, Trees, node, no_more, more}

abbrev mutual
  pub Denotes : {Op : Type 0} → (ℕ → Op → List ℕ → Type 0) → ℕ → Tree Op → Type 0
  Denotes holds n (node op children) = (inputs : List ℕ) × holds n op inputs × DenoteAll holds inputs children

  pub DenoteAll : {Op : Type 0} → (ℕ → Op → List ℕ → Type 0) → List ℕ → Trees Op → Type 0
  DenoteAll holds [] no_more = Unit {0}
  DenoteAll holds (n ∷ ns) (more child rest) = Denotes holds n child × DenoteAll holds ns rest
  DenoteAll holds [] (more child rest) = ⊥
  DenoteAll holds (n ∷ ns) no_more = ⊥

-- the node denotes some tree
pub record DenotesTree {Op : Type 0} (holds : ℕ → Op → List ℕ → Type 0) (n : ℕ) : Type 0 where
  pub tree : Tree Op
  pub denotes : Denotes holds n tree

-- the greatest of the values at the numbers
abbrev pub greatest : (ℕ → ℕ) → List ℕ → ℕ
greatest value [] = 0
greatest value (n ∷ ns) = max (value n) (greatest value ns)

-- the inputs of the item at the node
abbrev pub inputs_at : List (List ℕ) → ℕ → List ℕ
inputs_at shape n = unwrap_or (slice_get shape n) []

-- how far down the inputs lead from a node, up to a bound
unfoldable pub depth_within : ℕ → List (List ℕ) → ℕ → ℕ
depth_within zero shape n = 0
depth_within (suc bound) shape n = 1 + greatest (depth_within bound shape) (inputs_at shape n)

-- how far down the inputs lead from a node, where they lead into no circle
unfoldable pub depth_at : List (List ℕ) → ℕ → ℕ
depth_at shape n = depth_within (length shape) shape n
