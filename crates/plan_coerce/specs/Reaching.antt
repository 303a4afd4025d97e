-- Nodes that roots reach.
-- Coercion changes items of these alone, and adds others.
use Rattle.std.specs.Prelude.{◌≡◌, ◌≤◌, ◌⊎◌, ℕ, zero, suc, List, [], ◌∷◌, ◌++◌, length}
use Rattle.std.specs.List.{AllByRecursion}
use Rattle.plan_dsl.specs.Ops.{Op, Expression}
use Rattle.plan_dsl.specs.Trees.{Trees, node, no_more, more}
use Rattle.plan_arena.specs.declared.aexpr.AExpr.{AExpr}
use Rattle.plan_arena.specs.Items.{HoldsExpression}

-- the number is one of these
abbrev pub Among : List ℕ → ℕ → Type 0
Among [] n = ⊥
Among (m ∷ ms) n = (n ≡ m) ⊎ Among ms n

-- so many steps lead from a root to the node, each from a node to one of its inputs
abbrev pub ReachedBy : List AExpr → List ℕ → ℕ → ℕ → Type 0
ReachedBy items roots zero n = Among roots n
ReachedBy items roots (suc steps) n = (m : ℕ) × (op : Op) × (inputs : List ℕ) × ReachedBy items roots steps m × HoldsExpression items m op inputs × Among inputs n

-- the roots reach the node
pub record IsReached (items : List AExpr) (roots : List ℕ) (n : ℕ) : Type 0 where
  pub steps : ℕ
  pub path : ReachedBy items roots steps n

-- the roots reach the node, or it was added
abbrev pub Near : List AExpr → List ℕ → ℕ → Type 0
Near start roots n = (length start ≤ n) ⊎ IsReached start roots n

-- the inputs of such nodes are such nodes
abbrev pub IsClosed : List AExpr → List ℕ → List AExpr → Type 0
IsClosed start roots items = (n : ℕ) (op : Op) (inputs : List ℕ) → Near start roots n → HoldsExpression items n op inputs → AllByRecursion (Near start roots) inputs

-- the nodes of a tree, in order: as often as each stands there
abbrev mutual
  pub HasNodes : List AExpr → ℕ → Expression → List ℕ → Type 0
  HasNodes items n (node op children) ns =
      (inputs : List ℕ) × (below : List ℕ) × HoldsExpression items n op inputs × (ns ≡ n ∷ below) × HaveNodes items inputs children below

  pub HaveNodes : List AExpr → List ℕ → Trees Op → List ℕ → Type 0
  HaveNodes items [] no_more ns = ns ≡ []
  HaveNodes items (n ∷ rest) (more t ts) ns =
      (front : List ℕ) × (back : List ℕ) × (ns ≡ front ++ back) × HasNodes items n t front × HaveNodes items rest ts back
  HaveNodes items [] (more t ts) ns = ⊥
  HaveNodes items (n ∷ rest) no_more ns = ⊥

-- none of these stands there twice
abbrev pub AreOnce : List ℕ → Type 0
AreOnce [] = Unit
AreOnce (n ∷ ns) = (Among ns n → ⊥) × AreOnce ns

-- a node that leads to none twice in the one arena does so in the other
abbrev pub StaysOnce : List AExpr → List AExpr → ℕ → Type 0
StaysOnce old new n =
    (t : Expression) (ns : List ℕ) → HasNodes old n t ns → AreOnce ns → (u : Expression) × (ms : List ℕ) × HasNodes new n u ms × AreOnce ms

-- a node that stands for an operand leads to new nodes and to those of the operand alone, to none twice
abbrev pub IsMadeOnce : List AExpr → List AExpr → ℕ → ℕ → Type 0
IsMadeOnce old new input made =
    (t : Expression) (ns : List ℕ) → HasNodes old input t ns → AreOnce ns → (u : Expression) × (ms : List ℕ) × HasNodes new made u ms × AreOnce ms × ((m : ℕ) → Among ms m → Among ns m ⊎ (length old ≤ m))

-- several nodes that stand for operands, side by side, lead to such nodes alone, to none twice
abbrev pub AreMadeOnce : List AExpr → List AExpr → List ℕ → List ℕ → Type 0
AreMadeOnce old new inputs made =
    (ts : Trees Op) (ns : List ℕ) → HaveNodes old inputs ts ns → AreOnce ns → (us : Trees Op) × (ms : List ℕ) × HaveNodes new made us ms × AreOnce ms × ((m : ℕ) → Among ms m → Among ns m ⊎ (length old ≤ m))

-- a node leads to new nodes alone, to none twice
abbrev pub HasNewNodes : List AExpr → List AExpr → ℕ → Type 0
HasNewNodes old new made =
    (u : Expression) × (ms : List ℕ) × HasNodes new made u ms × AreOnce ms × ((m : ℕ) → Among ms m → length old ≤ m)

-- a new node leads to itself and to the nodes of the other
abbrev pub IsPutOnce : List AExpr → List AExpr → ℕ → ℕ → Type 0
IsPutOnce old new input made =
    (length old ≤ made) × ((t : Expression) (ns : List ℕ) → HasNodes old input t ns → (u : Expression) × HasNodes new made u (made ∷ ns))
