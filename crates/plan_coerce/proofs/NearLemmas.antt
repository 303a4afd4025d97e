-- Nodes that roots reach while coercion goes on: they were added, or the roots reached them before.
use Rattle.std.proofs.Common.{◌≡◌, ◌⊎◌, ℕ, zero, suc, ◌≤◌, Bool, List, [], ◌∷◌, ◌++◌, length, set, reverse, Option, Some, refl, sym, ap, ◌∙◌, subst, arith, inl, inr, ⊎_elim}
use Rattle.plan_types.specs.Schemas.{Columns}
use Rattle.plan_dsl.specs.Registry.{Registry}
use Rattle.plan_dsl.specs.Ops.{Op, Expression}
use Rattle.plan_dsl.specs.Trees.{node}
use Rattle.plan_arena.specs.declared.aexpr.AExpr.{AExpr}
use Rattle.plan_arena.specs.Denotation.{Denotes, DenotesTree}
use Rattle.plan_arena.specs.Layers.{layer}
use Rattle.plan_arena.specs.Items.{Grows, HoldsExpression}
use Rattle.plan_arena.proofs.DenotationLemmas.{same_or_other, some_same}
use Rattle.plan_arena.proofs.ItemLemmas.{expression_inputs, grown_held}
use Rattle.plan_arena.proofs.NumberLemmas.{all_joined, all_reversed, all_weaker}
use Rattle.plan_coerce.specs.Optimizer.{AreTrees, ReachesNear, StaysApart}
use Rattle.plan_coerce.specs.Reaching.{Among, IsClosed, IsReached, Near, ReachedBy}
use Rattle.plan_coerce.specs.Turns.{IsFound, IsPlaced, IsStopped, IsTurn, finds, places}
use Rattle.plan_coerce.proofs.OnceLemmas.{among_back, among_front, among_split}
use Rattle.plan_coerce.proofs.ReachLemmas.{all_among, among_all, held_unwritten, not_near, reached_near, root_near}
use Rattle.plan_coerce.proofs.TurnLemmas.{found_grows, inputs_first, stopped_elsewhere, stopped_finite, top_first, turn_stopped}

-- ---- paths

-- what is reached from nodes that are reached is reached
from_reached : (items : List AExpr) (tops tops' : List ℕ) → ((m : ℕ) → Among tops m → IsReached items tops' m) → (steps n : ℕ) → ReachedBy items tops steps n → IsReached items tops' n
from_reached items tops tops' first zero n path = first n path
from_reached items tops tops' first (suc steps) n path =
    let r = from_reached items tops tops' first steps path.0 path.3 in
    record { steps = suc r.steps; path = (path.0, path.1, path.2, r.path, path.4, path.5) }

pub reached_from : (items : List AExpr) (tops tops' : List ℕ) → ((m : ℕ) → Among tops m → IsReached items tops' m) → (n : ℕ) → IsReached items tops n → IsReached items tops' n
reached_from items tops tops' first n r = from_reached items tops tops' first r.steps n r.path

pub at_once : (items : List AExpr) (tops : List ℕ) (n : ℕ) → Among tops n → IsReached items tops n
at_once items tops n a = record { steps = zero; path = a }

-- nodes that are reached from trees denote trees
reached_trees : (items : List AExpr) (tops : List ℕ) → AreTrees items tops → (steps n : ℕ) → ReachedBy items tops steps n → DenotesTree (HoldsExpression items) n
reached_trees items tops all zero n path = among_all (DenotesTree (HoldsExpression items)) tops n all path
reached_trees items tops all (suc steps) n path =
    let below = expression_inputs items path.0 path.1 path.2 path.4 (reached_trees items tops all steps path.0 path.3) in
    (among_all (λ m. DenotesTree (HoldsExpression items) m × _) path.2 n below path.5).0

-- an item that a tree's node holds after others were added was there before
held_earlier : (items items' : List AExpr) → Grows items items' → (n : ℕ) (op : Op) (inputs : List ℕ) → DenotesTree (HoldsExpression items) n → HoldsExpression items' n op inputs → HoldsExpression items n op inputs
held_earlier items items' g n op inputs t held = held_of t.tree t.denotes where
  held_of : (tree : Expression) → Denotes (HoldsExpression items) n tree → HoldsExpression items n op inputs
  held_of (node o ts) d = d.1 ∙ ap Some (some_same _ (layer o d.0) (layer op inputs) (grown_held items items' g n o d.0 d.1) held)

-- where the arena has only grown, the same is reached
pub grown_path : (items items' : List AExpr) (tops : List ℕ) → AreTrees items tops → Grows items items' → (steps n : ℕ) → ReachedBy items' tops steps n → ReachedBy items tops steps n
grown_path items items' tops all g zero n path = path
grown_path items items' tops all g (suc steps) n path =
    let before = grown_path items items' tops all g steps path.0 path.3 in
    (path.0, path.1, path.2, before, held_earlier items items' g path.0 path.1 path.2 (reached_trees items tops all steps path.0 before) path.4, path.5)

-- where an item was put in place too, the same is reached, or it is reached from there
module _ (items grown : List AExpr) (at : ℕ) (item : AExpr) (tops : List ℕ) (all : AreTrees items tops) (g : Grows items grown) where
  pub written_path : (steps n : ℕ) → ReachedBy (set grown at item) tops steps n → IsReached items tops n ⊎ (IsReached items tops at × IsReached (set grown at item) (at ∷ []) n)
  written_path zero n path = inl (at_once items tops n path)
  written_path (suc steps) n path = ⊎_elim
      (λ r. ⊎_elim
      (λ e. inr (subst (IsReached items tops) e r, record { steps = suc zero; path = (path.0, path.1, path.2, inl e, path.4, path.5) }))
      (λ other.
      let there = held_earlier items grown g path.0 path.1 path.2 (reached_trees items tops all r.steps path.0 r.path) (held_unwritten grown at item path.0 path.1 path.2 other path.4) in
      inl (record { steps = suc r.steps; path = (path.0, path.1, path.2, r.path, there, path.5) }))
      (same_or_other path.0 at))
      (λ r. inr (r.0, record { steps = suc r.1.steps; path = (path.0, path.1, path.2, r.1.path, path.4, path.5) }))
      (written_path steps path.0 path.3)

-- so a node reaches no more of what was there
pub reach_kept : (is_settled : Expression → Bool) (measure : Expression → ℕ) (related : Expression → Expression → Type 0) (turns : Option ℕ) (limit : ℕ) → turns ≡ Some limit → (registry : Registry) (schema : Columns) (items items' : List AExpr) (at : ℕ) → IsStopped is_settled measure related turns registry schema items items' at → (n x : ℕ) → DenotesTree (HoldsExpression items) n → IsReached items' (n ∷ []) x → (length items ≤ x) ⊎ IsReached items (n ∷ []) x
reach_kept is_settled measure related turns limit is registry schema items items' at s n x tree r = ⊎_elim
    (λ g. inr (record { steps = r.steps; path = grown_path items items' (n ∷ []) (tree, tt) g r.steps x r.path }))
    (λ p. ⊎_elim
    (λ old. inr old)
    (λ now. ⊎_elim
    (λ le. inl le)
    (λ under. inr (reached_from items (at ∷ []) (n ∷ []) (λ m a. ⊎_elim (λ e. subst (IsReached items (n ∷ [])) (sym e) now.0) (λ b. absurd b) a) x under))
    (reached_near items (at ∷ []) (set p.grown at p.item) (at ∷ []) x (subst (IsClosed items (at ∷ [])) p.is (p.reaches limit is)) (root_near items at, tt) now.1))
    (written_path items p.grown at p.item (n ∷ []) (tree, tt) p.grows r.steps x (subst (λ l. ReachedBy l (n ∷ []) r.steps x) p.is r.path)))
    s

-- ---- the work so far

-- what the roots and what waits reach was added, or the roots reached it before; other items stay
pub record Keeping (start : List AExpr) (roots : List ℕ) (items : List AExpr) (tops : List ℕ) : Type 0 where
  pub near : (n : ℕ) → IsReached items (roots ++ tops) n → Near start roots n
  pub apart : StaysApart start items roots

pub keeping_start : (items : List AExpr) (roots : List ℕ) → Keeping items roots items (reverse roots)
keeping_start items roots = record {
  near = λ n r. inr (reached_from items (roots ++ reverse roots) roots (λ m a. at_once items roots m (⊎_elim (λ b. b) (λ b. among_turned roots m b) (among_split roots (reverse roots) m a))) n r);
  apart = λ n op inputs away held. held;
} where
  among_turned : (ns : List ℕ) (m : ℕ) → Among (reverse ns) m → Among ns m
  among_turned ns m b = among_all (Among ns) (reverse ns) m (all_reversed (Among ns) ns (all_among (Among ns) ns (λ k a. a))) b

-- what is at the top is such a node
pub here_near : {start : List AExpr} {roots : List ℕ} {items : List AExpr} {at : ℕ} {rest : List ℕ} → Keeping start roots items (at ∷ rest) → Near start roots at
here_near {start = start} {roots = roots} {items = items} {at = at} {rest = rest} k = k.near at (at_once items (roots ++ (at ∷ rest)) at (among_back roots (at ∷ rest) at (inl refl)))

pub keeping_end : (start : List AExpr) (roots : List ℕ) (items : List AExpr) (tops : List ℕ) → Keeping start roots items tops → ReachesNear start items roots
keeping_end start roots items tops k n r = k.near n (reached_from items roots (roots ++ tops) (λ m a. at_once items (roots ++ tops) m (among_front roots tops m a)) n r)

module _ (is_settled : Expression → Bool) (measure : Expression → ℕ) (related : Expression → Expression → Type 0) (turns : Option ℕ) (limit : ℕ) (is : turns ≡ Some limit) (registry : Registry) (schema : Columns) (start items items' : List AExpr) (at : ℕ) (rest roots : List ℕ) (longer : length start ≤ length items) (trees : AreTrees items (roots ++ (at ∷ rest))) (k : Keeping start roots items (at ∷ rest)) where
  -- the items that stay
  pub stops_apart : IsStopped is_settled measure related turns registry schema items items' at → StaysApart start items' roots
  stops_apart s n op inputs away held =
      stopped_elsewhere is_settled measure related turns registry schema items items' at s n op inputs (not_near start roots at n op inputs (here_near k) away held) (k.apart n op inputs away held)

  -- what is reached
  stops_near : IsStopped is_settled measure related turns registry schema items items' at → (n : ℕ) → IsReached items' (roots ++ (at ∷ rest)) n → Near start roots n
  stops_near s n r = ⊎_elim
      (λ g. k.near n (record { steps = r.steps; path = grown_path items items' (roots ++ (at ∷ rest)) trees g r.steps n r.path }))
      (λ p.
      let path = subst (λ l. ReachedBy l (roots ++ (at ∷ rest)) r.steps n) p.is r.path in
      ⊎_elim
      (λ old. k.near n old)
      (λ now.
      let closed = subst (IsClosed items (at ∷ [])) p.is (p.reaches limit is) in
      ⊎_elim
      (λ le. inl (omega (arith, le, longer)))
      (λ under. k.near n (reached_from items (at ∷ []) (roots ++ (at ∷ rest)) (λ m a. at_once items (roots ++ (at ∷ rest)) m (among_back roots (at ∷ rest) m (⊎_elim (λ e. inl e) (λ b. absurd b) a))) n under))
      (reached_near items (at ∷ []) (set p.grown at p.item) (at ∷ []) n closed (root_near items at, tt) now.1))
      (written_path items p.grown at p.item (roots ++ (at ∷ rest)) trees p.grows r.steps n path))
      s

  pub keeping_places : IsPlaced is_settled measure related turns registry schema items items' at → Keeping start roots items' (at ∷ rest)
  keeping_places p = record { near = stops_near (inr p); apart = stops_apart (inr p) }

  pub keeping_stops : IsStopped is_settled measure related turns registry schema items items' at → ReachesNear start items' roots
  keeping_stops s n r = stops_near s n (reached_from items' roots (roots ++ (at ∷ rest)) (λ m a. at_once items' (roots ++ (at ∷ rest)) m (among_front roots (at ∷ rest) m a)) n r)

  pub keeping_finds : (op : Op) (inputs : List ℕ) → IsFound is_settled items items' at → HoldsExpression items' at op inputs → Keeping start roots items' (inputs ++ rest)
  keeping_finds op inputs found held =
      let tops = roots ++ (at ∷ rest) in
      let first : (m : ℕ) → Among (roots ++ (inputs ++ rest)) m → IsReached items' tops m = λ m a. ⊎_elim
      (λ b. at_once items' tops m (among_front roots (at ∷ rest) m b))
      (λ b. ⊎_elim
      (λ c. record { steps = suc zero; path = (at, op, inputs, among_back roots (at ∷ rest) at (inl refl), held, c) })
      (λ c. at_once items' tops m (among_back roots (at ∷ rest) m (inr c)))
      (among_split inputs rest m b))
      (among_split roots (inputs ++ rest) m a) in
      record { near = λ n r. stops_near (inl (found_grows found)) n (reached_from items' (roots ++ (inputs ++ rest)) tops first n r); apart = stops_apart (inl (found_grows found)) }

-- ---- one turn

held_somehow : (items items' : List AExpr) → Grows items items' → (at : ℕ) → DenotesTree (HoldsExpression items) at → (op : Op) × (inputs : List ℕ) × HoldsExpression items' at op inputs
held_somehow items items' g at t = of_tree t.tree t.denotes where
  of_tree : (tree : Expression) → Denotes (HoldsExpression items) at tree → (op : Op) × (inputs : List ℕ) × HoldsExpression items' at op inputs
  of_tree (node op ts) d = (op, d.0, grown_held items items' g at op d.0 d.1)

module _ (is_settled : Expression → Bool) (measure : Expression → ℕ) (related : Expression → Expression → Type 0) (turns : Option ℕ) (registry : Registry) (schema : Columns) (items items' : List AExpr) (at : ℕ) (rest stack : List ℕ) (before steps : ℕ) (turn : IsTurn is_settled measure related turns registry schema items items' at rest stack before steps) where
  -- what waits denotes trees
  pub waiting_turn : AreTrees items (reverse (rest ++ at ∷ [])) → AreTrees items' (reverse stack)
  waiting_turn all =
      let q = subst (AreTrees items) (top_first rest at) all in
      let finite = stopped_finite is_settled measure related turns registry schema items items' at q.0 (turn_stopped is_settled measure related turns registry schema items items' at rest stack before steps turn) in
      elim turn as (λ _. AreTrees items' (reverse stack)) [
        | places placed over counted ↦ subst (AreTrees items') (sym (ap reverse over ∙ top_first rest at)) (all_weaker (DenotesTree (HoldsExpression items)) (DenotesTree (HoldsExpression items')) finite (at ∷ reverse rest) q)
        | finds found pushed counted ↦
            let h = held_somehow items items' (found_grows found) at q.0 in
            let below = all_weaker (λ m. DenotesTree (HoldsExpression items') m × _) (DenotesTree (HoldsExpression items')) (λ m d. d.0) h.1 (expression_inputs items' at h.0 h.1 h.2 (finite at q.0)) in
            subst (AreTrees items') (sym (ap reverse (pushed h.0 h.1 h.2) ∙ inputs_first rest h.1)) (all_joined (DenotesTree (HoldsExpression items')) h.1 (reverse rest) below (all_weaker (DenotesTree (HoldsExpression items)) (DenotesTree (HoldsExpression items')) finite (reverse rest) q.1))
      ]

  pub keeping_turn : (limit : ℕ) → turns ≡ Some limit → (start : List AExpr) (roots : List ℕ) → length start ≤ length items → AreTrees items roots → AreTrees items (reverse (rest ++ at ∷ [])) → Keeping start roots items (reverse (rest ++ at ∷ [])) → Keeping start roots items' (reverse stack)
  keeping_turn limit is start roots longer rooted all k =
      let q = subst (AreTrees items) (top_first rest at) all in
      let c = subst (Keeping start roots items) (top_first rest at) k in
      let trees = all_joined (DenotesTree (HoldsExpression items)) roots (at ∷ reverse rest) rooted q in
      elim turn as (λ _. Keeping start roots items' (reverse stack)) [
        | places placed over counted ↦ subst (Keeping start roots items') (sym (ap reverse over ∙ top_first rest at)) (keeping_places is_settled measure related turns limit is registry schema start items items' at (reverse rest) roots longer trees c placed)
        | finds found pushed counted ↦
            let h = held_somehow items items' (found_grows found) at q.0 in
            subst (Keeping start roots items') (sym (ap reverse (pushed h.0 h.1 h.2) ∙ inputs_first rest h.1)) (keeping_finds is_settled measure related turns limit is registry schema start items items' at (reverse rest) roots longer trees c h.0 h.1 found h.2)
      ]
