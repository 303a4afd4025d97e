-- Roots that are added to an arena.
use Rattle.std.proofs.Common.{◌≡◌, ℕ, List, Result, Ok, IfOk, OnOk, subst}
use Rattle.plan_types.specs.declared.error.PlanError.{PlanError}
use Rattle.plan_dsl.specs.Ops.{Expression}
use Rattle.plan_arena.specs.declared.arena.Node.{Node}
use Rattle.plan_arena.specs.declared.aexpr.AExpr.{AExpr}
use Rattle.plan_arena.specs.Denotation.{Denotes, DenotesTree}
use Rattle.plan_arena.specs.Items.{Grows, HoldsExpression, HoldsFrom}
use Rattle.plan_arena.proofs.DenotationLemmas.{kept}
use Rattle.plan_arena.proofs.ItemLemmas.{any_node, grown_held}
use Rattle.plan_coerce.specs.Optimizer.{StaysFinite}

-- what holds of an answer that is Ok
pub of_ok : {A E : Type 0} (P : A → Type 0) (answer : Result A E) (x : A) → answer ≡ Ok x → IfOk answer P → P x
of_ok P answer x is ok = subst (λ a. IfOk a P) is ok

pub on_ok : {A E P : Type 0} (answer : Result A E) (x : A) → answer ≡ Ok x → OnOk answer P → P
on_ok {P = P} answer x is ok = subst (λ a. OnOk a P) is ok

pub finite_grown : (old new : List AExpr) → Grows old new → StaysFinite old new
finite_grown old new grows n t = record { tree = t.tree; denotes = kept (HoldsExpression old) (HoldsExpression new) (grown_held old new grows) n t.tree t.denotes }

pub tree_added : (first : ℕ) (items : List AExpr) (n : ℕ) (t : Expression) → Denotes (HoldsFrom first items) n t → DenotesTree (HoldsExpression items) n
tree_added first items n t d = record { tree = t; denotes = any_node first items n t d }

pub root_added : (first : ℕ) (items : List AExpr) (t : Expression) (answer : Result Node PlanError) (root : Node) → answer ≡ Ok root → IfOk answer (λ node. Denotes (HoldsFrom first items) node.0 t) → DenotesTree (HoldsExpression items) root.0
root_added first items t answer root is ok = tree_added first items root.0 t (of_ok (λ (node : Node). Denotes (HoldsFrom first items) node.0 t) answer root is ok)
