use Rattle.std.proofs.Common.{◌≡◌, ℕ, zero, suc, [], ◌∷◌, codes, slice_get, map, refl, sym, subst, arith, inl, inr, ⊎_elim}
use Rattle.plan_dsl.specs.declared.operator.Operator.TheVariants.{Plus}
use Rattle.plan_dsl.specs.Ops.{ColumnOp, BinaryOp}
use Rattle.plan_arena.specs.Items.{HoldsExpression, expression_layer}
use Rattle.plan_arena.proofs.DenotationLemmas.{some_same}
use Rattle.plan_arena.proofs.ItemLemmas.{layer_inputs}
use Rattle.plan_infer.specs.Samples.{sum_items}
use Rattle.plan_coerce.specs.Reaching.{Among, ReachedBy}
use Rattle.plan_coerce.proofs.examples.coercions.reached_nodes.Goals as goal

-- the first column leads nowhere
first_alone : (steps n : ℕ) → ReachedBy sum_items (0 ∷ []) steps n → n ≡ 0
first_alone zero n path = ⊎_elim (λ e. e) (λ none. absurd none) path
first_alone (suc steps) n path =
    let here = subst (λ m. HoldsExpression sum_items m path.1 path.2) (first_alone steps path.0 path.3) path.4 in
    let none = layer_inputs (ColumnOp (codes "a")) path.1 [] path.2 (some_same (slice_get (map expression_layer sum_items) 0) _ _ refl here) in
    absurd (subst (λ ns. Among ns n) (sym none) path.5)

pub returns-clause-root : goal.returns-clause-root
returns-clause-root c = record { steps = 0; path = inl refl }

pub returns-clause-input : goal.returns-clause-input
returns-clause-input c = record { steps = 1; path = (2, BinaryOp Plus, 0 ∷ 1 ∷ [], inl refl, refl, inr (inl refl)) }

pub returns-clause-other : goal.returns-clause-other
returns-clause-other c = λ r. absurd (omega (arith, first_alone r.steps 1 r.path))

pub returns-clause-added : goal.returns-clause-added
returns-clause-added c = inl (omega arith)

pub returns-clause-not_near : goal.returns-clause-not_near
returns-clause-not_near c = λ near. ⊎_elim (λ le. absurd (omega (arith, le))) (λ r. absurd (omega (arith, first_alone r.steps 1 r.path))) near
