use Rattle.std.proofs.Common.{◌≡◌, ℕ, zero, suc, List, [], ◌∷◌, codes, slice_get, Some, inl, inr, refl, ⊎_elim, arith}
use Rattle.plan_types.specs.Schemas.{Name}
use Rattle.plan_types.specs.declared.dtype.CastOptions.TheVariants.{NonStrict}
use Rattle.plan_dsl.specs.Ops.{Op, CastOp, ColumnOp}
use Rattle.plan_arena.specs.declared.aexpr.AExpr.TheVariants.{Column}
use Rattle.plan_arena.specs.Items.{HoldsExpression}
use Rattle.plan_infer.specs.Samples.{int32, a_items, columns_and, sum_items}
use Rattle.plan_coerce.specs.Reaching.{IsReached}
use Rattle.plan_coerce.specs.Samples.{strict_items}
use Rattle.plan_coerce.proofs.ExampleLemmas.{all_near_sum, near_sum, none_reached, other_name, reached_alone}
use Rattle.plan_coerce.proofs.examples.optimizer.arenas_that_change_near_roots.Goals as goal

no_item : {A : Type 0} (n : ℕ) (x : A) → slice_get [] n ≡ Some x → ⊥
no_item n x e = cc

apart : (n : ℕ) (op : Op) (inputs : List ℕ) → ¬ (IsReached sum_items (2 ∷ []) n) → HoldsExpression sum_items n op inputs → HoldsExpression strict_items n op inputs
apart zero op inputs absent h = h
apart (suc zero) op inputs absent h = h
apart (suc (suc zero)) op inputs absent h = absurd (absent (record { steps = 0; path = inl refl }))
apart (suc (suc (suc n))) op inputs absent h = absurd (no_item n _ h)

pub returns-clause-cast : goal.returns-clause-cast
returns-clause-cast c = apart

root_alone : (n : ℕ) (op : Op) (inputs : List ℕ) → ¬ (IsReached a_items (0 ∷ []) n) → HoldsExpression a_items n op inputs → HoldsExpression (Column (codes "b") ∷ []) n op inputs
root_alone zero op inputs absent h = absurd (absent (record { steps = 0; path = inl refl }))
root_alone (suc n) op inputs absent h = absurd (no_item n _ h)

pub returns-clause-root : goal.returns-clause-root
returns-clause-root c = root_alone

column_name : (m n : Name) → HoldsExpression (Column m ∷ []) 0 (ColumnOp n) [] → m ≡ n
column_name m n e = cc

pub returns-clause-no_root : goal.returns-clause-no_root
returns-clause-no_root c = λ stays.
    other_name (column_name (codes "b") (codes "a") (stays 0 (ColumnOp (codes "a")) [] (λ r. none_reached a_items r.steps 0 r.path) refl))

pub returns-clause-new_cast : goal.returns-clause-new_cast
returns-clause-new_cast c = λ n r. near_sum n

pub returns-clause-other_column : goal.returns-clause-other_column
returns-clause-other_column c = λ near.
    ⊎_elim (λ le. absurd (omega (arith, le)))
    (λ r. absurd (omega (arith, reached_alone (columns_and []) (ColumnOp (codes "a")) refl r.steps 1 r.path)))
    (near 1 (record { steps = 1; path = (0, CastOp int32 NonStrict, 1 ∷ [], inl refl, refl, inl refl) }))

pub returns-clause-closed : goal.returns-clause-closed
returns-clause-closed c = λ n op inputs near h. all_near_sum inputs

pub returns-clause-not_closed : goal.returns-clause-not_closed
returns-clause-not_closed c = λ closed.
    let all = closed 0 (CastOp int32 NonStrict) (1 ∷ []) (inr (record { steps = 0; path = inl refl })) refl in
    ⊎_elim (λ le. absurd (omega (arith, le)))
    (λ r. absurd (omega (arith, reached_alone (columns_and []) (ColumnOp (codes "a")) refl r.steps 1 r.path)))
    all.0
