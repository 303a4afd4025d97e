use Rattle.std.proofs.Common.{◌≡◌, ℕ, List, [], ◌∷◌, ◌++◌, codes, true, inl, inr, refl, ap, subst, reverse, ⊎_elim, arith}
use Rattle.plan_types.specs.declared.dtype.DataType.TheVariants as dtype
use Rattle.plan_types.specs.Schemas.{Name}
use Rattle.plan_dsl.specs.declared.operator.Operator.TheVariants.{Plus}
use Rattle.plan_dsl.specs.Names.{column_label, label_of}
use Rattle.plan_dsl.specs.Ops.{Op, BinaryOp}
use Rattle.plan_arena.specs.declared.aexpr.AExpr.{AExpr}
use Rattle.plan_arena.specs.declared.aexpr.AExpr.TheVariants.{Column}
use Rattle.plan_arena.specs.Items.{Grows, HoldsExpression}
use Rattle.plan_infer.specs.Samples.{two_columns, int8, of_type, a, b, sum_items, a_items}
use Rattle.plan_coerce.specs.Rules.{is_settled}
use Rattle.plan_coerce.specs.Samples.{cast_of, strict_items, strict_sum, IsSumFound, IsSumPlaced, IsSumTurn}
use Rattle.plan_coerce.specs.Turns.{places, finds}
use Rattle.plan_coerce.proofs.ExampleLemmas.{one_denoted, other_label, other_name, strict_denotes, sum_not_found, sum_not_left, sum_placed}
use Rattle.plan_coerce.proofs.examples.optimizer.turns_at_sums.Goals as goal

pub returns-clause-places : goal.returns-clause-places
returns-clause-places c = places sum_placed refl refl

strict_found : IsSumFound strict_items strict_items 2
strict_found = record {
  same = refl;
  is = λ t d. subst (λ u. is_settled [] two_columns u ≡ true) (one_denoted strict_items 2 strict_sum t strict_denotes d) refl;
}

strict_inputs : (op : Op) (inputs : List ℕ) → HoldsExpression strict_items 2 op inputs → 3 ∷ 1 ∷ [] ≡ inputs
strict_inputs op inputs h = cc

pub returns-clause-finds : goal.returns-clause-finds
returns-clause-finds c = finds strict_found (λ op inputs h. ap (λ ns. (7 ∷ []) ++ reverse ns) (strict_inputs op inputs h)) refl

passed_over : IsSumTurn sum_items sum_items 2 [] (1 ∷ 0 ∷ []) 5 6 → ⊥
passed_over (places placed stack steps) = sum_not_left placed
passed_over (finds found stack steps) = sum_not_found sum_items found

pub returns-clause-passed_over : goal.returns-clause-passed_over
returns-clause-passed_over c = passed_over

first_same : (m n : ℕ) (ms ns : List ℕ) → m ∷ ms ≡ n ∷ ns → m ≡ n
first_same m n ms ns e = cc

left_out : IsSumTurn strict_items strict_items 2 [] (3 ∷ []) 5 6 → ⊥
left_out (places placed stack steps) = omega (arith, first_same 3 2 [] [] stack)
left_out (finds found stack steps) = omega (arith, first_same 3 1 [] (3 ∷ []) (stack (BinaryOp Plus) (3 ∷ 1 ∷ []) refl))

pub returns-clause-input_left_out : goal.returns-clause-input_left_out
returns-clause-input_left_out c = left_out

pub returns-clause-stopped_behind_a_cast : goal.returns-clause-stopped_behind_a_cast
returns-clause-stopped_behind_a_cast c = inl (record { added = cast_of 0 dtype.Int32 ∷ []; longer = refl })

pub returns-clause-stopped_in_place : goal.returns-clause-stopped_in_place
returns-clause-stopped_in_place c = inr sum_placed

column_name : (m n : Name) (ms ns : List AExpr) → Column m ∷ ms ≡ Column n ∷ ns → m ≡ n
column_name m n ms ns e = cc

other_placed : IsSumPlaced a_items (Column (codes "b") ∷ []) 0 → ⊥
other_placed placed =
    let r = placed.answer a ([], refl, tt) in
    other_label (subst (λ t. label_of t ≡ column_label (codes "a")) (one_denoted (Column (codes "b") ∷ []) 0 r.tree b r.denotes ([], refl, tt)) (r.like (of_type int8) refl).same.name)

pub returns-clause-other_item : goal.returns-clause-other_item
returns-clause-other_item c = λ stopped.
    ⊎_elim (λ (g : Grows a_items (Column (codes "b") ∷ [])). other_name (column_name (codes "b") (codes "a") [] g.added g.longer)) other_placed stopped
