-- Operators, by their tables: what operands of any types are taken to, that they can become it, that what was taken stays,
-- and that over values that fit the types an operator gives values of its own.
use Rattle.std.proofs.Common.{◌≡◌, sym, true, not, List, [], ◌∷◌, Option, Some, None, Ok, Err, refl, ap, ◌∙◌, subst}
use Rattle.std.specs.Prelude.{ℤ, ◌*ℤ◌, bit_and, bit_or, bit_xor, int_div, ◌-ℤ◌}
use Rattle.plan_types.specs.Types.{Ty, Truth, is_known}
use Rattle.plan_types.specs.Values.{TruthValue, same_value}
use Rattle.plan_types.specs.declared.error.ErrorKind.TheVariants.{InvalidOperation}
use Rattle.plan_types.specs.CommonTypes.{type_beside}
use Rattle.plan_types.specs.Casts.{can_cast}
use Rattle.plan_types.proofs.CommonLemmas.{beside_known, beside_same, own_beside, own_has}
use Rattle.plan_dsl.specs.declared.operator.Operator.{Operator}
use Rattle.plan_dsl.specs.declared.operator.Operator.TheVariants.{Eq, EqValidity, NotEq, NotEqValidity, Lt, LtEq, Gt, GtEq, Plus, Minus, Multiply, Divide, FloorDivide, Modulus, And, Or, Xor, LogicalAnd, LogicalOr}
use Rattle.plan_dsl.specs.Operators.{both_true, compared, counted, either_true, floored, is_less, of_numbers, one_true, operator_value, plus, rest_of, unless_zero}
use Rattle.plan_dsl.specs.Strictness.{CanBecome}
use Rattle.plan_dsl.specs.OperatorTypes.{Taken, pair_to, text_types, time_types, arithmetic_types, number_types, pair_types, with_types, operator_types}
use Rattle.plan_dsl.proofs.TakingLemmas.{Becomes, TakesPair}
use Rattle.plan_dsl.proofs.ComparisonLemmas.{compared_gives, equal_takes, order_takes}
use Rattle.plan_dsl.proofs.BitLemmas.{both_keeps, either_keeps, one_keeps, truth_takes, bits_take}
use Rattle.plan_dsl.proofs.ArithmeticLemmas.{of_times, of_texts, of_counts, arithmetic_row, joined_takes, number_sum_takes, other_number_types, numbers_take}
use Rattle.plan_dsl.proofs.TimeLemmas.{time_sum_takes, time_difference_takes, time_product_takes}

sum_takes : (a b : Ty) (taken : Taken) → is_known a ≡ true → is_known b ≡ true → arithmetic_types Plus a b ≡ Ok taken → TakesPair (arithmetic_types Plus) (λ from. plus) a b taken
sum_takes a b taken k l h =
    elim (arithmetic_row Plus a b taken k l h) [ of_times times ↦ time_sum_takes a b taken times | of_texts texts ↦ joined_takes a b taken texts | of_counts p q counts ↦ number_sum_takes a b taken k l p q counts ]

-- an operator of numbers that joins no texts, and whose times are taken by its rows
numbers_or_times_take : (operator : Operator) (make : Ty → ℤ → ℤ → Option ℤ) (a b : Ty) (taken : Taken) → (text_types operator a b ≡ Err InvalidOperation) → ((common : Option Ty) → number_types operator common ≡ other_number_types common) → (time_types operator a b ≡ Ok taken → TakesPair (arithmetic_types operator) (λ from. of_numbers (make from)) a b taken) → is_known a ≡ true → is_known b ≡ true → arithmetic_types operator a b ≡ Ok taken → TakesPair (arithmetic_types operator) (λ from. of_numbers (make from)) a b taken
numbers_or_times_take operator make a b taken no_texts numbers times k l h =
    elim (arithmetic_row operator a b taken k l h) [ of_times is ↦ times is | of_texts is ↦ cc | of_counts p q is ↦ numbers_take operator make a b taken numbers k l p q is ]

-- each operator's table
pub pair_takes : (operator : Operator) (a b : Ty) (taken : Taken) → is_known a ≡ true → is_known b ≡ true → pair_types operator a b ≡ Ok taken → TakesPair (pair_types operator) (operator_value operator) a b taken
pair_takes Eq a b taken k l h = equal_takes (compared same_value) a b taken (compared_gives same_value) k l h
pair_takes EqValidity a b taken k l h = equal_takes (λ x y. TruthValue (same_value x y)) a b taken (λ x y. refl) k l h
pair_takes NotEq a b taken k l h = equal_takes (compared (λ x y. not (same_value x y))) a b taken (compared_gives (λ x y. not (same_value x y))) k l h
pair_takes NotEqValidity a b taken k l h = equal_takes (λ x y. TruthValue (not (same_value x y))) a b taken (λ x y. refl) k l h
pair_takes Lt a b taken k l h = order_takes is_less a b taken k l h
pair_takes LtEq a b taken k l h = order_takes (λ x y. not (is_less y x)) a b taken k l h
pair_takes Gt a b taken k l h = order_takes (λ x y. is_less y x) a b taken k l h
pair_takes GtEq a b taken k l h = order_takes (λ x y. not (is_less x y)) a b taken k l h
pair_takes Plus a b taken k l h = sum_takes a b taken k l h
pair_takes Minus a b taken k l h = numbers_or_times_take Minus (λ from x y. Some (counted from (x -ℤ y))) a b taken refl (λ common. refl) (time_difference_takes a b taken) k l h
pair_takes Multiply a b taken k l h = numbers_or_times_take Multiply (λ from x y. Some (x *ℤ y)) a b taken refl (λ common. refl) (time_product_takes a b taken) k l h
pair_takes Divide a b taken k l h = numbers_or_times_take Divide (λ from x y. unless_zero y (int_div x y)) a b taken refl (λ common. refl) (λ none. cc) k l h
pair_takes FloorDivide a b taken k l h = numbers_or_times_take FloorDivide (λ from x y. unless_zero y (floored x y)) a b taken refl (λ common. refl) (λ none. cc) k l h
pair_takes Modulus a b taken k l h = numbers_or_times_take Modulus (λ from x y. unless_zero y (rest_of x y)) a b taken refl (λ common. refl) (λ none. cc) k l h
pair_takes And a b taken k l h = bits_take bit_and both_true a b taken both_keeps k l h
pair_takes Or a b taken k l h = bits_take bit_or either_true a b taken either_keeps k l h
pair_takes Xor a b taken k l h = bits_take bit_xor one_true a b taken one_keeps k l h
pair_takes LogicalAnd a b taken k l h = truth_takes both_true a b taken (both_keeps Truth) h
pair_takes LogicalOr a b taken k l h = truth_takes either_true a b taken (either_keeps Truth) h

-- ---- operands, of which a number without a type first gets one
pub record TakesOperands (operator : Operator) (left right : Ty) (taken : Taken) : Type 0 where
  pub left_own : Ty
  pub left_is : type_beside left right ≡ Some left_own
  pub right_own : Ty
  pub right_is : type_beside right left ≡ Some right_own
  pub pair : TakesPair (pair_types operator) (operator_value operator) left_own right_own taken

pub operands_taken : (operator : Operator) (left right : Ty) (taken : Taken) → operator_types operator (left ∷ right ∷ []) ≡ Ok taken → TakesOperands operator left right taken
operands_taken operator left right taken h =
    elim (type_beside left right) as (λ l. type_beside left right ≡ l → with_types l (type_beside right left) (pair_types operator) ≡ Ok taken → TakesOperands operator left right taken) [
      | None ↦ λ e h. cc
      | Some a ↦ λ e h. elim (type_beside right left) as (λ r. type_beside right left ≡ r → with_types (Some a) r (pair_types operator) ≡ Ok taken → TakesOperands operator left right taken) [
        | None ↦ λ f h. cc
        | Some b ↦ λ f h. record { left_own = a; left_is = e; right_own = b; right_is = f; pair = pair_takes operator a b taken (beside_known left right a e) (beside_known right left b f) h }
      ] refl h
    ] refl h

-- the result is a type of columns
pub pair_known : (operator : Operator) (left right : Ty) (taken : Taken) → operator_types operator (left ∷ right ∷ []) ≡ Ok taken → is_known taken.type ≡ true
pair_known operator left right taken h =
    let pair = (operands_taken operator left right taken h).pair in subst (λ (t : Taken). is_known t.type ≡ true) pair.is pair.known

-- operands that were taken stay when they are taken again
pub pair_stays : (operator : Operator) (a b : Ty) (taken : Taken) (pair : TakesPair (pair_types operator) (operator_value operator) a b taken) → operator_types operator (pair.left ∷ pair.right ∷ []) ≡ Ok (pair_to pair.left pair.right pair.type)
pair_stays operator a b taken pair =
    ap (λ o. with_types o (type_beside pair.right pair.left) (pair_types operator)) (own_beside pair.left pair.right pair.left_becomes.known)
    ∙ ap (λ o. with_types (Some pair.left) o (pair_types operator)) (own_beside pair.right pair.left pair.right_becomes.known)
    ∙ pair.stays

-- and an operand can become what it is taken to
own_becomes : (operand other own target : Ty) → type_beside operand other ≡ Some own → Becomes own target → CanBecome operand target
own_becomes operand other own target is becomes = record {
  known = becomes.known;
  casts = λ apart. subst (λ t. can_cast t target ≡ true) (beside_same operand other own is apart) becomes.casts;
  has = λ number e lacks. let has = own_has number other own (ap (λ t. type_beside t other) (sym e) ∙ is) in let there = becomes.has number has.2 has.0 in cc;
}

pub pair_becomes : (operator : Operator) (left right : Ty) (taken : Taken) (t : TakesOperands operator left right taken) → CanBecome left t.pair.left × CanBecome right t.pair.right
pair_becomes operator left right taken t =
    (own_becomes left right t.left_own t.pair.left t.left_is t.pair.left_becomes, own_becomes right left t.right_own t.pair.right t.right_is t.pair.right_becomes)

head_is : (x y : Ty) (xs ys : List Ty) → (x ∷ xs) ≡ (y ∷ ys) → x ≡ y
head_is x y xs ys e = cc

second_is : (x y z w : Ty) → (x ∷ y ∷ []) ≡ (z ∷ w ∷ []) → y ≡ w
second_is x y z w e = cc

pub left_becomes : (operator : Operator) (a b c d result : Ty) → operator_types operator (a ∷ b ∷ []) ≡ Ok (pair_to c d result) → CanBecome a c
left_becomes operator a b c d result h =
    let t = operands_taken operator a b (pair_to c d result) h in
    subst (CanBecome a) (head_is t.pair.left c _ _ (ap (λ (t : Taken). t.operands) t.pair.is)) (pair_becomes operator a b (pair_to c d result) t).0

pub right_becomes : (operator : Operator) (a b c d result : Ty) → operator_types operator (a ∷ b ∷ []) ≡ Ok (pair_to c d result) → CanBecome b d
right_becomes operator a b c d result h =
    let t = operands_taken operator a b (pair_to c d result) h in
    subst (CanBecome b) (second_is t.pair.left t.pair.right c d (ap (λ (t : Taken). t.operands) t.pair.is)) (pair_becomes operator a b (pair_to c d result) t).1
