-- Operators for swapped operands: they take them to the same types, and give the same values and columns.
use Rattle.std.proofs.Common.{◌≡◌, ℕ, Bool, true, false, ◌&&◌, ◌||◌, not, cond, List, [], ◌∷◌, length, Option, Some, None, Result, Ok, Err, refl, sym, ap, ◌∙◌, subst, arith}
use Rattle.std.specs.Prelude.{pos, ◌==◌, bit_and, bit_or, bit_xor}
use Rattle.std.proofs.Math.Bool.{and_comm as both_turned, or_comm as either_turned}
use Rattle.std.proofs.lemmas.Bool.{eqb-true}
use Rattle.std.proofs.lemmas.Cmp.{int_eq_equiv, nat_list_eq_equiv}
use Rattle.std.proofs.lemmas.Nat.{and_comm, or_comm, xor_comm}
use Rattle.plan_types.specs.Types.{Ty, Truth, width_of}
use Rattle.plan_types.specs.Values.{Val, NullValue, TruthValue, IntValue, TextValue, ListValue, StructValue, Vals, no_value, with_value, same_value, same_values}
use Rattle.plan_types.specs.Supertypes.{supertype}
use Rattle.plan_types.specs.Casts.{low_bits, wrapped}
use Rattle.plan_types.specs.declared.error.ErrorKind.{ErrorKind}
use Rattle.plan_types.specs.declared.error.ErrorKind.TheVariants.{InvalidOperation}
use Rattle.plan_types.specs.CommonTypes.{type_beside}
use Rattle.plan_types.specs.Outcomes.{Done}
use Rattle.plan_types.proofs.SupertypeLemmas.{supertype_symmetric}
use Rattle.plan_dsl.specs.declared.operator.Operator.{Operator}
use Rattle.plan_dsl.specs.declared.operator.Operator.TheVariants.{Eq, EqValidity, NotEq, NotEqValidity, Lt, LtEq, Gt, GtEq, And, Or, Xor, LogicalAnd, LogicalOr}
use Rattle.plan_dsl.specs.Operators.{bitwise, both_true, compared, either_true, is_less, one_true, operator_value, swapped}
use Rattle.plan_dsl.specs.OperatorTypes.{Taken, pair_to, both_to, is_text_beside, comparison_types, has_parts, order_types, is_truth_or_null, truth_types, has_bits, bit_types, pair_types, with_types}
use Rattle.plan_dsl.specs.Kernels.{common_length, stretched, at_each, at_length, operator_values}
use Rattle.plan_dsl.specs.Laws.{SaysSwapped}
use Rattle.plan_dsl.proofs.SwappedNodeLemmas.{TakesSwapped, GivesSwapped, swapped_typing, swapped_meaning}
use Rattle.plan_dsl.proofs.TypingLemmas.{ok_where}
use Rattle.plan_dsl.proofs.TakingLemmas.{unless_so, both_is}

-- ---- values

truths_turned : (left right : Bool) → cond left right (not right) ≡ cond right left (not left)
truths_turned true true = refl
truths_turned true false = refl
truths_turned false true = refl
truths_turned false false = refl

mutual
  pub same_value_symmetric : (x y : Val) → same_value x y ≡ same_value y x
  same_value_symmetric NullValue NullValue = refl
  same_value_symmetric (TruthValue left) (TruthValue right) = truths_turned left right
  same_value_symmetric (IntValue left) (IntValue right) = int_eq_equiv.symm left right
  same_value_symmetric (TextValue left) (TextValue right) = nat_list_eq_equiv.symm left right
  same_value_symmetric (ListValue left) (ListValue right) = same_values_symmetric left right
  same_value_symmetric (StructValue left) (StructValue right) = same_values_symmetric left right
  same_value_symmetric _ _ = refl

  same_values_symmetric : (xs ys : Vals) → same_values xs ys ≡ same_values ys xs
  same_values_symmetric no_value no_value = refl
  same_values_symmetric no_value (with_value other others) = refl
  same_values_symmetric (with_value first rest) no_value = refl
  same_values_symmetric (with_value first rest) (with_value other others) =
      ap (λ b. b && same_values rest others) (same_value_symmetric first other) ∙ ap (λ b. same_value other first && b) (same_values_symmetric rest others)

compared_turned : (test other : Val → Val → Bool) → ((x y : Val) → other y x ≡ test x y) → (x y : Val) → compared other y x ≡ compared test x y
compared_turned test other same NullValue NullValue = refl
compared_turned test other same NullValue _ = refl
compared_turned test other same _ NullValue = refl
compared_turned test other same x y = ap TruthValue (same x y)

both_true_turned : (x y : Val) → both_true y x ≡ both_true x y
both_true_turned (TruthValue true) (TruthValue true) = refl
both_true_turned (TruthValue true) (TruthValue false) = refl
both_true_turned (TruthValue false) (TruthValue true) = refl
both_true_turned (TruthValue false) (TruthValue false) = refl
both_true_turned _ (TruthValue true) = refl
both_true_turned _ (TruthValue false) = refl
both_true_turned _ _ = refl

either_true_turned : (x y : Val) → either_true y x ≡ either_true x y
either_true_turned (TruthValue true) (TruthValue true) = refl
either_true_turned (TruthValue true) (TruthValue false) = refl
either_true_turned (TruthValue false) (TruthValue true) = refl
either_true_turned (TruthValue false) (TruthValue false) = refl
either_true_turned _ (TruthValue true) = refl
either_true_turned _ (TruthValue false) = refl
either_true_turned _ _ = refl

one_true_turned : (x y : Val) → one_true y x ≡ one_true x y
one_true_turned (TruthValue true) (TruthValue true) = refl
one_true_turned (TruthValue true) (TruthValue false) = refl
one_true_turned (TruthValue false) (TruthValue true) = refl
one_true_turned (TruthValue false) (TruthValue false) = refl
one_true_turned _ (TruthValue true) = refl
one_true_turned _ (TruthValue false) = refl
one_true_turned _ _ = refl

bitwise_turned : (bit : ℕ → ℕ → ℕ) (truths : Val → Val → Val) (type : Ty) → ((m n : ℕ) → bit m n ≡ bit n m) → ((x y : Val) → truths y x ≡ truths x y) → (x y : Val) → bitwise bit truths type y x ≡ bitwise bit truths type x y
bitwise_turned bit truths type bits same (IntValue x) (IntValue y) =
    ap (λ n. IntValue (wrapped type (pos n))) (bits (low_bits (width_of type) y) (low_bits (width_of type) x))
bitwise_turned bit truths type bits same x (IntValue y) = same x (IntValue y)
bitwise_turned bit truths type bits same (IntValue x) y = same (IntValue x) y
bitwise_turned bit truths type bits same x y = same x y

-- ---- types

-- a table that takes swapped operands to the same types, and both to one
record IsTurned (types : Ty → Ty → Result Taken ErrorKind) : Type 0 where
  turns : (a b : Ty) → types b a ≡ types a b
  twins : (a b left right type : Ty) → types a b ≡ Ok (pair_to left right type) → left ≡ right

twins_from : (common left right result type : Ty) → pair_to common common result ≡ pair_to left right type → left ≡ right
twins_from common left right result type h =
    let same : (common ∷ common ∷ []) ≡ (left ∷ right ∷ []) = ap (λ (t : Taken). t.operands) h in cc

both_twins : (found : Option Ty) (result : Ty → Ty) (left right type : Ty) → both_to found result ≡ Ok (pair_to left right type) → left ≡ right
both_twins found result left right type h =
    let both = both_is found result (pair_to left right type) h in twins_from both.0 left right (result both.0) type both.2

comparison_turns : (a b : Ty) → comparison_types b a ≡ comparison_types a b
comparison_turns a b =
    ap (λ t. cond t (Err InvalidOperation) (both_to (supertype b a) (λ common. Truth))) (either_turned (is_text_beside b a) (is_text_beside a b))
    ∙ ap (λ o. cond (is_text_beside a b || is_text_beside b a) (Err InvalidOperation) (both_to o (λ common. Truth))) (supertype_symmetric b a)

comparison_twins : (a b left right type : Ty) → comparison_types a b ≡ Ok (pair_to left right type) → left ≡ right
comparison_twins a b left right type h =
    both_twins (supertype a b) (λ common. Truth) left right type (unless_so (is_text_beside a b || is_text_beside b a) InvalidOperation _ (pair_to left right type) h).1

comparisons_turned : IsTurned comparison_types
comparisons_turned = record { turns = comparison_turns; twins = comparison_twins }

orders_turned : IsTurned order_types
orders_turned = record {
  turns = λ a b.
      ap (λ o. cond (has_parts o) (Err InvalidOperation) (comparison_types b a)) (supertype_symmetric b a)
      ∙ ap (cond (has_parts (supertype a b)) (Err InvalidOperation)) (comparison_turns a b);
  twins = λ a b left right type h. comparison_twins a b left right type (unless_so (has_parts (supertype a b)) InvalidOperation (comparison_types a b) (pair_to left right type) h).1;
}

truths_are_turned : IsTurned truth_types
truths_are_turned = record {
  turns = λ a b. ap (λ t. cond t (Ok (pair_to Truth Truth Truth)) (Err InvalidOperation)) (both_turned (is_truth_or_null b) (is_truth_or_null a));
  twins = λ a b left right type h.
      twins_from Truth left right Truth type (ok_where (is_truth_or_null a && is_truth_or_null b) (pair_to Truth Truth Truth) (pair_to left right type) InvalidOperation h).1;
}

bit_twins : (have : Bool) (found : Option Ty) (left right type : Ty) → cond have (both_to found (λ common. common)) (Err InvalidOperation) ≡ Ok (pair_to left right type) → left ≡ right
bit_twins true found left right type h = both_twins found (λ common. common) left right type h
bit_twins false found left right type h = cc

bits_turned : IsTurned bit_types
bits_turned = record {
  turns = λ a b.
      ap (λ t. cond t (both_to (supertype b a) (λ common. common)) (Err InvalidOperation)) (both_turned (has_bits b) (has_bits a))
      ∙ ap (λ o. cond (has_bits a && has_bits b) (both_to o (λ common. common)) (Err InvalidOperation)) (supertype_symmetric b a);
  twins = λ a b left right type h. bit_twins (has_bits a && has_bits b) (supertype a b) left right type h;
}

-- operands that first get types, where they have none
module _ (types : Ty → Ty → Result Taken ErrorKind) (turned : IsTurned types) where
  with_types_turned : (left right : Option Ty) → with_types right left types ≡ with_types left right types
  with_types_turned None None = refl
  with_types_turned None (Some b) = refl
  with_types_turned (Some a) None = refl
  with_types_turned (Some a) (Some b) = turned.turns a b

  with_types_twins : (a b : Option Ty) (left right type : Ty) → with_types a b types ≡ Ok (pair_to left right type) → left ≡ right
  with_types_twins None b left right type h = cc
  with_types_twins (Some a) None left right type h = cc
  with_types_twins (Some a) (Some b) left right type h = turned.twins a b left right type h

  with_types_swapped : (a b : Option Ty) (left right type : Ty) → with_types a b types ≡ Ok (pair_to left right type) → with_types b a types ≡ Ok (pair_to right left type)
  with_types_swapped a b left right type h =
      let same = with_types_twins a b left right type h in
      with_types_turned a b ∙ h ∙ ap (λ t. Ok (pair_to t right type)) same ∙ ap (λ t. Ok (pair_to right t type)) (sym same)

-- ---- columns

at_each_turned : (f g : Val → Val → Val) → ((x y : Val) → g y x ≡ f x y) → (xs ys : List Val) → at_each g ys xs ≡ at_each f xs ys
at_each_turned f g same [] [] = refl
at_each_turned f g same [] (y ∷ ys) = refl
at_each_turned f g same (x ∷ xs) [] = refl
at_each_turned f g same (x ∷ xs) (y ∷ ys) = ap (λ v. v ∷ at_each g ys xs) (same x y) ∙ ap (λ vs. f x y ∷ vs) (at_each_turned f g same xs ys)

other_number : (m n : ℕ) → (m == n) ≡ (n == m)
other_number m n = grind arith

-- where the two lengths differ, not both are one
one_length : (m n : ℕ) → (m == n) ≡ false → cond (n == 1) (Some m) (cond (m == 1) (Some n) None) ≡ cond (m == 1) (Some n) (cond (n == 1) (Some m) None)
one_length m n apart =
    elim (m == 1) as (λ b. (m == 1) ≡ b → cond (n == 1) (Some m) (cond b (Some n) None) ≡ cond b (Some n) (cond (n == 1) (Some m) None)) [
      | true ↦ λ e. ap (λ b. cond b (Some m) (Some n)) (ap (λ k. n == k) (sym (eqb-true m 1 e)) ∙ other_number n m ∙ apart)
      | false ↦ λ e. refl
    ] refl

common_length_turned : (m n : ℕ) → common_length n m ≡ common_length m n
common_length_turned m n =
    ap (λ b. cond b (Some n) (cond (n == 1) (Some m) (cond (m == 1) (Some n) None))) (other_number n m)
    ∙ elim (m == n) as (λ b. (m == n) ≡ b → cond b (Some n) (cond (n == 1) (Some m) (cond (m == 1) (Some n) None)) ≡ cond b (Some m) (cond (m == 1) (Some n) (cond (n == 1) (Some m) None))) [ true ↦ λ e. ap Some (sym (eqb-true m n e)) | false ↦ λ e. one_length m n e ] refl

at_length_same : (found : Option ℕ) (make other : ℕ → List Val) → ((count : ℕ) → other count ≡ make count) → at_length found other ≡ at_length found make
at_length_same None make other same = refl
at_length_same (Some count) make other same = ap Done (same count)

columns_turned : (operator other : Operator) (left right type : Ty) → ((x y : Val) → operator_value other right type y x ≡ operator_value operator left type x y) → (xs ys : List Val) → operator_values other right type ys xs ≡ operator_values operator left type xs ys
columns_turned operator other left right type same xs ys =
    let f = operator_value operator left type in
    let g = operator_value other right type in
    ap (λ o. at_length o (λ count. at_each g (stretched count ys) (stretched count xs))) (common_length_turned (length xs) (length ys))
    ∙ at_length_same (common_length (length xs) (length ys)) (λ count. at_each f (stretched count xs) (stretched count ys)) (λ count. at_each g (stretched count ys) (stretched count xs)) (λ count. at_each_turned f g same (stretched count xs) (stretched count ys))

-- ---- by operator

-- two operators with one such table, and values that may be swapped
says : (operator other : Operator) → IsTurned (pair_types operator) → pair_types other ≡ pair_types operator → ((left right type : Ty) (x y : Val) → operator_value other right type y x ≡ operator_value operator left type x y) → SaysSwapped operator other
says operator other turned same value =
    let types : TakesSwapped operator other = λ a b left right type h.
    ap (with_types (type_beside b a) (type_beside a b)) same
    ∙ with_types_swapped (pair_types operator) turned (type_beside a b) (type_beside b a) left right type h in
    let columns : GivesSwapped operator other = λ left right type xs ys. columns_turned operator other left right type (value left right type) xs ys in
    record {
      types = types;
      value = value;
      columns = columns;
      node_typing = swapped_typing operator other types;
      node_meaning = swapped_meaning operator other types columns;
    }

by_other : (operator found other : Operator) → Some found ≡ Some other → SaysSwapped operator found → SaysSwapped operator other
by_other operator found other h says = let same : found ≡ other = cc in subst (SaysSwapped operator) same says

other_value : (x y : Val) → same_value y x ≡ same_value x y
other_value x y = same_value_symmetric y x

pub says_swapped : (operator other : Operator) → swapped operator ≡ Some other → SaysSwapped operator other
says_swapped Eq other h = by_other Eq Eq other h (says Eq Eq comparisons_turned refl (λ left right type. compared_turned same_value same_value other_value))
says_swapped EqValidity other h = by_other EqValidity EqValidity other h (says EqValidity EqValidity comparisons_turned refl (λ left right type x y. ap TruthValue (other_value x y)))
says_swapped NotEq other h =
    by_other NotEq NotEq other h (says NotEq NotEq comparisons_turned refl (λ left right type. compared_turned (λ x y. not (same_value x y)) (λ x y. not (same_value x y)) (λ x y. ap not (other_value x y))))
says_swapped NotEqValidity other h =
    by_other NotEqValidity NotEqValidity other h (says NotEqValidity NotEqValidity comparisons_turned refl (λ left right type x y. ap (λ b. TruthValue (not b)) (other_value x y)))
says_swapped Lt other h = by_other Lt Gt other h (says Lt Gt orders_turned refl (λ left right type. compared_turned is_less (λ x y. is_less y x) (λ x y. refl)))
says_swapped LtEq other h =
    by_other LtEq GtEq other h (says LtEq GtEq orders_turned refl (λ left right type. compared_turned (λ x y. not (is_less y x)) (λ x y. not (is_less x y)) (λ x y. refl)))
says_swapped Gt other h = by_other Gt Lt other h (says Gt Lt orders_turned refl (λ left right type. compared_turned (λ x y. is_less y x) is_less (λ x y. refl)))
says_swapped GtEq other h =
    by_other GtEq LtEq other h (says GtEq LtEq orders_turned refl (λ left right type. compared_turned (λ x y. not (is_less x y)) (λ x y. not (is_less y x)) (λ x y. refl)))
says_swapped And other h = by_other And And other h (says And And bits_turned refl (λ left right type. bitwise_turned bit_and both_true type and_comm both_true_turned))
says_swapped Or other h = by_other Or Or other h (says Or Or bits_turned refl (λ left right type. bitwise_turned bit_or either_true type or_comm either_true_turned))
says_swapped Xor other h = by_other Xor Xor other h (says Xor Xor bits_turned refl (λ left right type. bitwise_turned bit_xor one_true type xor_comm one_true_turned))
says_swapped LogicalAnd other h = by_other LogicalAnd LogicalAnd other h (says LogicalAnd LogicalAnd truths_are_turned refl (λ left right type. both_true_turned))
says_swapped LogicalOr other h = by_other LogicalOr LogicalOr other h (says LogicalOr LogicalOr truths_are_turned refl (λ left right type. either_true_turned))
says_swapped _ other h = cc
