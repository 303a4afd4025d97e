-- Operands of two integer types that differ, which an operator takes to their common type.
use Rattle.std.proofs.Common.{◌≡◌, ◌*◌, ℕ, nat_lt, Bool, true, false, cond, [], ◌∷◌, Option, Some, None, Ok, Err, refl, sym, ap, ◌∙◌}
use Rattle.plan_types.specs.Types.{Ty, Integer, Truth, is_integer, is_truth}
use Rattle.plan_types.specs.Supertypes.{supertype, upcast}
use Rattle.plan_types.specs.declared.error.ErrorKind.TheVariants.{InvalidOperation}
use Rattle.plan_dsl.specs.OperatorTypes.{both_to, number_types, operator_types, pair_to, pair_types, sum_type}
use Rattle.plan_dsl.specs.declared.operator.Operator.{Operator}
use Rattle.plan_dsl.specs.declared.operator.Operator.TheVariants.{Plus, Minus, Multiply, Divide, FloorDivide, Modulus, And, Or, Xor}
use Rattle.plan_infer.specs.Operands.{common_integer, gives_common}
use Rattle.plan_infer.proofs.OperandTypeLemmas.{with_own}

-- what a test lets through
passed : (test : Bool) (found : Option Ty) (common : Ty) → cond test found None ≡ Some common → found ≡ Some common
passed true found common h = h
passed false found common h = cc

asked : (test : Bool) (found : Option Ty) (common : Ty) → cond test found None ≡ Some common → test ≡ true
asked true found common h = refl
asked false found common h = cc

-- the common type of integer types is one
abbrev is_number : Option Ty → Bool
is_number None = true
is_number (Some type) = is_integer type

number_by : (first second : Bool) (own other : ℕ) → is_number (cond first (Some (Integer true own)) (cond second (Some (Integer true other)) None)) ≡ true
number_by true second own other = refl
number_by false true own other = refl
number_by false false own other = refl

number_common : (s t : Bool) (m n : ℕ) → is_number (supertype (Integer s m) (Integer t n)) ≡ true
number_common true true m n = refl
number_common false false m n = refl
number_common true false m n = number_by (nat_lt n m) (nat_lt n 64) m (2 * n)
number_common false true m n = number_by (nat_lt m n) (nat_lt m 64) n (2 * m)

-- and so the type of a sum
sum_alike : (type : Ty) → is_integer type ≡ true → sum_type type ≡ type
sum_alike Truth h = cc
sum_alike type h = refl

no_truth : (type : Ty) → is_integer type ≡ true → is_truth type ≡ false
no_truth Truth h = cc
no_truth type h = refl

module _ (s t : Bool) (m n : ℕ) (common : Ty) (is : supertype (Integer s m) (Integer t n) ≡ Some common) where
  whole : is_integer common ≡ true
  whole = sym (ap is_number is) ∙ number_common s t m n

  alone : cond (is_truth common) (Err InvalidOperation) (Ok (pair_to common common common)) ≡ Ok (pair_to common common common)
  alone = ap (λ b. cond b (Err InvalidOperation) (Ok (pair_to common common common))) (no_truth common whole)

  known : (op : Operator) → operator_types op (Integer s m ∷ Integer t n ∷ []) ≡ pair_types op (Integer s m) (Integer t n)
  known op = with_own (Integer s m) (Integer t n) (pair_types op) refl refl

  integers_taken : (op : Operator) → gives_common op ≡ true → operator_types op (Integer s m ∷ Integer t n ∷ []) ≡ Ok (pair_to common common common)
  integers_taken Plus gives = known Plus ∙ ap (number_types Plus) is ∙ ap (λ type. Ok (pair_to common common type)) (sum_alike common whole)
  integers_taken Minus gives = known Minus ∙ ap (number_types Minus) is ∙ alone
  integers_taken Multiply gives = known Multiply ∙ ap (number_types Multiply) is ∙ alone
  integers_taken Divide gives = known Divide ∙ ap (number_types Divide) is ∙ alone
  integers_taken FloorDivide gives = known FloorDivide ∙ ap (number_types FloorDivide) is ∙ alone
  integers_taken Modulus gives = known Modulus ∙ ap (number_types Modulus) is ∙ alone
  integers_taken And gives = known And ∙ ap (λ found. both_to found (λ type. type)) is
  integers_taken Or gives = known Or ∙ ap (λ found. both_to found (λ type. type)) is
  integers_taken Xor gives = known Xor ∙ ap (λ found. both_to found (λ type. type)) is
  integers_taken op gives = cc

upcast_taken : (op : Operator) (left right common : Ty) → gives_common op ≡ true → upcast left right ≡ Some common → operator_types op (left ∷ right ∷ []) ≡ Ok (pair_to common common common)
upcast_taken op (Integer s m) (Integer t n) common gives is = integers_taken s t m n common (passed _ _ _ is) op gives
upcast_taken op (Integer s m) right common gives is = cc
upcast_taken op left right common gives is = cc

-- so they are taken to it, and it is the operator's own
pub common_taken : (op : Operator) (left right common : Ty) → common_integer op left right ≡ Some common → operator_types op (left ∷ right ∷ []) ≡ Ok (pair_to common common common)
common_taken op left right common is = upcast_taken op left right common (asked _ _ _ is) (passed _ _ _ is)
