-- Operators: how they are written, and what they give of two values.
-- Null beside anything is null, but in the comparisons that compare nulls too, where a truth value settles what is
-- asked of both or of either, and there alone. Arithmetic wraps around in the result's type; a division by 0 is null. Truth
-- values are counted where they are added, and texts are joined. Days have their milliseconds between them. Comparisons
-- give truth values: false is less than true, numbers are ordered by size, and texts by their bytes. Lists and structs are
-- the same where their values are, in order.
use Rattle.std.specs.Prelude.{ℕ, zero, suc, ℤ, pos, negsuc, neg_ℤ, ◌+ℤ◌, ◌-ℤ◌, ◌*ℤ◌, int_lt, int_div, nat_lt, bit_and, bit_or, bit_xor, ◌==◌, List, [], ◌∷◌, ◌++◌, Bool, true, false, not, ◌&&◌, ◌||◌, Option, Some, None, codes, encode_utf8_all, if◌then◌else◌}
use Rattle.std.specs.Int.{int_div_euclid}
use Rattle.plan_types.specs.Types.{Ty, DateType, per_day, width_of}
use Rattle.plan_types.specs.Values.{Val, NullValue, TruthValue, IntValue, TextValue, same_value}
use Rattle.plan_types.specs.Casts.{wrapped, low_bits, number_of}
use Rattle.plan_types.specs.declared.dtype.TimeUnit.TheVariants.{Milliseconds}
use Rattle.plan_dsl.specs.declared.operator.InequalityOperator.{InequalityOperator}
use Rattle.plan_dsl.specs.declared.operator.InequalityOperator.TheVariants as Inequality
use Rattle.plan_dsl.specs.declared.operator.Operator.{Operator}
use Rattle.plan_dsl.specs.declared.operator.Operator.TheVariants.{Eq, EqValidity, NotEq, NotEqValidity, Lt, LtEq, Gt, GtEq, Plus, Minus, Multiply, Divide, FloorDivide, Modulus, And, Or, Xor, LogicalAnd, LogicalOr}

abbrev pub operator_sign : Operator → List ℕ
operator_sign Eq = codes "=="
operator_sign EqValidity = codes "==v"
operator_sign NotEq = codes "!="
operator_sign NotEqValidity = codes "!=v"
operator_sign Lt = codes "<"
operator_sign LtEq = codes "<="
operator_sign Gt = codes ">"
operator_sign GtEq = codes ">="
operator_sign Plus = codes "+"
operator_sign Minus = codes "-"
operator_sign Multiply = codes "*"
operator_sign Divide = codes "//"
operator_sign FloorDivide = codes "floor_div"
operator_sign Modulus = codes "%"
operator_sign And = codes "&"
operator_sign Or = codes "|"
operator_sign Xor = codes "^"
operator_sign LogicalAnd = codes "&"
operator_sign LogicalOr = codes "|"

-- whether an operator is called a comparison: those of truth values alone aren't
abbrev pub is_comparison : Operator → Bool
is_comparison Eq = true
is_comparison EqValidity = true
is_comparison NotEq = true
is_comparison NotEqValidity = true
is_comparison Lt = true
is_comparison LtEq = true
is_comparison Gt = true
is_comparison GtEq = true
is_comparison And = true
is_comparison Or = true
is_comparison Xor = true
is_comparison operator = false

-- the operator that says the same of swapped operands
abbrev pub swapped : Operator → Option Operator
swapped Eq = Some Eq
swapped EqValidity = Some EqValidity
swapped NotEq = Some NotEq
swapped NotEqValidity = Some NotEqValidity
swapped Lt = Some Gt
swapped LtEq = Some GtEq
swapped Gt = Some Lt
swapped GtEq = Some LtEq
swapped And = Some And
swapped Or = Some Or
swapped Xor = Some Xor
swapped LogicalAnd = Some LogicalAnd
swapped LogicalOr = Some LogicalOr
swapped operator = None

-- the operator of an inequality
abbrev pub inequality : InequalityOperator → Operator
inequality Inequality.Lt = Lt
inequality Inequality.LtEq = LtEq
inequality Inequality.Gt = Gt
inequality Inequality.GtEq = GtEq

-- ---- comparisons

-- whether the first list of bytes comes before the second: at the first that differ, or as its beginning
abbrev pub is_before : List ℕ → List ℕ → Bool
is_before [] [] = false
is_before [] (second ∷ seconds) = true
is_before (first ∷ firsts) [] = false
is_before (first ∷ firsts) (second ∷ seconds) = nat_lt first second || (first == second && is_before firsts seconds)

-- the order of two values of one type, neither of which is null
abbrev pub is_less : Val → Val → Bool
is_less (TruthValue left) (TruthValue right) = not left && right
is_less (IntValue left) (IntValue right) = int_lt left right
is_less (TextValue left) (TextValue right) = is_before (encode_utf8_all left) (encode_utf8_all right)
is_less left right = false

-- a comparison, which is null where a value is
abbrev pub compared : (Val → Val → Bool) → Val → Val → Val
compared test NullValue right = NullValue
compared test left NullValue = NullValue
compared test left right = TruthValue (test left right)

-- ---- truth values and bits

-- what is true of both: false where one is false
abbrev pub both_true : Val → Val → Val
both_true (TruthValue true) (TruthValue right) = TruthValue right
both_true (TruthValue false) right = TruthValue false
both_true left (TruthValue false) = TruthValue false
both_true left right = NullValue

-- what is true of either: true where one is true
abbrev pub either_true : Val → Val → Val
either_true (TruthValue false) (TruthValue right) = TruthValue right
either_true (TruthValue true) right = TruthValue true
either_true left (TruthValue true) = TruthValue true
either_true left right = NullValue

-- what is true of one alone
abbrev pub one_true : Val → Val → Val
one_true (TruthValue left) (TruthValue right) = TruthValue (if left then not right else right)
one_true left right = NullValue

-- the number whose bits are made of those of two numbers of the type
abbrev pub of_bits : (ℕ → ℕ → ℕ) → Ty → ℤ → ℤ → ℤ
of_bits bit type left right = wrapped type (pos (bit (low_bits (width_of type) left) (low_bits (width_of type) right)))

-- bits of two numbers, or what else there is of two values
abbrev pub bitwise : (ℕ → ℕ → ℕ) → (Val → Val → Val) → Ty → Val → Val → Val
bitwise bit truths type (IntValue left) (IntValue right) = IntValue (of_bits bit type left right)
bitwise bit truths type left right = truths left right

-- ---- arithmetic

-- a number in the type, if there is one
abbrev pub wrapped_value : Ty → Option ℤ → Val
wrapped_value type None = NullValue
wrapped_value type (Some number) = IntValue (wrapped type number)

-- what is made of two numbers, in the type
abbrev pub of_numbers : (ℤ → ℤ → Option ℤ) → Ty → Val → Val → Val
of_numbers make type (IntValue left) (IntValue right) = wrapped_value type (make left right)
of_numbers make type left right = NullValue

-- the sum of two values
abbrev pub plus : Ty → Val → Val → Val
plus type (TruthValue left) (TruthValue right) = IntValue (wrapped type (number_of left +ℤ number_of right))
plus type (TextValue left) (TextValue right) = TextValue (left ++ right)
plus type left right = of_numbers (λ x y. Some (x +ℤ y)) type left right

-- a difference of numbers of the type, as it is counted: that of days in milliseconds
abbrev pub counted : Ty → ℤ → ℤ
counted DateType number = number *ℤ pos (per_day Milliseconds)
counted type number = number

abbrev pub minus : Ty → Ty → Val → Val → Val
minus from type left right = of_numbers (λ x y. Some (counted from (x -ℤ y))) type left right

-- what a number gives, unless it is divided by 0
abbrev pub unless_zero : ℤ → ℤ → Option ℤ
unless_zero (pos zero) number = None
unless_zero (pos (suc divisor)) number = Some number
unless_zero (negsuc divisor) number = Some number

-- the greatest whole number that isn't past the quotient
abbrev pub floored : ℤ → ℤ → ℤ
floored number (pos divisor) = int_div_euclid number (pos divisor)
floored number (negsuc divisor) = int_div_euclid (neg_ℤ number) (pos (suc divisor))

-- what the floored quotient leaves
abbrev pub rest_of : ℤ → ℤ → ℤ
rest_of number divisor = number -ℤ floored number divisor *ℤ divisor

-- ---- by operator

-- what an operator gives of two values, the first of that type, in the result's type
abbrev pub operator_value : Operator → Ty → Ty → Val → Val → Val
operator_value Eq from type left right = compared same_value left right
operator_value EqValidity from type left right = TruthValue (same_value left right)
operator_value NotEq from type left right = compared (λ x y. not (same_value x y)) left right
operator_value NotEqValidity from type left right = TruthValue (not (same_value left right))
operator_value Lt from type left right = compared is_less left right
operator_value LtEq from type left right = compared (λ x y. not (is_less y x)) left right
operator_value Gt from type left right = compared (λ x y. is_less y x) left right
operator_value GtEq from type left right = compared (λ x y. not (is_less x y)) left right
operator_value Plus from type left right = plus type left right
operator_value Minus from type left right = minus from type left right
operator_value Multiply from type left right = of_numbers (λ x y. Some (x *ℤ y)) type left right
operator_value Divide from type left right = of_numbers (λ x y. unless_zero y (int_div x y)) type left right
operator_value FloorDivide from type left right = of_numbers (λ x y. unless_zero y (floored x y)) type left right
operator_value Modulus from type left right = of_numbers (λ x y. unless_zero y (rest_of x y)) type left right
operator_value And from type left right = bitwise bit_and both_true type left right
operator_value Or from type left right = bitwise bit_or either_true type left right
operator_value Xor from type left right = bitwise bit_xor one_true type left right
operator_value LogicalAnd from type left right = both_true left right
operator_value LogicalOr from type left right = either_true left right
