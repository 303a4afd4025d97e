-- Arithmetic of times: sums, differences and multiples, each by its rows.
use Rattle.std.proofs.Common.{◌≡◌, ℕ, Bool, true, false, cond, nat_lt, Some, None, Result, Ok, IsTrue, refl, ap, arith}
use Rattle.std.specs.Prelude.{◌*◌, ◌-ℤ◌, ◌*ℤ◌}
use Rattle.std.proofs.lemmas.Bool.{ltb-true}
use Rattle.plan_types.specs.Types.{Ty, Integer, DateType, TimeType, DatetimeType, DurationType, coarser, is_known}
use Rattle.plan_types.specs.Values.{Val, fits}
use Rattle.plan_types.specs.Supertypes.{supertype}
use Rattle.plan_types.specs.declared.dtype.TimeUnit.{TimeUnit}
use Rattle.plan_types.specs.declared.dtype.TimeUnit.TheVariants.{Nanoseconds, Milliseconds}
use Rattle.plan_types.specs.declared.error.ErrorKind.{ErrorKind}
use Rattle.plan_types.specs.declared.error.ErrorKind.TheVariants.{SchemaMismatch}
use Rattle.plan_types.proofs.SupertypeLemmas.{some_same, supertype_itself}
use Rattle.plan_types.proofs.ValueLemmas.{wrapped_in_range}
use Rattle.plan_dsl.specs.declared.operator.Operator.{Operator}
use Rattle.plan_dsl.specs.declared.operator.Operator.TheVariants.{Plus, Minus, Multiply}
use Rattle.plan_dsl.specs.Operators.{counted, operator_value}
use Rattle.plan_dsl.specs.OperatorTypes.{Taken, pair_to, is_in_int64, time_sum_types, time_difference_types, time_product_types, pair_types}
use Rattle.plan_dsl.proofs.TypingLemmas.{ok_same, ok_where}
use Rattle.plan_dsl.proofs.TakingLemmas.{Becomes, TakesPair, other_becomes, integer_becomes}
use Rattle.plan_dsl.proofs.ArithmeticLemmas.{Wraps, of_numbers_fits, number_sum_fits}

coarser_itself : (unit : TimeUnit) → coarser unit unit ≡ unit
coarser_itself unit = let same = some_same (DurationType (coarser unit unit)) (DurationType unit) (supertype_itself (DurationType unit)) in cc

moments_wrap : (unit : TimeUnit) → Wraps (DatetimeType unit)
moments_wrap unit = wrapped_in_range true 64

spans_wrap : (unit : TimeUnit) → Wraps (DurationType unit)
spans_wrap unit = wrapped_in_range true 64

-- what a row of an operator takes times to
abbrev Takes : Operator → Ty → Ty → Taken → Type 0
Takes operator = TakesPair (pair_types operator) (operator_value operator)

-- times become those of another unit
time_row : (operator : Operator) (a b left right type : Ty) (taken : Taken) → pair_to left right type ≡ taken → Becomes a left → Becomes b right → is_known type ≡ true → pair_types operator left right ≡ Ok (pair_to left right type) → ((x y : Val) → IsTrue (fits x left) → IsTrue (fits y right) → IsTrue (fits (operator_value operator left type x y) type)) → Takes operator a b taken
time_row operator a b left right type taken is first second known stays fitting = record {
  left = left;
  right = right;
  type = type;
  is = is;
  left_becomes = first;
  right_becomes = second;
  known = known;
  stays = stays;
  fitting = fitting;
}

abbrev takes_to : Taken → Result Taken ErrorKind
takes_to made = Ok made

taken_is : (made taken : Taken) → takes_to made ≡ Ok taken → made ≡ taken
taken_is made taken h = ok_same (takes_to made) made taken refl h

-- ---- sums

pub time_sum_takes : (a b : Ty) (taken : Taken) → time_sum_types a b ≡ Ok taken → Takes Plus a b taken
time_sum_takes (DurationType unit) (DurationType other) taken h =
    let c = coarser unit other in
    time_row Plus (DurationType unit) (DurationType other) (DurationType c) (DurationType c) (DurationType c) taken (taken_is _ taken h)
    (other_becomes (DurationType unit) (DurationType c) refl refl refl)
    (other_becomes (DurationType other) (DurationType c) refl refl refl)
    refl
    (ap (λ u. Ok (pair_to (DurationType u) (DurationType u) (DurationType u))) (coarser_itself c))
    (λ x y f g. number_sum_fits (DurationType c) (DurationType c) (spans_wrap c) refl x y f)
time_sum_takes (DatetimeType unit) (DurationType other) taken h =
    let c = coarser unit other in
    time_row Plus (DatetimeType unit) (DurationType other) (DatetimeType c) (DurationType c) (DatetimeType c) taken (taken_is _ taken h)
    (other_becomes (DatetimeType unit) (DatetimeType c) refl refl refl)
    (other_becomes (DurationType other) (DurationType c) refl refl refl)
    refl
    (ap (λ u. Ok (pair_to (DatetimeType u) (DurationType u) (DatetimeType u))) (coarser_itself c))
    (λ x y f g. number_sum_fits (DatetimeType c) (DatetimeType c) (moments_wrap c) refl x y f)
time_sum_takes (DurationType unit) (DatetimeType other) taken h =
    let c = coarser unit other in
    time_row Plus (DurationType unit) (DatetimeType other) (DurationType c) (DatetimeType c) (DatetimeType c) taken (taken_is _ taken h)
    (other_becomes (DurationType unit) (DurationType c) refl refl refl)
    (other_becomes (DatetimeType other) (DatetimeType c) refl refl refl)
    refl
    (ap (λ u. Ok (pair_to (DurationType u) (DatetimeType u) (DatetimeType u))) (coarser_itself c))
    (λ x y f g. number_sum_fits (DurationType c) (DatetimeType c) (moments_wrap c) refl x y f)
time_sum_takes _ _ taken h = cc

-- ---- differences

-- a difference that is a moment or a span wraps around in its type
difference_row : (a b left right type : Ty) (taken : Taken) → pair_to left right type ≡ taken → Becomes a left → Becomes b right → is_known type ≡ true → pair_types Minus left right ≡ Ok (pair_to left right type) → Wraps type → Takes Minus a b taken
difference_row a b left right type taken is first second known stays wraps =
    time_row Minus a b left right type taken is first second known stays (λ x y f g. of_numbers_fits (λ m n. Some (counted left (m -ℤ n))) type wraps x y)

-- two moments, or a day and a moment, have a span between them
moments_row : (a b : Ty) (unit : TimeUnit) (taken : Taken) → pair_to (DatetimeType unit) (DatetimeType unit) (DurationType unit) ≡ taken → Becomes a (DatetimeType unit) → Becomes b (DatetimeType unit) → Takes Minus a b taken
moments_row a b unit taken is first second =
    difference_row a b (DatetimeType unit) (DatetimeType unit) (DurationType unit) taken is first second refl (ap (λ u. Ok (pair_to (DatetimeType u) (DatetimeType u) (DurationType u))) (coarser_itself unit)) (spans_wrap unit)

pub time_difference_takes : (a b : Ty) (taken : Taken) → time_difference_types a b ≡ Ok taken → Takes Minus a b taken
time_difference_takes DateType DateType taken h =
    difference_row DateType DateType DateType DateType (DurationType Milliseconds) taken (taken_is _ taken h) (other_becomes DateType DateType refl refl refl) (other_becomes DateType DateType refl refl refl) refl refl (spans_wrap Milliseconds)
time_difference_takes TimeType TimeType taken h =
    difference_row TimeType TimeType TimeType TimeType (DurationType Nanoseconds) taken (taken_is _ taken h) (other_becomes TimeType TimeType refl refl refl) (other_becomes TimeType TimeType refl refl refl) refl refl (spans_wrap Nanoseconds)
time_difference_takes DateType (DatetimeType unit) taken h =
    moments_row DateType (DatetimeType unit) unit taken (taken_is _ taken h) (other_becomes DateType (DatetimeType unit) refl refl refl) (other_becomes (DatetimeType unit) (DatetimeType unit) refl refl refl)
time_difference_takes (DatetimeType unit) DateType taken h =
    moments_row (DatetimeType unit) DateType unit taken (taken_is _ taken h) (other_becomes (DatetimeType unit) (DatetimeType unit) refl refl refl) (other_becomes DateType (DatetimeType unit) refl refl refl)
time_difference_takes (DatetimeType unit) (DatetimeType other) taken h =
    let c = coarser unit other in
    moments_row (DatetimeType unit) (DatetimeType other) c taken (taken_is _ taken h) (other_becomes (DatetimeType unit) (DatetimeType c) refl refl refl) (other_becomes (DatetimeType other) (DatetimeType c) refl refl refl)
time_difference_takes (DurationType unit) (DurationType other) taken h =
    let c = coarser unit other in
    difference_row (DurationType unit) (DurationType other) (DurationType c) (DurationType c) (DurationType c) taken (taken_is _ taken h)
    (other_becomes (DurationType unit) (DurationType c) refl refl refl)
    (other_becomes (DurationType other) (DurationType c) refl refl refl)
    refl
    (ap (λ u. Ok (pair_to (DurationType u) (DurationType u) (DurationType u))) (coarser_itself c))
    (spans_wrap c)
time_difference_takes (DatetimeType unit) (DurationType other) taken h =
    let c = coarser unit other in
    difference_row (DatetimeType unit) (DurationType other) (DatetimeType c) (DurationType c) (DatetimeType c) taken (taken_is _ taken h)
    (other_becomes (DatetimeType unit) (DatetimeType c) refl refl refl)
    (other_becomes (DurationType other) (DurationType c) refl refl refl)
    refl
    (ap (λ u. Ok (pair_to (DatetimeType u) (DurationType u) (DatetimeType u))) (coarser_itself c))
    (moments_wrap c)
time_difference_takes _ _ taken h = cc

-- ---- multiples

-- the integer type that 64 bits with a sign hold has those with it as its common type
int64_common : (signed : Bool) (bits : ℕ) → is_in_int64 signed bits ≡ true → supertype (Integer signed bits) (Integer true 64) ≡ Some (Integer true 64)
int64_common true bits h = let less = ltb-true bits 65 h in ap (λ n. Some (Integer true n)) (omega (arith, less))
int64_common false bits h = ap (λ b. cond b (Some (Integer true 64)) (cond (nat_lt bits 64) (Some (Integer true (2 * bits))) None)) h

int64_becomes : (signed : Bool) (bits : ℕ) → is_in_int64 signed bits ≡ true → Becomes (Integer signed bits) (Integer true 64)
int64_becomes signed bits h = integer_becomes (Integer signed bits) (Integer true 64) (Integer true 64) refl refl refl (int64_common signed bits h)

pub time_product_takes : (a b : Ty) (taken : Taken) → time_product_types a b ≡ Ok taken → Takes Multiply a b taken
time_product_takes (DurationType unit) (Integer signed bits) taken h =
    let p = ok_where (is_in_int64 signed bits) _ taken SchemaMismatch h in
    time_row Multiply (DurationType unit) (Integer signed bits) (DurationType unit) (Integer true 64) (DurationType unit) taken p.1
    (other_becomes (DurationType unit) (DurationType unit) refl refl refl)
    (int64_becomes signed bits p.0)
    refl
    refl
    (λ x y f g. of_numbers_fits (λ m n. Some (m *ℤ n)) (DurationType unit) (spans_wrap unit) x y)
time_product_takes (Integer signed bits) (DurationType unit) taken h =
    let p = ok_where (is_in_int64 signed bits) _ taken SchemaMismatch h in
    time_row Multiply (Integer signed bits) (DurationType unit) (Integer true 64) (DurationType unit) (DurationType unit) taken p.1
    (int64_becomes signed bits p.0)
    (other_becomes (DurationType unit) (DurationType unit) refl refl refl)
    refl
    refl
    (λ x y f g. of_numbers_fits (λ m n. Some (m *ℤ n)) (DurationType unit) (spans_wrap unit) x y)
time_product_takes _ _ taken h = cc
