-- Truth values and bits: truth values and nulls are combined as truth values, and bits in the operands' common type.
use Rattle.std.proofs.Common.{◌≡◌, ℕ, Bool, true, false, ◌&&◌, not, cond, Some, Ok, Err, IsTrue, refl, ap, ◌∙◌}
use Rattle.std.specs.Prelude.{ℤ}
use Rattle.std.proofs.lemmas.Bool.{and_parts, and_from}
use Rattle.plan_types.specs.Types.{Ty, NullType, Truth, Integer, is_integer, is_known, is_text}
use Rattle.plan_types.specs.Values.{Val, TruthValue, IntValue, fits}
use Rattle.plan_types.specs.Supertypes.{supertype}
use Rattle.plan_types.specs.declared.error.ErrorKind.TheVariants.{InvalidOperation}
use Rattle.plan_types.proofs.SupertypeLemmas.{no_number, supertype_itself, supertype_symmetric}
use Rattle.plan_types.proofs.ValueLemmas.{wrapped_in_range}
use Rattle.plan_dsl.specs.Operators.{both_true, either_true, one_true, bitwise, of_bits}
use Rattle.plan_dsl.specs.OperatorTypes.{Taken, pair_to, both_to, is_truth_or_null, truth_types, has_bits, bit_types}
use Rattle.plan_dsl.proofs.TypingLemmas.{ok_where}
use Rattle.plan_dsl.proofs.TakingLemmas.{Becomes, other_becomes, TakesPair, both_is, some_is, integer_common, common_becomes}

-- what is made of two values of a type is of the type
abbrev pub KeepsType : Ty → (Val → Val → Val) → Type 0
KeepsType type value = (x y : Val) → IsTrue (fits x type) → IsTrue (fits y type) → IsTrue (fits (value x y) type)

pub both_keeps : (type : Ty) → KeepsType type both_true
both_keeps type (TruthValue true) (TruthValue right) f g = g
both_keeps type (TruthValue false) right f g = f
both_keeps type left (TruthValue false) f g = g
both_keeps type left right f g = refl

pub either_keeps : (type : Ty) → KeepsType type either_true
either_keeps type (TruthValue false) (TruthValue right) f g = g
either_keeps type (TruthValue true) right f g = f
either_keeps type left (TruthValue true) f g = g
either_keeps type left right f g = refl

-- all truth values fit a type, or none does
other_truth : (type : Ty) (truth other : Bool) → IsTrue (fits (TruthValue truth) type) → IsTrue (fits (TruthValue other) type)
other_truth Truth truth other f = refl
other_truth _ truth other f = cc

pub one_keeps : (type : Ty) → KeepsType type one_true
one_keeps type (TruthValue left) (TruthValue right) f g = other_truth type left (cond left (not right) right) f
one_keeps type (TruthValue left) right f g = refl
one_keeps type left right f g = refl

-- ---- truth values

truth_becomes : (type : Ty) → is_truth_or_null type ≡ true → Becomes type Truth
truth_becomes NullType h = other_becomes NullType Truth refl refl refl
truth_becomes Truth h = other_becomes Truth Truth refl refl refl
truth_becomes _ h = cc

pub truth_takes : (value : Val → Val → Val) (a b : Ty) (taken : Taken) → KeepsType Truth value → truth_types a b ≡ Ok taken → TakesPair truth_types (λ from type. value) a b taken
truth_takes value a b taken keeps h =
    let p = ok_where (is_truth_or_null a && is_truth_or_null b) _ taken InvalidOperation h in
    let both = and_parts (is_truth_or_null a) (is_truth_or_null b) p.0 in
    record {
      left = Truth;
      right = Truth;
      type = Truth;
      is = p.1;
      left_becomes = truth_becomes a both.0;
      right_becomes = truth_becomes b both.1;
      known = refl;
      stays = refl;
      fitting = keeps;
    }

-- ---- bits

pub bits_no_text : (type : Ty) → has_bits type ≡ true → is_text type ≡ false
bits_no_text NullType h = refl
bits_no_text Truth h = refl
bits_no_text (Integer signed bits) h = refl
bits_no_text _ h = cc

integer_has_bits : (type : Ty) → is_integer type ≡ true → has_bits type ≡ true
integer_has_bits (Integer signed bits) h = refl
integer_has_bits _ h = cc

-- a common type of types with bits has bits
pub bits_common : (a b c : Ty) → has_bits a ≡ true → has_bits b ≡ true → supertype a b ≡ Some c → has_bits c ≡ true
bits_common NullType b c k l h = some_is (λ t. has_bits t ≡ true) b c h l
bits_common Truth NullType c k l h = some_is (λ t. has_bits t ≡ true) Truth c h refl
bits_common Truth Truth c k l h = some_is (λ t. has_bits t ≡ true) Truth c h refl
bits_common Truth (Integer signed n) c k l h = some_is (λ t. has_bits t ≡ true) (Integer signed n) c h refl
bits_common (Integer signed m) b c k l h = integer_has_bits c (integer_common (Integer signed m) b c refl (bits_no_text b l) h)
bits_common _ _ c k l h = cc

bits_stay : (type : Ty) → has_bits type ≡ true → bit_types type type ≡ Ok (pair_to type type type)
bits_stay type h =
    ap (λ b. cond b (both_to (supertype type type) (λ common. common)) (Err InvalidOperation)) (and_from (has_bits type) (has_bits type) h h)
    ∙ ap (λ o. both_to o (λ common. common)) (supertype_itself type)

-- bits of numbers make a number of the type
number_bits_fit : (bit : ℕ → ℕ → ℕ) (type : Ty) (left right : ℤ) → has_bits type ≡ true → IsTrue (fits (IntValue left) type) → IsTrue (fits (IntValue (of_bits bit type left right)) type)
number_bits_fit bit NullType left right h f = absurd (no_number NullType left refl refl f)
number_bits_fit bit Truth left right h f = absurd (no_number Truth left refl refl f)
number_bits_fit bit (Integer signed bits) left right h f = wrapped_in_range signed bits _
number_bits_fit bit _ left right h f = cc

bits_keep : (bit : ℕ → ℕ → ℕ) (truths : Val → Val → Val) (type : Ty) → has_bits type ≡ true → KeepsType type truths → KeepsType type (bitwise bit truths type)
bits_keep bit truths type h keeps (IntValue left) (IntValue right) f g = number_bits_fit bit type left right h f
bits_keep bit truths type h keeps (IntValue left) right f g = keeps (IntValue left) right f g
bits_keep bit truths type h keeps left right f g = keeps left right f g

pub bits_take : (bit : ℕ → ℕ → ℕ) (truths : Val → Val → Val) (a b : Ty) (taken : Taken) → ((type : Ty) → KeepsType type truths) → is_known a ≡ true → is_known b ≡ true → bit_types a b ≡ Ok taken → TakesPair bit_types (λ from. bitwise bit truths) a b taken
bits_take bit truths a b taken keeps k l h =
    elim (has_bits a && has_bits b) as (λ t. (has_bits a && has_bits b) ≡ t → cond t (both_to (supertype a b) (λ common. common)) (Err InvalidOperation) ≡ Ok taken → TakesPair bit_types (λ from. bitwise bit truths) a b taken) [
      | true ↦ λ e h.
          let have = and_parts (has_bits a) (has_bits b) e in
          let both = both_is (supertype a b) (λ common. common) taken h in
          let has = bits_common a b both.0 have.0 have.1 both.1 in
          record {
            left = both.0;
            right = both.0;
            type = both.0;
            is = both.2;
            left_becomes = common_becomes a b both.0 k l both.1 (λ i. bits_no_text b have.1);
            right_becomes = common_becomes b a both.0 l k (supertype_symmetric b a ∙ both.1) (λ i. bits_no_text a have.0);
            known = (common_becomes a b both.0 k l both.1 (λ i. bits_no_text b have.1)).known;
            stays = bits_stay both.0 has;
            fitting = bits_keep bit truths both.0 has (keeps both.0);
          }
      | false ↦ λ e h. cc
    ] refl h
