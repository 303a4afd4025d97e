-- Arithmetic of numbers and of texts: operands without parts, which are no times, are taken to texts or to their common type.
use Rattle.std.proofs.Common.{◌≡◌, ℕ, Bool, true, false, ◌&&◌, ◌||◌, not, cond, List, Option, Some, None, Result, Ok, Err, IsTrue, refl, sym, ap, ◌∙◌}
use Rattle.std.specs.Prelude.{ℤ}
use Rattle.std.proofs.lemmas.Bool.{and_parts, or_parts}
use Rattle.plan_types.specs.Types.{Ty, NullType, Truth, Integer, TextType, is_bare, is_known, is_temporal, is_text}
use Rattle.plan_types.specs.Values.{Val, TruthValue, IntValue, TextValue, in_range, fits}
use Rattle.plan_types.specs.Supertypes.{supertype}
use Rattle.plan_types.specs.Casts.{wrapped}
use Rattle.plan_types.specs.declared.error.ErrorKind.{ErrorKind}
use Rattle.plan_types.specs.declared.error.ErrorKind.TheVariants.{InvalidOperation}
use Rattle.plan_types.proofs.SupertypeLemmas.{no_number, supertype_itself, supertype_symmetric}
use Rattle.plan_types.proofs.ValueLemmas.{wrapped_in_range}
use Rattle.plan_dsl.specs.declared.operator.Operator.{Operator}
use Rattle.plan_dsl.specs.declared.operator.Operator.TheVariants.{Plus}
use Rattle.plan_dsl.specs.Operators.{wrapped_value, of_numbers, plus}
use Rattle.plan_dsl.specs.OperatorTypes.{Taken, pair_to, both_to, has_bits, is_joined, sum_type, is_truth_alone, number_types, text_types, time_types, arithmetic_types}
use Rattle.plan_dsl.proofs.TypingLemmas.{ok_where}
use Rattle.plan_dsl.proofs.TakingLemmas.{Becomes, other_becomes, TakesPair, unless_so, both_is, common_becomes}
use Rattle.plan_dsl.proofs.BitLemmas.{KeepsType, bits_common, bits_no_text}

-- ---- values

-- each number that wraps around in the type is in its range
abbrev pub Wraps : Ty → Type 0
Wraps type = (number : ℤ) → in_range type (wrapped type number) ≡ true

wrapped_value_fits : (type : Ty) (found : Option ℤ) → Wraps type → IsTrue (fits (wrapped_value type found) type)
wrapped_value_fits type None wraps = refl
wrapped_value_fits type (Some number) wraps = wraps number

-- so what is made of numbers in the type fits it, whatever the values
pub of_numbers_fits : (make : ℤ → ℤ → Option ℤ) (type : Ty) → Wraps type → (x y : Val) → IsTrue (fits (of_numbers make type x y) type)
of_numbers_fits make type wraps (IntValue x) (IntValue y) = wrapped_value_fits type (make x y) wraps
of_numbers_fits make type wraps (IntValue x) y = refl
of_numbers_fits make type wraps x y = refl

-- of nulls there is null
null_numbers_fit : (make : ℤ → ℤ → Option ℤ) → KeepsType NullType (of_numbers make NullType)
null_numbers_fit make (IntValue x) y f g = absurd (no_number NullType x refl refl f)
null_numbers_fit make x y f g = refl

pub numbers_keep : (make : ℤ → ℤ → Option ℤ) (type : Ty) → has_bits type ≡ true → is_truth_alone (Some type) ≡ false → KeepsType type (of_numbers make type)
numbers_keep make NullType h t = null_numbers_fit make
numbers_keep make (Integer signed bits) h t = λ x y f g. of_numbers_fits make (Integer signed bits) (wrapped_in_range signed bits) x y
numbers_keep make _ h t = cc

-- a text fits the type of texts alone
text_fits : (text : List ℕ) (type : Ty) → fits (TextValue text) type ≡ is_text type
text_fits text TextType = refl
text_fits text _ = refl

-- sums of numbers and of truth values wrap around in the type
pub number_sum_fits : (left type : Ty) → Wraps type → is_text left ≡ false → (x y : Val) → IsTrue (fits x left) → IsTrue (fits (plus type x y) type)
number_sum_fits left type wraps other (TruthValue x) (TruthValue y) h = wraps _
number_sum_fits left type wraps other (TruthValue x) _ h = refl
number_sum_fits left type wraps other (IntValue x) (IntValue y) h = wraps _
number_sum_fits left type wraps other (IntValue x) _ h = refl
number_sum_fits left type wraps other (TextValue x) y h = let is = text_fits x left in cc
number_sum_fits left type wraps other _ y h = refl

text_sum_fits : (x y : Val) → IsTrue (fits x TextType) → IsTrue (fits (plus TextType x y) TextType)
text_sum_fits (TruthValue x) y h = cc
text_sum_fits (IntValue x) y h = absurd (no_number TextType x refl refl h)
text_sum_fits (TextValue x) (TextValue y) h = refl
text_sum_fits (TextValue x) _ h = refl
text_sum_fits _ y h = refl

null_sum_fits : (x y : Val) → IsTrue (fits x NullType) → IsTrue (fits (plus NullType x y) NullType)
null_sum_fits (TruthValue x) y h = cc
null_sum_fits (IntValue x) y h = absurd (no_number NullType x refl refl h)
null_sum_fits (TextValue x) y h = cc
null_sum_fits _ y h = refl

sum_fits : (type : Ty) → has_bits type ≡ true → (x y : Val) → IsTrue (fits x type) → IsTrue (fits (plus (sum_type type) x y) (sum_type type))
sum_fits NullType h x y f = null_sum_fits x y f
sum_fits Truth h x y f = number_sum_fits Truth (Integer false 32) (wrapped_in_range false 32) refl x y f
sum_fits (Integer signed bits) h x y f = number_sum_fits (Integer signed bits) (Integer signed bits) (wrapped_in_range signed bits) refl x y f
sum_fits _ h x y f = cc

-- ---- texts

joined_becomes : (type : Ty) → is_joined type ≡ true → Becomes type TextType
joined_becomes NullType h = other_becomes NullType TextType refl refl refl
joined_becomes Truth h = other_becomes Truth TextType refl refl refl
joined_becomes TextType h = other_becomes TextType TextType refl refl refl
joined_becomes _ h = cc

pub joined_takes : (a b : Ty) (taken : Taken) → text_types Plus a b ≡ Ok taken → TakesPair (arithmetic_types Plus) (λ from. plus) a b taken
joined_takes a b taken h =
    let p = ok_where (is_joined a && is_joined b) _ taken InvalidOperation h in
    let both = and_parts (is_joined a) (is_joined b) p.0 in
    record {
      left = TextType;
      right = TextType;
      type = TextType;
      is = p.1;
      left_becomes = joined_becomes a both.0;
      right_becomes = joined_becomes b both.1;
      known = refl;
      stays = refl;
      fitting = λ x y f g. text_sum_fits x y f;
    }

-- ---- numbers

-- of known types those without parts that are neither texts nor times have bits
has_bits_from : (type : Ty) → is_known type ≡ true → is_bare type ≡ true → is_temporal type ≡ false → is_text type ≡ false → has_bits type ≡ true
has_bits_from NullType k b t x = refl
has_bits_from Truth k b t x = refl
has_bits_from (Integer signed bits) k b t x = refl
has_bits_from _ k b t x = cc

-- operands of one such type have its row
numbers_row : (operator : Operator) (type : Ty) → has_bits type ≡ true → arithmetic_types operator type type ≡ number_types operator (Some type)
numbers_row operator NullType h = refl
numbers_row operator Truth h = refl
numbers_row operator (Integer signed bits) h = ap (number_types operator) (supertype_itself (Integer signed bits))
numbers_row operator _ h = cc

sum_known : (type : Ty) → has_bits type ≡ true → is_known (sum_type type) ≡ true
sum_known NullType h = refl
sum_known Truth h = refl
sum_known (Integer signed bits) h = refl
sum_known _ h = cc

-- operands with bits, which are taken to their common type
module _ (operator : Operator) (value : Ty → Ty → Val → Val → Val) (result : Ty → Ty) (a b : Ty) (taken : Taken) (known_left : is_known a ≡ true) (known_right : is_known b ≡ true) (left_bits : has_bits a ≡ true) (right_bits : has_bits b ≡ true) (h : both_to (supertype a b) result ≡ Ok taken) where
  pub common_takes : ((type : Ty) → supertype a b ≡ Some type → has_bits type ≡ true → (is_known (result type) ≡ true) × (number_types operator (Some type) ≡ Ok (pair_to type type (result type))) × ((x y : Val) → IsTrue (fits x type) → IsTrue (fits y type) → IsTrue (fits (value type (result type) x y) (result type)))) → TakesPair (arithmetic_types operator) value a b taken
  common_takes each =
      let both = both_is (supertype a b) result taken h in
      let has = bits_common a b both.0 left_bits right_bits both.1 in
      let row = each both.0 both.1 has in
      record {
        left = both.0;
        right = both.0;
        type = result both.0;
        is = both.2;
        left_becomes = common_becomes a b both.0 known_left known_right both.1 (λ i. bits_no_text b right_bits);
        right_becomes = common_becomes b a both.0 known_right known_left (supertype_symmetric b a ∙ both.1) (λ i. bits_no_text a left_bits);
        known = row.0;
        stays = numbers_row operator both.0 has ∙ row.1;
        fitting = row.2;
      }

pub number_sum_takes : (a b : Ty) (taken : Taken) → is_known a ≡ true → is_known b ≡ true → has_bits a ≡ true → has_bits b ≡ true → number_types Plus (supertype a b) ≡ Ok taken → TakesPair (arithmetic_types Plus) (λ from. plus) a b taken
number_sum_takes a b taken k l p q h =
    common_takes Plus (λ from. plus) sum_type a b taken k l p q h (λ type e has. (sum_known type has, refl, λ x y f g. sum_fits type has x y f))

-- what an operator other than a sum takes numbers to
abbrev pub other_number_types : Option Ty → Result Taken ErrorKind
other_number_types common = cond (is_truth_alone common) (Err InvalidOperation) (both_to common (λ type. type))

pub numbers_take : (operator : Operator) (make : Ty → ℤ → ℤ → Option ℤ) (a b : Ty) (taken : Taken) → ((common : Option Ty) → number_types operator common ≡ other_number_types common) → is_known a ≡ true → is_known b ≡ true → has_bits a ≡ true → has_bits b ≡ true → number_types operator (supertype a b) ≡ Ok taken → TakesPair (arithmetic_types operator) (λ from. of_numbers (make from)) a b taken
numbers_take operator make a b taken numbers k l p q h =
    let tested = unless_so (is_truth_alone (supertype a b)) InvalidOperation (both_to (supertype a b) (λ type. type)) taken (sym (numbers (supertype a b)) ∙ h) in
    common_takes operator (λ from. of_numbers (make from)) (λ type. type) a b taken k l p q tested.1 (λ type e has.
    let other : is_truth_alone (Some type) ≡ false = sym (ap is_truth_alone e) ∙ tested.0 in
    ((common_becomes a b type k l e (λ i. bits_no_text b q)).known, numbers (Some type) ∙ ap (λ t. cond t (Err InvalidOperation) (Ok (pair_to type type type))) other, numbers_keep (make type) type has other))

-- ---- the rows

-- by which row two types are taken: as times, as texts, or as numbers
pub data IsArithmetic (operator : Operator) (a b : Ty) (taken : Taken) : Type 0 where
  of_times : time_types operator a b ≡ Ok taken → IsArithmetic operator a b taken
  of_texts : text_types operator a b ≡ Ok taken → IsArithmetic operator a b taken
  of_counts : has_bits a ≡ true → has_bits b ≡ true → number_types operator (supertype a b) ≡ Ok taken → IsArithmetic operator a b taken

so_unless : (test : Bool) → not test ≡ false → test ≡ true
so_unless true h = refl
so_unless false h = cc

timeless_row : (operator : Operator) (a b : Ty) (taken : Taken) → is_known a ≡ true → is_known b ≡ true → (is_bare a ≡ true) × (is_bare b ≡ true) → is_temporal a ≡ false → is_temporal b ≡ false → cond (is_text a || is_text b) (text_types operator a b) (number_types operator (supertype a b)) ≡ Ok taken → IsArithmetic operator a b taken
timeless_row operator a b taken k l bare s t h =
    elim (is_text a || is_text b) as (λ c. (is_text a || is_text b) ≡ c → cond c (text_types operator a b) (number_types operator (supertype a b)) ≡ Ok taken → IsArithmetic operator a b taken) [
      | true ↦ λ e h. of_texts h
      | false ↦ λ e h. let none = or_parts (is_text a) (is_text b) e in of_counts (has_bits_from a k bare.0 s none.0) (has_bits_from b l bare.1 t none.1) h
    ] refl h

pub arithmetic_row : (operator : Operator) (a b : Ty) (taken : Taken) → is_known a ≡ true → is_known b ≡ true → arithmetic_types operator a b ≡ Ok taken → IsArithmetic operator a b taken
arithmetic_row operator a b taken k l h =
    let tested = unless_so (not (is_bare a && is_bare b)) InvalidOperation _ taken h in
    let bare = and_parts (is_bare a) (is_bare b) (so_unless (is_bare a && is_bare b) tested.0) in
    elim (is_temporal a || is_temporal b) as (λ c. (is_temporal a || is_temporal b) ≡ c → cond c (time_types operator a b) (cond (is_text a || is_text b) (text_types operator a b) (number_types operator (supertype a b))) ≡ Ok taken → IsArithmetic operator a b taken) [
      | true ↦ λ e h. of_times h
      | false ↦ λ e h. let none = or_parts (is_temporal a) (is_temporal b) e in timeless_row operator a b taken k l bare none.0 none.1 h
    ] refl tested.1
