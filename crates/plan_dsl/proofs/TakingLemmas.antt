-- What an operator takes two types of columns to: that they can become it, that what was taken stays, and that over values
-- that fit the types the operator gives values of its own.
use Rattle.std.proofs.Common.{◌≡◌, inl, ℕ, Bool, true, false, ◌&&◌, cond, Option, Some, None, Result, Ok, Err, IsTrue, refl, subst}
use Rattle.std.specs.Prelude.{ℤ}
use Rattle.std.proofs.lemmas.Bool.{and_from}
use Rattle.plan_types.specs.Types.{Ty, NullType, Truth, Integer, is_integer, is_known, is_text}
use Rattle.plan_types.specs.Values.{Val, in_range, fits}
use Rattle.plan_types.specs.Supertypes.{supertype, signed_above}
use Rattle.plan_types.specs.Casts.{can_cast}
use Rattle.plan_types.specs.declared.error.ErrorKind.{ErrorKind}
use Rattle.plan_types.proofs.SupertypeLemmas.{some_same, supertype_holds}
use Rattle.plan_types.proofs.CommonLemmas.{signed_above_is, supertype_known}
use Rattle.plan_types.proofs.CastLemmas.{supertype_casts}
use Rattle.plan_dsl.specs.OperatorTypes.{Taken, pair_to, both_to}
use Rattle.plan_dsl.proofs.TypingLemmas.{ok_same}

-- what a test lets through
pub unless_so : (test : Bool) (kind : ErrorKind) (found : Result Taken ErrorKind) (taken : Taken) → cond test (Err kind) found ≡ Ok taken → (test ≡ false) × (found ≡ Ok taken)
unless_so true kind found taken h = cc
unless_so false kind found taken h = (refl, h)

pub both_is : (found : Option Ty) (result : Ty → Ty) (taken : Taken) → both_to found result ≡ Ok taken → (common : Ty) × (found ≡ Some common) × (pair_to common common (result common) ≡ taken)
both_is None result taken h = cc
both_is (Some common) result taken h = (common, refl, ok_same (both_to (Some common) result) _ taken refl h)

pub some_is : (P : Ty → Type 0) (a b : Ty) → Some a ≡ Some b → P a → P b
some_is P a b e p = subst P (some_same a b e) p

-- ---- common types that have the operands' values

above_integer : (m n : ℕ) (found : Ty) → signed_above m n ≡ Some found → is_integer found ≡ true
above_integer = signed_above_is is_integer (λ bits. refl)

-- an integer's common type with what is no text is an integer's
pub integer_common : (a b c : Ty) → is_integer a ≡ true → is_text b ≡ false → supertype a b ≡ Some c → is_integer c ≡ true
integer_common (Integer signed m) NullType c i t h = some_is (λ t. is_integer t ≡ true) _ c h refl
integer_common (Integer signed m) Truth c i t h = some_is (λ t. is_integer t ≡ true) _ c h refl
integer_common (Integer true m) (Integer true n) c i t h = some_is (λ t. is_integer t ≡ true) _ c h refl
integer_common (Integer false m) (Integer false n) c i t h = some_is (λ t. is_integer t ≡ true) _ c h refl
integer_common (Integer true m) (Integer false n) c i t h = above_integer m n c h
integer_common (Integer false m) (Integer true n) c i t h = above_integer n m c h
integer_common _ _ c i t h = cc

-- a type of columns becomes another: there is a cast, and an integer type becomes one that has its numbers
pub record Becomes (from target : Ty) : Type 0 where
  pub known : is_known target ≡ true
  pub casts : can_cast from target ≡ true
  pub has : (number : ℤ) → is_integer from ≡ true → in_range from number ≡ true → (is_integer target && in_range target number) ≡ true

-- what is no integer type becomes what it can be cast to
pub other_becomes : (from target : Ty) → is_known target ≡ true → can_cast from target ≡ true → is_integer from ≡ false → Becomes from target
other_becomes from target k c other = record { known = k; casts = c; has = λ number i r. cc }

-- and an integer type an integer type that is its common type with another
pub integer_becomes : (a b c : Ty) → is_known c ≡ true → can_cast a c ≡ true → is_integer c ≡ true → supertype a b ≡ Some c → Becomes a c
integer_becomes a b c known casts integer h = record {
  known = known;
  casts = casts;
  has = λ number i r. and_from (is_integer c) (in_range c number) integer (supertype_holds a b c number integer h (inl r));
}

pub common_becomes : (a b c : Ty) → is_known a ≡ true → is_known b ≡ true → supertype a b ≡ Some c → (is_integer a ≡ true → is_text b ≡ false) → Becomes a c
common_becomes a b c k l h apart = record {
  known = supertype_known a b c k l h;
  casts = (supertype_casts a b c k l h).0;
  has = λ number i r. let integer = integer_common a b c i (apart i) h in and_from (is_integer c) (in_range c number) integer (supertype_holds a b c number integer h (inl r));
}

-- ---- what an operator takes two types of columns to, and gives of their values: by the first operand's type and its own
pub record TakesPair (types : Ty → Ty → Result Taken ErrorKind) (value : Ty → Ty → Val → Val → Val) (a b : Ty) (taken : Taken) : Type 0 where
  pub left : Ty
  pub right : Ty
  pub type : Ty
  pub is : pair_to left right type ≡ taken
  pub left_becomes : Becomes a left
  pub right_becomes : Becomes b right
  pub known : is_known type ≡ true
  pub stays : types left right ≡ Ok (pair_to left right type)
  pub fitting : (x y : Val) → IsTrue (fits x left) → IsTrue (fits y right) → IsTrue (fits (value left type x y) type)
