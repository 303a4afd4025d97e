-- Operands that are taken to a common type: they can become of it, and it is theirs once they are.
use Rattle.std.proofs.Common.{◌≡◌, ℕ, suc, Bool, true, false, List, [], ◌∷◌, length, Option, Some, None, Ok, refl, sym, ap, ◌∙◌, subst}
use Rattle.std.specs.Prelude.{ℤ}
use Rattle.std.proofs.lemmas.Bool.{and_from}
use Rattle.plan_types.specs.Types.{Ty, Integer, Untyped, is_integer, is_known}
use Rattle.plan_types.specs.Values.{in_range}
use Rattle.plan_types.specs.Supertypes.{supertype}
use Rattle.plan_types.specs.Casts.{can_cast}
use Rattle.plan_types.specs.CommonTypes.{common_of, common_type, found_common, literal_type, type_alone, type_beside}
use Rattle.plan_types.proofs.CommonLemmas.{beside_same, common_casts, common_has_left, common_itself, common_known, common_symmetric, own_has}
use Rattle.plan_types.proofs.SupertypeLemmas.{some_same}
use Rattle.plan_dsl.specs.declared.signature.Sharing.{Sharing}
use Rattle.plan_dsl.specs.declared.signature.Sharing.TheVariants.{Alone, WithSecond, WithThird}
use Rattle.plan_dsl.specs.Strictness.{CanBecome, integer_has}
use Rattle.plan_dsl.specs.Typing.{Typed, shared_at, shared_type}
use Rattle.plan_dsl.proofs.TakingLemmas.{integer_common}

-- ---- the common type of two

found_some : (found : Option Ty) (type : Ty) → found_common found ≡ Ok type → found ≡ Some type
found_some None type h = cc
found_some (Some own) type h = let same : own ≡ type = cc in ap Some same

record Commons (left right found : Ty) : Type 0 where
  pub left_own : Ty
  pub left_is : type_beside left right ≡ Some left_own
  pub right_own : Ty
  pub right_is : type_beside right left ≡ Some right_own
  pub common : supertype left_own right_own ≡ Some found

parts : (left right found : Ty) → common_type left right ≡ Ok found → Commons left right found
parts left right found h =
    elim (type_beside left right) as (λ l. type_beside left right ≡ l → common_of l (type_beside right left) ≡ Ok found → Commons left right found) [
      | None ↦ λ e h. cc
      | Some a ↦ λ e h. elim (type_beside right left) as (λ r. type_beside right left ≡ r → common_of (Some a) r ≡ Ok found → Commons left right found) [
        | None ↦ λ f h. cc
        | Some b ↦ λ f h. record { left_own = a; left_is = e; right_own = b; right_is = f; common = found_some (supertype a b) found h }
      ] refl h
    ] refl h

-- beside an integer a number without a type gets one of integers, and so the common type is one
beside_integer : (number : ℤ) (signed : Bool) (bits : ℕ) (found : Ty) → common_type (Untyped number) (Integer signed bits) ≡ Ok found → is_integer found ≡ true
beside_integer number signed bits found h =
    let p = parts (Untyped number) (Integer signed bits) found h in
    let known : p.right_own ≡ Integer signed bits = beside_same (Integer signed bits) (Untyped number) p.right_own p.right_is (λ n e. cc) in
    let has = own_has number (Integer signed bits) p.left_own p.left_is in
    integer_common p.left_own (Integer signed bits) found has.2 refl (subst (λ t. supertype p.left_own t ≡ Some found) known p.common)

-- so one that isn't has been cast from the type that the number has alone
number_casts : (number : ℤ) (right found : Ty) → common_type (Untyped number) right ≡ Ok found → integer_has found number ≡ false → (own : Ty) × (literal_type number ≡ Some own) × (can_cast own found ≡ true)
number_casts number (Integer signed bits) found h lacks =
    let integer = beside_integer number signed bits found h in
    let there = and_from (is_integer found) (in_range found number) integer (common_has_left number (Integer signed bits) found integer h) in cc
number_casts number right found h lacks =
    let p = parts (Untyped number) right found h in (p.left_own, p.left_is, common_casts (Untyped number) right found p.left_own h p.left_is)

pub left_shares : (left right found : Ty) → common_type left right ≡ Ok found → CanBecome left found
left_shares left right found h =
    let p = parts left right found h in
    record {
      known = common_known left right found h;
      casts = λ apart. subst (λ t. can_cast t found ≡ true) (beside_same left right p.left_own p.left_is apart) (common_casts left right found p.left_own h p.left_is);
      has = λ number e lacks.
          let is = sym (ap (λ t. common_type t right) e) ∙ h in
          let own = number_casts number right found is lacks in
          (own.0, ap type_alone e ∙ own.1, own.2);
    }

pub right_shares : (left right found : Ty) → common_type left right ≡ Ok found → CanBecome right found
right_shares left right found h = left_shares right left found (sym (common_symmetric left right) ∙ h)

-- ---- operands that share a type

-- each of them can become of it
abbrev pub SharesFrom : Ty → Sharing → ℕ → List Typed → Type 0
SharesFrom shared sharing place [] = Unit {0}
SharesFrom shared sharing place (t ∷ ts) = ((type : Ty) → shared_at sharing shared place ≡ Some type → CanBecome t.type type) × SharesFrom shared sharing (suc place) ts

-- and has it
abbrev pub SharedFrom : Ty → Sharing → ℕ → List Typed → Type 0
SharedFrom shared sharing place [] = Unit {0}
SharedFrom shared sharing place (t ∷ ts) = ((type : Ty) → shared_at sharing shared place ≡ Some type → t.type ≡ type) × SharedFrom shared sharing (suc place) ts

none_shares : (shared : Ty) (place : ℕ) (typed : List Typed) → SharesFrom shared Alone place typed
none_shares shared place [] = tt
none_shares shared place (t ∷ ts) = (λ type e. cc, none_shares shared (suc place) ts)

behind_second : (shared : Ty) (place : ℕ) (typed : List Typed) → SharesFrom shared WithSecond (suc (suc place)) typed
behind_second shared place [] = tt
behind_second shared place (t ∷ ts) = (λ type e. cc, behind_second shared (suc place) ts)

behind_third : (shared : Ty) (place : ℕ) (typed : List Typed) → SharesFrom shared WithThird (suc (suc (suc place))) typed
behind_third shared place [] = tt
behind_third shared place (t ∷ ts) = (λ type e. cc, behind_third shared (suc place) ts)

pub shares_type : (sharing : Sharing) (typed : List Typed) (shared : Ty) → shared_type sharing typed ≡ Ok shared → SharesFrom shared sharing 0 typed
shares_type Alone typed shared h = none_shares shared 0 typed
shares_type WithSecond (first ∷ second ∷ rest) shared h = (
  λ type e. subst (CanBecome first.type) (some_same shared type e) (left_shares first.type second.type shared h),
  (λ type e. subst (CanBecome second.type) (some_same shared type e) (right_shares first.type second.type shared h), behind_second shared 0 rest),
)
shares_type WithThird (first ∷ second ∷ third ∷ rest) shared h = (
  λ type e. subst (CanBecome first.type) (some_same shared type e) (left_shares first.type third.type shared h),
  (
    λ type e. cc,
    (λ type e. subst (CanBecome third.type) (some_same shared type e) (right_shares first.type third.type shared h), behind_third shared 0 rest),
  ),
)
shares_type _ _ shared h = cc

-- the common type of what has it is that type
twice_common : (left right shared : Ty) → left ≡ shared → right ≡ shared → is_known shared ≡ true → common_type left right ≡ Ok shared
twice_common left right shared l r k = (λ i. common_type (l i) (r i)) ∙ common_itself shared k

pub shared_again : (sharing : Sharing) (typed own : List Typed) (shared : Ty) → length own ≡ length typed → shared_type sharing typed ≡ Ok shared → SharedFrom shared sharing 0 own → shared_type sharing own ≡ Ok shared
shared_again Alone typed own shared many h same = h
shared_again WithSecond (first ∷ second ∷ rest) (x ∷ y ∷ others) shared many h same =
    twice_common x.type y.type shared (same.0 shared refl) (same.1.0 shared refl) (common_known first.type second.type shared h)
shared_again WithThird (first ∷ second ∷ third ∷ rest) (x ∷ y ∷ z ∷ others) shared many h same =
    twice_common x.type z.type shared (same.0 shared refl) (same.1.1.0 shared refl) (common_known first.type third.type shared h)
shared_again WithSecond (first ∷ second ∷ rest) [] shared many h same = cc
shared_again WithSecond (first ∷ second ∷ rest) (x ∷ []) shared many h same = cc
shared_again WithThird (first ∷ second ∷ third ∷ rest) [] shared many h same = cc
shared_again WithThird (first ∷ second ∷ third ∷ rest) (x ∷ []) shared many h same = cc
shared_again WithThird (first ∷ second ∷ third ∷ rest) (x ∷ y ∷ []) shared many h same = cc
shared_again _ _ _ shared many h same = cc
