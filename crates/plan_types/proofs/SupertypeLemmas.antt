-- Common types: of a type with itself, in either order, and that they hold both.
use Rattle.std.proofs.Common.{◌≡◌, ◌⊎◌, inl, inr, ℕ, ◌-◌, ◌*◌, ◌^◌, ◌≤◌, ℤ, pos, neg_ℤ, ◌≤ℤ◌, true, false, not, ◌&&◌, cond, int_lt, nat_lt, max, Option, Some, None, refl, sym, ap, ◌∙◌, subst, arith}
use Rattle.std.proofs.lemmas.Int.{ints}
use Rattle.std.proofs.lemmas.Bool.{ltb-true, ltb-false, le-ltb}
use Rattle.std.proofs.lemmas.Bool.Decides.{Decides-int_eq}
use Rattle.std.specs.Ordering.{int_eq}
use Rattle.std.proofs.Math.Nat.{pow-le-pow_right}
use Rattle.plan_types.specs.Types.{Ty, NullType, Truth, Integer, TextType, DateType, TimeType, DatetimeType, DurationType, ListType, StructType, Untyped, Fields, no_field, with_field, coarser, ty, width_of, is_integer}
use Rattle.plan_types.specs.declared.dtype.DataType.{DataType}
use Rattle.plan_types.specs.declared.dtype.DataType.TheVariants.{Int8, Int16, Int32, Int64, UInt8, UInt16, UInt32, UInt64}
use Rattle.plan_types.specs.declared.dtype.TimeUnit.{TimeUnit}
use Rattle.plan_types.specs.declared.dtype.TimeUnit.TheVariants.{Nanoseconds, Microseconds, Milliseconds}
use Rattle.plan_types.specs.Values.{in_range, least, past_greatest}
use Rattle.plan_types.specs.Supertypes.{in_front, super_fields, supertype, signed_above}
use Rattle.std.specs.Prelude.{List}
use Rattle.std.specs.Option.{option_map}
use Rattle.std.specs.Str.{bytes_eq}
use Rattle.std.proofs.lemmas.Cmp.{nat_list_eq_equiv}
use Rattle.std.proofs.lemmas.Slice.Eq.{bytes_eq-Decides}

max_itself : (n : ℕ) → max n n ≡ n
max_itself n = omega arith

max_turned : (m n : ℕ) → max m n ≡ max n m
max_turned m n = omega arith

coarser_itself : (u : TimeUnit) → coarser u u ≡ u
coarser_itself Nanoseconds = refl
coarser_itself Microseconds = refl
coarser_itself Milliseconds = refl

coarser_turned : (u v : TimeUnit) → coarser u v ≡ coarser v u
coarser_turned Nanoseconds Nanoseconds = refl
coarser_turned Microseconds Microseconds = refl
coarser_turned Milliseconds Milliseconds = refl
coarser_turned _ _ = refl

-- a type is its own common type
mutual
  pub supertype_itself : (type : Ty) → supertype type type ≡ Some type
  supertype_itself NullType = refl
  supertype_itself Truth = refl
  supertype_itself (Integer true bits) = ap (λ n. Some (Integer true n)) (max_itself bits)
  supertype_itself (Integer false bits) = ap (λ n. Some (Integer false n)) (max_itself bits)
  supertype_itself TextType = refl
  supertype_itself DateType = refl
  supertype_itself TimeType = refl
  supertype_itself (DatetimeType u) = ap (λ unit. Some (DatetimeType unit)) (coarser_itself u)
  supertype_itself (DurationType u) = ap (λ unit. Some (DurationType unit)) (coarser_itself u)
  supertype_itself (ListType item) = ap (option_map ListType) (supertype_itself item)
  supertype_itself (StructType fields) = ap (option_map StructType) (fields_itself fields)
  supertype_itself (Untyped number) = ap (λ b. cond b (Some (Untyped number)) None) ((Decides-int_eq number number).1 refl)

  fields_itself : (fields : Fields) → super_fields fields fields ≡ Some fields
  fields_itself no_field = refl
  fields_itself (with_field name type rest) =
      ap (λ b. cond b (in_front name (supertype type type) (super_fields rest rest)) None) ((bytes_eq-Decides name name).1 refl)
      ∙ ap (λ o. in_front name o (super_fields rest rest)) (supertype_itself type) ∙ ap (in_front name (Some type)) (fields_itself rest)

-- two numbers without a type have one where they are the same
untyped_same : (m n : ℤ) (c : Ty) → cond (int_eq m n) (Some (Untyped m)) None ≡ Some c → (m ≡ n) × (Untyped m ≡ c)
untyped_same m n c h =
    elim (int_eq m n) as (λ b. int_eq m n ≡ b → cond b (Some (Untyped m)) None ≡ Some c → (m ≡ n) × (Untyped m ≡ c)) [ true ↦ λ e h. ((Decides-int_eq m n).0 e, cc) | false ↦ λ e h. cc ] refl h

untyped_symmetric : (m n : ℤ) → supertype (Untyped m) (Untyped n) ≡ supertype (Untyped n) (Untyped m)
untyped_symmetric m n =
    elim (int_eq m n) as (λ b. int_eq m n ≡ b → cond b (Some (Untyped m)) None ≡ cond (int_eq n m) (Some (Untyped n)) None) [
      | true ↦ λ e. let same = (Decides-int_eq m n).0 e in subst (λ k. Some (Untyped m) ≡ cond (int_eq k m) (Some (Untyped k)) None) same (ap (λ b. cond b (Some (Untyped m)) None) (sym ((Decides-int_eq m m).1 refl)))
      | false ↦ λ e. elim (int_eq n m) as (λ b. int_eq n m ≡ b → None ≡ cond b (Some (Untyped n)) None) [
        | true ↦ λ f. let back = (Decides-int_eq m n).1 (sym ((Decides-int_eq n m).0 f)) in cc
        | false ↦ λ f. refl
      ] refl
    ] refl

-- what is made of parts is no integer
made_no_integer : {A : Type 0} (make : A → Ty) (o : Option A) (c : Ty) → ((part : A) → is_integer (make part) ≡ false) → option_map make o ≡ Some c → is_integer c ≡ true → ⊥
made_no_integer make None c none e i = cc
made_no_integer make (Some part) c none e i = let same : make part ≡ c = cc in let bad : false ≡ true = sym (none part) ∙ ap is_integer same ∙ i in cc

untyped_no_integer : (m : ℤ) (c : Ty) → Untyped m ≡ c → is_integer c ≡ true → ⊥
untyped_no_integer m c same i = let none : is_integer (Untyped m) ≡ true = ap is_integer same ∙ i in cc

same_other : (n m : List ℕ) → bytes_eq n m ≡ bytes_eq m n
same_other n m = nat_list_eq_equiv.symm n m

name_in_front : (n m : List ℕ) (o : Option Ty) (r : Option Fields) → bytes_eq n m ≡ true → in_front n o r ≡ in_front m o r
name_in_front n m o r t = ap (λ name. in_front name o r) ((bytes_eq-Decides n m).0 t)

fields_turned : (n m : List ℕ) (o p : Option Ty) (r q : Option Fields) → o ≡ p → r ≡ q → cond (bytes_eq n m) (in_front n o r) None ≡ cond (bytes_eq m n) (in_front m p q) None
fields_turned n m o p r q same rest =
    elim (bytes_eq n m) as (λ b. bytes_eq n m ≡ b → cond b (in_front n o r) None ≡ cond b (in_front m p q) None) [ true ↦ λ t. name_in_front n m o r t ∙ ap (λ o. in_front m o r) same ∙ ap (in_front m p) rest | false ↦ λ t. refl ] refl
    ∙ ap (λ b. cond b (in_front m p q) None) (same_other n m)

-- the order of the two doesn't matter
mutual
  pub supertype_symmetric : (a b : Ty) → supertype a b ≡ supertype b a
  supertype_symmetric NullType NullType = refl
  supertype_symmetric Truth Truth = refl
  supertype_symmetric (Integer true m) (Integer true n) = ap (λ k. Some (Integer true k)) (max_turned m n)
  supertype_symmetric (Integer false m) (Integer false n) = ap (λ k. Some (Integer false k)) (max_turned m n)
  supertype_symmetric (Integer true m) (Integer false n) = refl
  supertype_symmetric (Integer false m) (Integer true n) = refl
  supertype_symmetric (Integer true m) _ = refl
  supertype_symmetric (Integer false m) _ = refl
  supertype_symmetric _ (Integer true n) = refl
  supertype_symmetric _ (Integer false n) = refl
  supertype_symmetric TextType TextType = refl
  supertype_symmetric DateType DateType = refl
  supertype_symmetric TimeType TimeType = refl
  supertype_symmetric (DatetimeType u) (DatetimeType v) = ap (λ unit. Some (DatetimeType unit)) (coarser_turned u v)
  supertype_symmetric (DurationType u) (DurationType v) = ap (λ unit. Some (DurationType unit)) (coarser_turned u v)
  supertype_symmetric (ListType a) (ListType b) = ap (option_map ListType) (supertype_symmetric a b)
  supertype_symmetric (StructType f) (StructType g) = ap (option_map StructType) (fields_symmetric f g)
  supertype_symmetric (Untyped m) (Untyped n) = untyped_symmetric m n
  supertype_symmetric _ _ = refl

  fields_symmetric : (f g : Fields) → super_fields f g ≡ super_fields g f
  fields_symmetric no_field no_field = refl
  fields_symmetric no_field (with_field m u s) = refl
  fields_symmetric (with_field n t r) no_field = refl
  fields_symmetric (with_field n t r) (with_field m u s) =
      fields_turned n m (supertype t u) (supertype u t) (super_fields r s) (super_fields s r) (supertype_symmetric t u) (fields_symmetric r s)

pow_grows : (m n : ℕ) → m ≤ n → 2 ^ m ≤ 2 ^ n
pow_grows m n h = pow-le-pow_right (omega arith) h

below_negated : (m n : ℕ) → m ≤ n → neg_ℤ (pos n) ≤ℤ neg_ℤ (pos m)
below_negated m n h = omega (arith, ints)

not_above_zero : (n : ℕ) → neg_ℤ (pos n) ≤ℤ pos 0
not_above_zero n = omega (arith, ints)

-- a number between two stands between any two further out
between : (number low high lower higher : ℤ) → lower ≤ℤ low → high ≤ℤ higher → (not (int_lt number low) && int_lt number high) ≡ true → (not (int_lt number lower) && int_lt number higher) ≡ true
between number low high lower higher l h b = grind (arith, ints)

-- a signed type has the numbers of a narrower one
signed_wider : (m n : ℕ) (number : ℤ) → m - 1 ≤ n - 1 → in_range (Integer true m) number ≡ true → in_range (Integer true n) number ≡ true
signed_wider m n number h b =
    let more = pow_grows (m - 1) (n - 1) h in
    between number _ _ _ _ (below_negated _ _ more) (omega (arith, ints, more)) b

unsigned_wider : (m n : ℕ) (number : ℤ) → m ≤ n → in_range (Integer false m) number ≡ true → in_range (Integer false n) number ≡ true
unsigned_wider m n number h b =
    let more = pow_grows m n h in
    between number _ _ _ _ (omega (arith, ints)) (omega (arith, ints, more)) b

-- and those of an unsigned one with fewer bits
signed_above_unsigned : (m n : ℕ) (number : ℤ) → m ≤ n - 1 → in_range (Integer false m) number ≡ true → in_range (Integer true n) number ≡ true
signed_above_unsigned m n number h b =
    let more = pow_grows m (n - 1) h in
    between number _ _ _ _ (not_above_zero _) (omega (arith, ints, more)) b

pub some_same : (a b : Ty) → Some a ≡ Some b → a ≡ b
some_same a b e = cc

-- what the two have, the one has that each is wider than
held : (a b c : Ty) (number : ℤ) → (in_range a number ≡ true → in_range c number ≡ true) → (in_range b number ≡ true → in_range c number ≡ true) → (in_range a number ≡ true) ⊎ (in_range b number ≡ true) → in_range c number ≡ true
held a b c number f g h = elim h [ inl x ↦ f x | inr y ↦ g y ]

mixed_holds : (m n : ℕ) (c : Ty) (number : ℤ) → signed_above m n ≡ Some c → (in_range (Integer true m) number ≡ true) ⊎ (in_range (Integer false n) number ≡ true) → in_range c number ≡ true
mixed_holds m n c number e h =
    elim (nat_lt n m) as (λ b. nat_lt n m ≡ b → cond b (Some (Integer true m)) (cond (nat_lt n 64) (Some (Integer true (2 * n))) None) ≡ Some c → in_range c number ≡ true) [
      | true ↦ λ t e. let fewer = ltb-true n m t in
          subst (λ type. in_range type number ≡ true) (some_same _ _ e)
          (held (Integer true m) (Integer false n) (Integer true m) number (λ x. x) (signed_above_unsigned n m number (omega arith)) h)
      | false ↦ λ t e. let more = ltb-false n m t in
          elim (nat_lt n 64) as (λ b. cond b (Some (Integer true (2 * n))) None ≡ Some c → in_range c number ≡ true) [
            | true ↦ λ e. subst (λ type. in_range type number ≡ true) (some_same _ _ e)
                (held (Integer true m) (Integer false n) (Integer true (2 * n)) number (signed_wider m (2 * n) number (omega arith)) (signed_above_unsigned n (2 * n) number (omega arith)) h)
            | false ↦ λ e. cc
          ] e
    ] refl e

turned : {A B : Type 0} → A ⊎ B → B ⊎ A
turned h = elim h [ inl x ↦ inr x | inr y ↦ inl y ]

-- a type without a range has no numbers
pub no_number : (type : Ty) (number : ℤ) → least type ≡ pos 0 → past_greatest type ≡ pos 0 → in_range type number ≡ true → ⊥
no_number type number low high h =
    let bare : (not (int_lt number (pos 0)) && int_lt number (pos 0)) ≡ true = subst (λ l. (not (int_lt number l) && int_lt number (pos 0)) ≡ true) low (subst (λ g. (not (int_lt number (least type)) && int_lt number g) ≡ true) high h) in
    grind (arith, ints, bare)

second_holds : (type c : Ty) (number : ℤ) → Some type ≡ Some c → (in_range NullType number ≡ true) ⊎ (in_range type number ≡ true) → in_range c number ≡ true
second_holds type c number e h = elim h [ inl x ↦ absurd (no_number NullType number refl refl x) | inr y ↦ subst (λ t. in_range t number ≡ true) (some_same _ _ e) y ]

-- where the common type is one of integers, it has the numbers of both
pub supertype_holds : (a b c : Ty) (number : ℤ) → is_integer c ≡ true → supertype a b ≡ Some c → (in_range a number ≡ true) ⊎ (in_range b number ≡ true) → in_range c number ≡ true
supertype_holds NullType b c number i e h = second_holds b c number e h
supertype_holds (Integer true m) (Integer true n) c number i e h =
    subst (λ type. in_range type number ≡ true) (some_same _ _ e)
    (held (Integer true m) (Integer true n) (Integer true (max m n)) number (signed_wider m (max m n) number (omega arith)) (signed_wider n (max m n) number (omega arith)) h)
supertype_holds (Integer false m) (Integer false n) c number i e h =
    subst (λ type. in_range type number ≡ true) (some_same _ _ e)
    (held (Integer false m) (Integer false n) (Integer false (max m n)) number (unsigned_wider m (max m n) number (omega arith)) (unsigned_wider n (max m n) number (omega arith)) h)
supertype_holds (Integer true m) (Integer false n) c number i e h = mixed_holds m n c number e h
supertype_holds (Integer false m) (Integer true n) c number i e h = mixed_holds n m c number e (turned h)
supertype_holds a NullType c number i e h = second_holds a c number (sym (supertype_symmetric a NullType) ∙ e) (turned h)
supertype_holds Truth (Integer s n) c number i e h = elim h [ inl x ↦ absurd (no_number Truth number refl refl x) | inr y ↦ subst (λ type. in_range type number ≡ true) (some_same _ _ e) y ]
supertype_holds (Integer s m) Truth c number i e h = elim h [ inl x ↦ subst (λ type. in_range type number ≡ true) (some_same _ _ e) x | inr y ↦ absurd (no_number Truth number refl refl y) ]
supertype_holds Truth Truth c number i e h = cc
supertype_holds (Integer s m) _ c number i e h = cc
supertype_holds TextType TextType c number i e h = cc
supertype_holds DateType DateType c number i e h = cc
supertype_holds TimeType TimeType c number i e h = cc
supertype_holds (DatetimeType u) (DatetimeType v) c number i e h = cc
supertype_holds (DurationType u) (DurationType v) c number i e h = cc
supertype_holds (ListType a) (ListType b) c number i e h = absurd (made_no_integer ListType (supertype a b) c (λ t. refl) e i)
supertype_holds (StructType f) (StructType g) c number i e h = absurd (made_no_integer StructType (super_fields f g) c (λ t. refl) e i)
supertype_holds (Untyped m) (Untyped n) c number i e h = let same = (untyped_same m n c e).1 in absurd (untyped_no_integer m c same i)
supertype_holds _ _ c number i e h = cc

-- an integer type of another width than these is as wide as any, and no signed type is above it
pub none_above : (signed : ℕ) (unsigned : DataType) → is_integer (ty unsigned) ≡ true → signed ≤ width_of (ty unsigned) → (width_of (ty unsigned) ≡ 8 → ⊥) → (width_of (ty unsigned) ≡ 16 → ⊥) → (width_of (ty unsigned) ≡ 32 → ⊥) → None ≡ signed_above signed (width_of (ty unsigned))
none_above signed Int8 k h not8 not16 not32 = absurd (not8 refl)
none_above signed UInt8 k h not8 not16 not32 = absurd (not8 refl)
none_above signed Int16 k h not8 not16 not32 = absurd (not16 refl)
none_above signed UInt16 k h not8 not16 not32 = absurd (not16 refl)
none_above signed Int32 k h not8 not16 not32 = absurd (not32 refl)
none_above signed UInt32 k h not8 not16 not32 = absurd (not32 refl)
none_above signed Int64 k h not8 not16 not32 = sym (ap (λ b. cond b (Some (Integer true signed)) None) (le-ltb 64 signed h))
none_above signed UInt64 k h not8 not16 not32 = sym (ap (λ b. cond b (Some (Integer true signed)) None) (le-ltb 64 signed h))
none_above signed _ k h not8 not16 not32 = cc
