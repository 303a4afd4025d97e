-- Common types of operands: they are those of columns, and have the numbers of the operands.
use Rattle.std.proofs.Common.{◌≡◌, ◌≢◌, inl, inr, ⊎_elim, Bool, true, false, cond, List, [], ◌∷◌, Option, Some, None, Ok, int_lt, refl, sym, ap, ◌∙◌, subst}
use Rattle.std.specs.Prelude.{ℕ, ◌*◌, ℤ, pos, nat_lt}
use Rattle.std.specs.List.{AllByRecursion}
use Rattle.plan_types.specs.Types.{Ty, NullType, Truth, Integer, TextType, DateType, TimeType, DatetimeType, DurationType, ListType, StructType, Untyped, Fields, no_field, with_field, are_known, is_integer, is_known}
use Rattle.plan_types.specs.Values.{in_range}
use Rattle.plan_types.specs.Supertypes.{in_front, super_fields, supertype, signed_above}
use Rattle.std.specs.Str.{bytes_eq}
use Rattle.std.proofs.lemmas.Bool.{and_parts, and_from}
use Rattle.plan_types.specs.CommonTypes.{first_with, types_alone, signed_types, unsigned_types, known_type, literal_type, type_alone, least_signed, least_unsigned, least_type, own_type, type_beside, found_common, common_of, common_type}
use Rattle.plan_types.specs.Errors.{IsMemoryOr, IsRefusal, no_room, broken}
use Rattle.plan_types.specs.declared.error.ErrorKind.TheVariants.{SchemaMismatch, InvalidOperation}
use Rattle.plan_types.specs.declared.error.PlanError.{PlanError}
use Rattle.plan_types.specs.Casts.{can_cast}
use Rattle.plan_types.proofs.MadeLemmas.{made_of, front_of}
use Rattle.plan_types.proofs.CastLemmas.{supertype_casts}
use Rattle.plan_types.proofs.SupertypeLemmas.{some_same, supertype_itself, supertype_symmetric, supertype_holds}

-- a type of columns, one of integers, that has the number
abbrev pub HasNumber : ℤ → Ty → Type 0
HasNumber number type = (in_range type number ≡ true) × (is_known type ≡ true) × (is_integer type ≡ true)

is_it : (type found : Ty) → is_known type ≡ true → Some type ≡ Some found → is_known found ≡ true
is_it type found k e = let same : type ≡ found = cc in subst (λ t. is_known t ≡ true) same k

known_is : (type found : Ty) → known_type type ≡ Some found → is_known found ≡ true
known_is type found h =
    elim (is_known type) as (λ b. is_known type ≡ b → cond b (Some type) None ≡ Some found → is_known found ≡ true) [ true ↦ λ e h. is_it type found e h | false ↦ λ e h. cc ] refl h

known_there : (type : Ty) → is_known type ≡ true → known_type type ≡ Some type
known_there type k = ap (λ b. cond b (Some type) None) k

first_has : (types : List Ty) (number : ℤ) (found : Ty) → AllByRecursion (λ type. (is_known type ≡ true) × (is_integer type ≡ true)) types → first_with types number ≡ Some found → HasNumber number found
first_has [] number found known h = cc
first_has (type ∷ types) number found known h =
    elim (in_range type number) as (λ b. in_range type number ≡ b → cond b (Some type) (first_with types number) ≡ Some found → HasNumber number found) [ true ↦ λ e h. let same : type ≡ found = cc in subst (HasNumber number) same (e, known.0.0, known.0.1) | false ↦ λ e h. first_has types number found known.1 h ] refl h

-- the type of a number alone has it
pub literal_has : (number : ℤ) (found : Ty) → literal_type number ≡ Some found → HasNumber number found
literal_has number found h = first_has types_alone number found ((refl, refl), ((refl, refl), ((refl, refl), tt))) h

least_signed_has : (number : ℤ) (found : Ty) → least_signed number ≡ Some found → HasNumber number found
least_signed_has number found h = first_has signed_types number found ((refl, refl), ((refl, refl), ((refl, refl), ((refl, refl), ((refl, refl), tt))))) h

least_has : (signed : Bool) (number : ℤ) (found : Ty) → least_type signed number ≡ Some found → HasNumber number found
least_has true number found h = least_signed_has number found h
least_has false number found h =
    elim (int_lt number (pos 0)) as (λ b. cond b (least_signed number) (least_unsigned number) ≡ Some found → HasNumber number found) [ true ↦ λ h. least_signed_has number found h | false ↦ λ h. first_has unsigned_types number found ((refl, refl), ((refl, refl), ((refl, refl), ((refl, refl), tt)))) h ] h

-- an operand alone has a type of columns, and one that has such a type keeps it
pub alone_known : (type found : Ty) → type_alone type ≡ Some found → is_known found ≡ true
alone_known (Untyped number) found h = (literal_has number found h).1
alone_known type found h = known_is type found h

pub alone_itself : (type : Ty) → is_known type ≡ true → type_alone type ≡ Some type
alone_itself (Untyped number) k = cc
alone_itself type k = known_there type k

-- what is no number's own type stays alone
known_same : (type own : Ty) → known_type type ≡ Some own → own ≡ type
known_same type own h =
    elim (is_known type) as (λ b. cond b (Some type) None ≡ Some own → own ≡ type) [ true ↦ λ h. some_same own type (sym h) | false ↦ λ h. cc ] h

pub alone_same : (type own : Ty) → type_alone type ≡ Some own → ((number : ℤ) → type ≢ Untyped number) → own ≡ type
alone_same (Untyped number) own h apart = absurd (apart number refl)
alone_same type own h apart = known_same type own h

-- and beside another operand
pub beside_same : (type other own : Ty) → type_beside type other ≡ Some own → ((number : ℤ) → type ≢ Untyped number) → own ≡ type
beside_same (Untyped number) other own h apart = absurd (apart number refl)
beside_same type other own h apart = known_same type own h

-- a number's type beside another operand has it
pub own_has : (number : ℤ) (other found : Ty) → own_type number other ≡ Some found → HasNumber number found
own_has number (Integer signed bits) found h =
    elim (in_range (Integer signed bits) number) as (λ b. in_range (Integer signed bits) number ≡ b → cond b (Some (Integer signed bits)) (least_type signed number) ≡ Some found → HasNumber number found) [ true ↦ λ e h. let same : Integer signed bits ≡ found = cc in subst (HasNumber number) same (e, refl, refl) | false ↦ λ e h. least_has signed number found h ] refl h
own_has number type found h = literal_has number found h

pub beside_known : (left right found : Ty) → type_beside left right ≡ Some found → is_known found ≡ true
beside_known (Untyped number) right found h = (own_has number right found h).1
beside_known left right found h = known_is left found h

-- what is true of each signed type is true of the least one that holds a signed and an unsigned type
pub signed_above_is : (P : Ty → Bool) → ((bits : ℕ) → P (Integer true bits) ≡ true) → (m n : ℕ) (found : Ty) → signed_above m n ≡ Some found → P found ≡ true
signed_above_is P each m n found h =
    elim (nat_lt n m) as (λ b. cond b (Some (Integer true m)) (cond (nat_lt n 64) (Some (Integer true (2 * n))) None) ≡ Some found → P found ≡ true) [
      | true ↦ λ h. let same : Integer true m ≡ found = cc in subst (λ t. P t ≡ true) same (each m)
      | false ↦ λ h. elim (nat_lt n 64) as (λ b. cond b (Some (Integer true (2 * n))) None ≡ Some found → P found ≡ true) [
        | true ↦ λ h. let same : Integer true (2 * n) ≡ found = cc in subst (λ t. P t ≡ true) same (each (2 * n))
        | false ↦ λ h. cc
      ] h
    ] h

above_known : (m n : ℕ) (found : Ty) → signed_above m n ≡ Some found → is_known found ≡ true
above_known = signed_above_is is_known (λ bits. refl)

known_as : (made found : Ty) → made ≡ found → is_known made ≡ true → is_known found ≡ true
known_as made found e k = subst (λ t. is_known t ≡ true) e k

-- the common type of types of columns is one
mutual
  pub supertype_known : (a b found : Ty) → is_known a ≡ true → is_known b ≡ true → supertype a b ≡ Some found → is_known found ≡ true
  supertype_known NullType b found k l h = is_it b found l h
  supertype_known Truth Truth found k l h = is_it Truth found refl h
  supertype_known (Integer true m) (Integer true n) found k l h = is_it _ found refl h
  supertype_known (Integer false m) (Integer false n) found k l h = is_it _ found refl h
  supertype_known (Integer true m) (Integer false n) found k l h = above_known m n found h
  supertype_known (Integer false m) (Integer true n) found k l h = above_known n m found h
  supertype_known (Untyped m) b found k l h = cc
  supertype_known a NullType found k l h = is_it a found k (sym (supertype_symmetric a NullType) ∙ h)
  supertype_known Truth (Integer s n) found k l h = is_it (Integer s n) found refl h
  supertype_known (Integer s m) Truth found k l h = is_it (Integer s m) found refl h
  supertype_known Truth TextType found k l h = is_it TextType found refl h
  supertype_known TextType Truth found k l h = is_it TextType found refl h
  supertype_known (Integer s m) TextType found k l h = is_it TextType found refl h
  supertype_known TextType (Integer s n) found k l h = is_it TextType found refl h
  supertype_known TextType TextType found k l h = is_it TextType found refl h
  supertype_known DateType DateType found k l h = is_it DateType found refl h
  supertype_known DateType (DatetimeType u) found k l h = is_it (DatetimeType u) found refl h
  supertype_known (DatetimeType u) DateType found k l h = is_it (DatetimeType u) found refl h
  supertype_known TimeType TimeType found k l h = is_it TimeType found refl h
  supertype_known (DatetimeType u) (DatetimeType v) found k l h = is_it _ found refl h
  supertype_known (DurationType u) (DurationType v) found k l h = is_it _ found refl h
  supertype_known (ListType a) (ListType b) found k l h =
      let m = made_of ListType (supertype a b) found h in known_as (ListType m.part) found m.made_is (supertype_known a b m.part k l m.part_is)
  supertype_known (StructType f) (StructType g) found k l h =
      let m = made_of StructType (super_fields f g) found h in known_as (StructType m.part) found m.made_is (fields_known f g m.part k l m.part_is)
  supertype_known _ _ found k l h = cc

  fields_known : (f g found : Fields) → are_known f ≡ true → are_known g ≡ true → super_fields f g ≡ Some found → are_known found ≡ true
  fields_known no_field no_field found k l h = let same : no_field ≡ found = cc in subst (λ f. are_known f ≡ true) same refl
  fields_known no_field (with_field m u s) found k l h = cc
  fields_known (with_field n t r) no_field found k l h = cc
  fields_known (with_field n t r) (with_field m u s) found k l h =
      elim (bytes_eq n m) as (λ b. cond b (in_front n (supertype t u) (super_fields r s)) None ≡ Some found → are_known found ≡ true) [
        | true ↦ λ h.
            let p = front_of n (supertype t u) (super_fields r s) found h in
            let left = and_parts (is_known t) (are_known r) k in
            let right = and_parts (is_known u) (are_known s) l in
            subst (λ f. are_known f ≡ true) p.made_is (and_from (is_known p.type) (are_known p.rest) (supertype_known t u p.type left.0 right.0 p.type_is) (fields_known r s p.rest left.1 right.1 p.rest_is))
        | false ↦ λ h. cc
      ] h

-- what two operands with a common type have of their own
record Parts (left right found : Ty) : Type 0 where
  left_own : Ty
  left_is : type_beside left right ≡ Some left_own
  right_own : Ty
  right_is : type_beside right left ≡ Some right_own
  common : supertype left_own right_own ≡ Some found

found_is : (o : Option Ty) (found : Ty) → found_common o ≡ Ok found → o ≡ Some found
found_is None found h = cc
found_is (Some type) found h = cc

parts : (left right found : Ty) → common_type left right ≡ Ok found → Parts left right found
parts left right found h =
    elim (type_beside left right) as (λ l. type_beside left right ≡ l → common_of l (type_beside right left) ≡ Ok found → Parts left right found) [
      | None ↦ λ e h. cc
      | Some a ↦ λ e h. elim (type_beside right left) as (λ r. type_beside right left ≡ r → common_of (Some a) r ≡ Ok found → Parts left right found) [
        | None ↦ λ f h. cc
        | Some b ↦ λ f h. record { left_own = a; left_is = e; right_own = b; right_is = f; common = found_is (supertype a b) found h }
      ] refl h
    ] refl h

-- the common type of operands is one of columns
pub common_known : (left right found : Ty) → common_type left right ≡ Ok found → is_known found ≡ true
common_known left right found h =
    let p = parts left right found h in supertype_known p.left_own p.right_own found (beside_known left right p.left_own p.left_is) (beside_known right left p.right_own p.right_is) p.common

-- and one of integers has the number of an operand that had no type
pub common_has_left : (number : ℤ) (right found : Ty) → is_integer found ≡ true → common_type (Untyped number) right ≡ Ok found → in_range found number ≡ true
common_has_left number right found i h =
    let p = parts (Untyped number) right found h in supertype_holds p.left_own p.right_own found number i p.common (inl (own_has number right p.left_own p.left_is).0)

pub common_has_right : (number : ℤ) (left found : Ty) → is_integer found ≡ true → common_type left (Untyped number) ≡ Ok found → in_range found number ≡ true
common_has_right number left found i h =
    let p = parts left (Untyped number) found h in supertype_holds p.left_own p.right_own found number i p.common (inr (own_has number left p.right_own p.right_is).0)

pub own_beside : (type other : Ty) → is_known type ≡ true → type_beside type other ≡ Some type
own_beside (Untyped number) other k = cc
own_beside type other k = known_there type k

-- of columns' types it is their common type
pub common_of_known : (left right : Ty) → is_known left ≡ true → is_known right ≡ true → common_type left right ≡ found_common (supertype left right)
common_of_known left right k l =
    ap (λ o. common_of o (type_beside right left)) (own_beside left right k) ∙ ap (common_of (Some left)) (own_beside right left l)

pub common_itself : (type : Ty) → is_known type ≡ true → common_type type type ≡ Ok type
common_itself type k = common_of_known type type k k ∙ ap found_common (supertype_itself type)

-- why there is none
pub left_refused : (left right : Ty) (error : PlanError) → IsMemoryOr InvalidOperation (type_beside left right ≡ None) error → IsRefusal (common_type left right) error
left_refused left right error h =
    ⊎_elim (λ e. no_room e) (λ p. broken InvalidOperation p.0 (ap (λ o. common_of o (type_beside right left)) p.1)) h

pub right_refused : (left right own : Ty) (error : PlanError) → type_beside left right ≡ Some own → IsMemoryOr InvalidOperation (type_beside right left ≡ None) error → IsRefusal (common_type left right) error
right_refused left right own error is h =
    ⊎_elim (λ e. no_room e) (λ p. broken InvalidOperation p.0 (ap (λ o. common_of o (type_beside right left)) is ∙ ap (common_of (Some own)) p.1)) h

pub mismatched : (left right a b : Ty) (error : PlanError) → type_beside left right ≡ Some a → type_beside right left ≡ Some b → IsMemoryOr SchemaMismatch (supertype a b ≡ None) error → IsRefusal (common_type left right) error
mismatched left right a b error is other h =
    ⊎_elim (λ e. no_room e) (λ p. broken SchemaMismatch p.0 (ap (λ o. common_of o (type_beside right left)) is ∙ ap (common_of (Some a)) other ∙ ap found_common p.1)) h

common_turned : (l r : Option Ty) → common_of l r ≡ common_of r l
common_turned None None = refl
common_turned None (Some b) = refl
common_turned (Some a) None = refl
common_turned (Some a) (Some b) = ap found_common (supertype_symmetric a b)

-- the order of the operands doesn't matter
pub common_symmetric : (left right : Ty) → common_type left right ≡ common_type right left
common_symmetric left right = common_turned (type_beside left right) (type_beside right left)

-- and there is a cast to it from the type that an operand gets
pub common_casts : (left right found own : Ty) → common_type left right ≡ Ok found → type_beside left right ≡ Some own → can_cast own found ≡ true
common_casts left right found own h is =
    let p = parts left right found h in
    let same : p.left_own ≡ own = some_same p.left_own own (sym p.left_is ∙ is) in
    let casts = supertype_casts p.left_own p.right_own found (beside_known left right p.left_own p.left_is) (beside_known right left p.right_own p.right_is) p.common in
    subst (λ t. can_cast t found ≡ true) same casts.0
