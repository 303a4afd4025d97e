-- The order of types, and common types in it.
use Rattle.std.proofs.Common.{◌≡◌, inl, ℕ, ◌<◌, ◌≤◌, ◌-◌, ◌*◌, Bool, true, false, ◌&&◌, nat_lt, List, [], ◌∷◌, Option, Some, None, refl, sym, ap, ◌∙◌, subst, arith}
use Rattle.std.specs.Prelude.{ℤ, max, nat_le}
use Rattle.std.specs.List.{AllByRecursion}
use Rattle.std.specs.Option.{option_map}
use Rattle.std.specs.Ordering.{int_eq}
use Rattle.std.specs.Str.{bytes_eq}
use Rattle.std.proofs.lemmas.Bool.{and_parts, and_from, cond_both, cond-true, leb-true, le-leb, lt-ltb, ltb-true, ltb-false}
use Rattle.std.proofs.lemmas.Bool.Decides.{Decides-int_eq}
use Rattle.std.proofs.lemmas.Cmp.{nat_list_eq_equiv}
use Rattle.std.proofs.lemmas.Option.{option_and_then_some}
use Rattle.std.proofs.lemmas.Slice.Eq.{bytes_eq-Decides}
use Rattle.plan_types.specs.Types.{Ty, NullType, Truth, Integer, TextType, DateType, TimeType, DatetimeType, DurationType, ListType, StructType, Untyped, Fields, no_field, with_field, are_known, coarser, is_integer, is_known, unit_rank}
use Rattle.plan_types.specs.declared.dtype.TimeUnit.{TimeUnit}
use Rattle.plan_types.specs.declared.dtype.TimeUnit.TheVariants.{Nanoseconds, Microseconds, Milliseconds}
use Rattle.plan_types.specs.Values.{in_range}
use Rattle.plan_types.specs.Casts.{can_cast, can_cast_fields}
use Rattle.plan_types.specs.Supertypes.{in_front, super_fields, supertype, signed_above}
use Rattle.plan_types.specs.TypeOrder.{is_narrower, unit_is_below, is_below, are_below, folded_from, folded_type}
use Rattle.plan_types.proofs.SupertypeLemmas.{some_same, supertype_holds, supertype_symmetric}
use Rattle.plan_types.proofs.CommonLemmas.{supertype_known}

-- a number of bits, or a unit's place, is at most itself
at_most_itself : (n : ℕ) → nat_le n n ≡ true
at_most_itself n = le-leb n n (omega arith)

-- each type is below itself
mutual
  pub below_itself : (type : Ty) → is_below type type ≡ true
  below_itself (Integer true bits) = at_most_itself bits
  below_itself (Integer false bits) = at_most_itself bits
  below_itself (DatetimeType unit) = at_most_itself (unit_rank unit)
  below_itself (DurationType unit) = at_most_itself (unit_rank unit)
  below_itself (ListType item) = below_itself item
  below_itself (StructType fields) = are_below_themselves fields
  below_itself (Untyped number) = (Decides-int_eq number number).1 refl
  below_itself _ = refl

  are_below_themselves : (fields : Fields) → are_below fields fields ≡ true
  are_below_themselves no_field = refl
  are_below_themselves (with_field name type rest) =
      and_from _ _ ((bytes_eq-Decides name name).1 refl) (and_from _ _ (below_itself type) (are_below_themselves rest))

-- whether a type is below what was found, and whether fields are: below nothing is each
abbrev below_found : Ty → Option Ty → Bool
below_found type None = true
below_found type (Some found) = is_below type found

abbrev fields_below_found : Fields → Option Fields → Bool
fields_below_found fields None = true
fields_below_found fields (Some found) = are_below fields found

-- what is below the wider of a signed and an unsigned type, and below twice the unsigned one, is below what holds both
below_above : (type : Ty) (m n : ℕ) → (n < m → is_below type (Integer true m) ≡ true) → (m ≤ n → is_below type (Integer true (2 * n)) ≡ true) → below_found type (signed_above m n) ≡ true
below_above type m n wider twice =
    cond_both (nat_lt n m) _ _ (λ o. below_found type o ≡ true) (λ t. wider (ltb-true n m t))
    (λ t. cond_both (nat_lt n 64) _ _ (λ o. below_found type o ≡ true) (λ u. twice (ltb-false n m t)) (λ u. refl))

signed_below_above : (m n : ℕ) → below_found (Integer true m) (signed_above m n) ≡ true
signed_below_above m n = below_above (Integer true m) m n (λ h. at_most_itself m) (λ h. le-leb m (2 * n) (omega arith))

unsigned_below_above : (m n : ℕ) → below_found (Integer false n) (signed_above m n) ≡ true
unsigned_below_above m n = below_above (Integer false n) m n (λ h. le-leb n (m - 1) (omega arith)) (λ h. le-leb n (2 * n - 1) (omega arith))

-- a unit is below the coarser of it and another
below_coarser : (u v : TimeUnit) → unit_is_below v (coarser u v) ≡ true
below_coarser Nanoseconds Nanoseconds = refl
below_coarser Microseconds Microseconds = refl
below_coarser Milliseconds Milliseconds = refl
below_coarser _ _ = refl

list_below_found : (item : Ty) (o : Option Ty) → below_found item o ≡ true → below_found (ListType item) (option_map ListType o) ≡ true
list_below_found item None h = refl
list_below_found item (Some found) h = h

struct_below_found : (fields : Fields) (o : Option Fields) → fields_below_found fields o ≡ true → below_found (StructType fields) (option_map StructType o) ≡ true
struct_below_found fields None h = refl
struct_below_found fields (Some found) h = h

field_below_found : (n m : List ℕ) (u : Ty) (s : Fields) (o : Option Ty) (r : Option Fields) → bytes_eq n m ≡ true → below_found u o ≡ true → fields_below_found s r ≡ true → fields_below_found (with_field m u s) (in_front n o r) ≡ true
field_below_found n m u s None r e h k = refl
field_below_found n m u s (Some type) None e h k = refl
field_below_found n m u s (Some type) (Some rest) e h k = and_from _ _ (sym (nat_list_eq_equiv.symm n m) ∙ e) (and_from _ _ h k)

-- the second of two types is below their common type
mutual
  second_below : (a b : Ty) → below_found b (supertype a b) ≡ true
  second_below NullType b = below_itself b
  second_below _ NullType = refl
  second_below Truth (Integer s n) = below_itself (Integer s n)
  second_below DateType (DatetimeType u) = below_itself (DatetimeType u)
  second_below (Integer true m) (Integer true n) = le-leb n (max m n) (omega arith)
  second_below (Integer false m) (Integer false n) = le-leb n (max m n) (omega arith)
  second_below (Integer true m) (Integer false n) = unsigned_below_above m n
  second_below (Integer false m) (Integer true n) = signed_below_above n m
  second_below (DatetimeType u) (DatetimeType v) = below_coarser u v
  second_below (DurationType u) (DurationType v) = below_coarser u v
  second_below (ListType a) (ListType b) = list_below_found b (supertype a b) (second_below a b)
  second_below (StructType f) (StructType g) = struct_below_found g (super_fields f g) (second_fields_below f g)
  second_below (Untyped m) (Untyped n) =
      cond_both (int_eq m n) _ _ (λ o. below_found (Untyped n) o ≡ true) (λ t. (Decides-int_eq n m).1 (sym ((Decides-int_eq m n).0 t))) (λ t. refl)
  second_below _ _ = refl

  second_fields_below : (f g : Fields) → fields_below_found g (super_fields f g) ≡ true
  second_fields_below (with_field n t r) (with_field m u s) =
      cond_both (bytes_eq n m) _ _ (λ o. fields_below_found (with_field m u s) o ≡ true)
      (λ e. field_below_found n m u s (supertype t u) (super_fields r s) e (second_below t u) (second_fields_below r s)) (λ e. refl)
  second_fields_below no_field no_field = refl
  second_fields_below _ _ = refl

-- and so is the first
pub supertype_above : (a b found : Ty) → supertype a b ≡ Some found → (is_below a found ≡ true) × (is_below b found ≡ true)
supertype_above a b found h = (
  subst (λ o. below_found a o ≡ true) (supertype_symmetric b a ∙ h) (second_below b a),
  subst (λ o. below_found b o ≡ true) h (second_below a b),
)

at_most_transitive : (l m n : ℕ) → nat_le l m ≡ true → nat_le m n ≡ true → nat_le l n ≡ true
at_most_transitive l m n h k = le-leb l n (omega (arith, leb-true l m h, leb-true m n k))

narrower_transitive : (s t u : Bool) (l m n : ℕ) → is_narrower s l t m ≡ true → is_narrower t m u n ≡ true → is_narrower s l u n ≡ true
narrower_transitive true true true l m n h k = at_most_transitive l m n h k
narrower_transitive false false false l m n h k = at_most_transitive l m n h k
narrower_transitive false false true l m n h k = at_most_transitive l m (n - 1) h k
narrower_transitive false true true l m n h k = le-leb l (n - 1) (omega (arith, leb-true l (m - 1) h, leb-true m n k))
narrower_transitive _ _ _ l m n h k = cc

-- what is below a type is below those that it is below
mutual
  pub below_transitive : (a b c : Ty) → is_below a b ≡ true → is_below b c ≡ true → is_below a c ≡ true
  below_transitive NullType b c h k = refl
  below_transitive _ NullType c h k = cc
  below_transitive Truth Truth c h k = k
  below_transitive Truth (Integer s m) TextType h k = refl
  below_transitive Truth TextType TextType h k = refl
  below_transitive (Integer s l) (Integer t m) (Integer u n) h k = narrower_transitive s t u l m n h k
  below_transitive (Integer s l) (Integer t m) TextType h k = refl
  below_transitive (Integer s l) TextType TextType h k = refl
  below_transitive TextType TextType c h k = k
  below_transitive DateType DateType c h k = k
  below_transitive DateType (DatetimeType u) (DatetimeType v) h k = refl
  below_transitive TimeType TimeType c h k = k
  below_transitive (DatetimeType u) (DatetimeType v) (DatetimeType w) h k = at_most_transitive (unit_rank u) (unit_rank v) (unit_rank w) h k
  below_transitive (DurationType u) (DurationType v) (DurationType w) h k = at_most_transitive (unit_rank u) (unit_rank v) (unit_rank w) h k
  below_transitive (ListType a) (ListType b) (ListType c) h k = below_transitive a b c h k
  below_transitive (StructType f) (StructType g) (StructType i) h k = are_below_transitive f g i h k
  below_transitive (Untyped m) (Untyped n) c h k = subst (λ number. is_below (Untyped number) c ≡ true) (sym ((Decides-int_eq m n).0 h)) k
  below_transitive _ _ _ h k = cc

  are_below_transitive : (f g i : Fields) → are_below f g ≡ true → are_below g i ≡ true → are_below f i ≡ true
  are_below_transitive no_field no_field i h k = k
  are_below_transitive (with_field n t r) (with_field m u s) (with_field l v q) h k =
      let first = and_parts (bytes_eq n m) (is_below t u && are_below r s) h in
      let second = and_parts (bytes_eq m l) (is_below u v && are_below s q) k in
      let left = and_parts (is_below t u) (are_below r s) first.1 in
      let right = and_parts (is_below u v) (are_below s q) second.1 in
      and_from _ _ (subst (λ name. bytes_eq name l ≡ true) (sym ((bytes_eq-Decides n m).0 first.0)) second.0)
      (and_from _ _ (below_transitive t u v left.0 right.0) (are_below_transitive r s q left.1 right.1))
  are_below_transitive _ _ _ h k = cc

-- there is a cast from each type to the types of columns that it is below
mutual
  pub below_casts : (a b : Ty) → is_known b ≡ true → is_below a b ≡ true → can_cast a b ≡ true
  below_casts NullType b k h = k
  below_casts _ NullType k h = cc
  below_casts (ListType a) (ListType b) k h = below_casts a b k h
  below_casts (StructType f) (StructType g) k h = fields_below_cast f g k h
  below_casts _ _ k h = cc

  fields_below_cast : (f g : Fields) → are_known g ≡ true → are_below f g ≡ true → can_cast_fields f g ≡ true
  fields_below_cast (with_field n t r) (with_field m u s) k h =
      let known = and_parts (is_known u) (are_known s) k in
      let below = and_parts (is_below t u) (are_below r s) (and_parts (bytes_eq n m) (is_below t u && are_below r s) h).1 in
      and_from _ _ (below_casts t u known.0 below.0) (fields_below_cast r s known.1 below.1)
  fields_below_cast no_field no_field k h = refl
  fields_below_cast _ _ k h = cc

unsigned_common : (m n : ℕ) → nat_le m (n - 1) ≡ true → signed_above n m ≡ Some (Integer true n)
unsigned_common m n h =
    let within = leb-true m (n - 1) h in
    cond_both (nat_lt m n) _ _ (λ o. o ≡ Some (Integer true n)) (λ t. refl)
    (λ t. let none : m ≡ 0 = omega (arith, within, ltb-false m n t) in
    let same : 2 * m ≡ n = omega (arith, within, ltb-false m n t) in
    cond-true (nat_lt m 64) _ _ (lt-ltb m 64 (omega (arith, none))) ∙ ap (λ k. Some (Integer true k)) same)

wider_of : (m n : ℕ) → nat_le m n ≡ true → max m n ≡ n
wider_of m n h = omega (arith, leb-true m n h)

coarser_of : (u v : TimeUnit) → unit_is_below u v ≡ true → coarser u v ≡ v
coarser_of Nanoseconds Nanoseconds h = refl
coarser_of Microseconds Microseconds h = refl
coarser_of Milliseconds Milliseconds h = refl
coarser_of _ _ h = cc

-- of two types of which one is below the other, this is the common type
mutual
  pub below_common : (a b : Ty) → is_below a b ≡ true → supertype a b ≡ Some b
  below_common NullType b h = refl
  below_common _ NullType h = cc
  below_common (Integer true m) (Integer true n) h = ap (λ k. Some (Integer true k)) (wider_of m n h)
  below_common (Integer false m) (Integer false n) h = ap (λ k. Some (Integer false k)) (wider_of m n h)
  below_common (Integer false m) (Integer true n) h = unsigned_common m n h
  below_common (DatetimeType u) (DatetimeType v) h = ap (λ unit. Some (DatetimeType unit)) (coarser_of u v h)
  below_common (DurationType u) (DurationType v) h = ap (λ unit. Some (DurationType unit)) (coarser_of u v h)
  below_common (ListType a) (ListType b) h = ap (option_map ListType) (below_common a b h)
  below_common (StructType f) (StructType g) h = ap (option_map StructType) (fields_below_common f g h)
  below_common (Untyped m) (Untyped n) h = cond-true (int_eq m n) _ _ h ∙ ap (λ k. Some (Untyped k)) ((Decides-int_eq m n).0 h)
  below_common _ _ h = cc

  fields_below_common : (f g : Fields) → are_below f g ≡ true → super_fields f g ≡ Some g
  fields_below_common no_field no_field h = refl
  fields_below_common (with_field n t r) (with_field m u s) h =
      let first = and_parts (bytes_eq n m) (is_below t u && are_below r s) h in
      let second = and_parts (is_below t u) (are_below r s) first.1 in
      cond-true (bytes_eq n m) _ _ first.0 ∙ ap (λ o. in_front n o (super_fields r s)) (below_common t u second.0)
      ∙ ap (in_front n (Some u)) (fields_below_common r s second.1) ∙ ap (λ name. Some (with_field name u s)) ((bytes_eq-Decides n m).0 first.0)
  fields_below_common _ _ h = cc

-- an integer type has the numbers of what is below it
pub below_holds : (a b : Ty) (number : ℤ) → is_integer b ≡ true → is_below a b ≡ true → in_range a number ≡ true → in_range b number ≡ true
below_holds a b number i h r = supertype_holds a b b number i (below_common a b h) (inl r)

-- types that are each below the other are one
pub below_antisymmetric : (a b : Ty) → is_below a b ≡ true → is_below b a ≡ true → a ≡ b
below_antisymmetric a b h k = some_same a b (sym (below_common b a k) ∙ supertype_symmetric b a ∙ below_common a b h)

-- types are below what is folded of them, and so is the type that the folding begins with
folded_from_above : (first : Ty) (types : List Ty) (found : Ty) → folded_from first types ≡ Some found → (is_below first found ≡ true) × AllByRecursion (λ type. is_below type found ≡ true) types
folded_from_above first [] found h = (subst (λ t. is_below first t ≡ true) (some_same first found h) (below_itself first), tt)
folded_from_above first (type ∷ types) found h =
    option_and_then_some (λ common. folded_from common types) (supertype first type) found h
    (λ common is rest.
    let both = supertype_above first type common is in
    let end = folded_from_above common types found rest in
    (below_transitive first common found both.0 end.0, (below_transitive type common found both.1 end.0, end.1)))

pub folded_above : (types : List Ty) (found : Ty) → folded_type types ≡ Some found → AllByRecursion (λ type. is_below type found ≡ true) types
folded_above types found h = (folded_from_above NullType types found h).1

-- of types of columns it is one
folded_from_known : (first : Ty) (types : List Ty) (found : Ty) → is_known first ≡ true → AllByRecursion (λ type. is_known type ≡ true) types → folded_from first types ≡ Some found → is_known found ≡ true
folded_from_known first [] found k all h = subst (λ t. is_known t ≡ true) (some_same first found h) k
folded_from_known first (type ∷ types) found k all h =
    option_and_then_some (λ common. folded_from common types) (supertype first type) found h
    (λ common is rest. folded_from_known common types found (supertype_known first type common k all.0 is) all.1 rest)

pub folded_known : (types : List Ty) (found : Ty) → AllByRecursion (λ type. is_known type ≡ true) types → folded_type types ≡ Some found → is_known found ≡ true
folded_known types found all h = folded_from_known NullType types found refl all h

all_cast : (types : List Ty) (found : Ty) → is_known found ≡ true → AllByRecursion (λ type. is_below type found ≡ true) types → AllByRecursion (λ type. can_cast type found ≡ true) types
all_cast [] found k all = tt
all_cast (type ∷ types) found k all = (below_casts type found k all.0, all_cast types found k all.1)

-- and there is a cast to it from each of them
pub folded_casts : (types : List Ty) (found : Ty) → AllByRecursion (λ type. is_known type ≡ true) types → folded_type types ≡ Some found → AllByRecursion (λ type. can_cast type found ≡ true) types
folded_casts types found all h = all_cast types found (folded_known types found all h) (folded_above types found h)
