-- Laws of comparing types.
use Rattle.std.specs.Prelude.{◌≡◌, ℕ, Bool, true, false, List}
use Rattle.std.specs.Cmp.{IsEquivalence}
use Rattle.std.proofs.Common.{refl, sym, ap, subst, rules}
use Rattle.std.specs.Prelude.{◌&&◌}
use Rattle.std.specs.Str.{bytes_eq}
use Rattle.std.proofs.Common.{◌∙◌}
use Rattle.std.proofs.lemmas.Slice.Eq.{bytes_eq-Decides}
use Rattle.std.proofs.lemmas.Bool.{eqb-true, and_parts, and_from}
use Rattle.std.proofs.lemmas.Bool.Decides.{same_from_decides, Decides-int_eq}
use Rattle.std.proofs.lemmas.Cmp.{on_equiv}
use Rattle.std.specs.Ordering.{on}
use Rattle.plan_types.specs.Types.{Ty, NullType, Truth, Integer, TextType, DateType, TimeType, DatetimeType, DurationType, ListType, StructType, Untyped, Fields, no_field, with_field, ty, same_unit, field_of, same_type, same_fields, same_field, type_writes, field_writes}
use Rattle.plan_types.specs.declared.dtype.DataType.{DataType}
use Rattle.plan_types.specs.declared.field.Field.{Field}
use Rattle.plan_types.specs.declared.dtype.TimeUnit.{TimeUnit}
use Rattle.plan_types.specs.declared.dtype.TimeUnit.TheVariants.{Nanoseconds, Microseconds, Milliseconds}

-- a test that answers yes for equal values alone is an equivalence
pub equivalence_from_exact : {K : Type 0} (E : K → K → Bool) → ((a b : K) → E a b ≡ true → a ≡ b) → ((a : K) → E a a ≡ true) → IsEquivalence E
equivalence_from_exact E exact own = record {
  refl = own;
  symm = λ x y. same_from_decides (E x y) (E y x) (exact x y, λ e. subst (λ z. E x z ≡ true) e (own x)) (λ t. sym (exact y x t), λ e. subst (λ z. E z x ≡ true) e (own x));
  congr = λ x y z t. ap (λ w. E w z) (exact x y t);
}

-- units that compare equal are one
pub same_unit_exact : (u v : TimeUnit) → same_unit u v ≡ true → u ≡ v
same_unit_exact Nanoseconds Nanoseconds h = refl
same_unit_exact Microseconds Microseconds h = refl
same_unit_exact Milliseconds Milliseconds h = refl
same_unit_exact _ _ h = cc

pub same_unit_own : (u : TimeUnit) → same_unit u u ≡ true
same_unit_own Nanoseconds = refl
same_unit_own Microseconds = refl
same_unit_own Milliseconds = refl

-- types that compare equal are one
mutual
  pub same_type_exact : (a b : Ty) → same_type a b ≡ true → a ≡ b
  same_type_exact NullType NullType h = refl
  same_type_exact Truth Truth h = refl
  same_type_exact (Integer true m) (Integer true n) h = ap (Integer true) (eqb-true m n h)
  same_type_exact (Integer false m) (Integer false n) h = ap (Integer false) (eqb-true m n h)
  same_type_exact TextType TextType h = refl
  same_type_exact DateType DateType h = refl
  same_type_exact TimeType TimeType h = refl
  same_type_exact (DatetimeType u) (DatetimeType v) h = ap DatetimeType (same_unit_exact u v h)
  same_type_exact (DurationType u) (DurationType v) h = ap DurationType (same_unit_exact u v h)
  same_type_exact (ListType a) (ListType b) h = ap ListType (same_type_exact a b h)
  same_type_exact (StructType f) (StructType g) h = ap StructType (same_fields_exact f g h)
  same_type_exact (Untyped m) (Untyped n) h = ap Untyped ((Decides-int_eq m n).0 h)
  same_type_exact _ _ h = cc

  same_fields_exact : (f g : Fields) → same_fields f g ≡ true → f ≡ g
  same_fields_exact no_field no_field h = refl
  same_fields_exact no_field (with_field m u s) h = cc
  same_fields_exact (with_field n t r) no_field h = cc
  same_fields_exact (with_field n t r) (with_field m u s) h =
      let first = and_parts (bytes_eq n m) (same_type t u && same_fields r s) h in
      let second = and_parts (same_type t u) (same_fields r s) first.1 in
      ap (λ name. with_field name t r) ((bytes_eq-Decides n m).0 first.0) ∙ ap (λ type. with_field m type r) (same_type_exact t u second.0) ∙ ap (with_field m u) (same_fields_exact r s second.1)

mutual
  pub same_type_own : (a : Ty) → same_type a a ≡ true
  same_type_own NullType = refl
  same_type_own Truth = refl
  same_type_own (Integer true m) = search rules
  same_type_own (Integer false m) = search rules
  same_type_own TextType = refl
  same_type_own DateType = refl
  same_type_own TimeType = refl
  same_type_own (DatetimeType u) = same_unit_own u
  same_type_own (DurationType u) = same_unit_own u
  same_type_own (ListType a) = same_type_own a
  same_type_own (StructType f) = same_fields_own f
  same_type_own (Untyped m) = (Decides-int_eq m m).1 refl

  same_fields_own : (f : Fields) → same_fields f f ≡ true
  same_fields_own no_field = refl
  same_fields_own (with_field n t r) = and_from _ _ ((bytes_eq-Decides n n).1 refl) (and_from _ _ (same_type_own t) (same_fields_own r))

pub same_type_is_equivalence : IsEquivalence (on ty same_type)
same_type_is_equivalence = on_equiv ty (equivalence_from_exact same_type same_type_exact same_type_own)

-- fields that compare equal are one
pub same_field_exact : (a b : List ℕ × Ty) → same_field a b ≡ true → a ≡ b
same_field_exact a b h =
    let both = and_parts (bytes_eq a.0 b.0) (same_type a.1 b.1) h in
    λ i. ((bytes_eq-Decides a.0 b.0).0 both.0 i, same_type_exact a.1 b.1 both.1 i)

pub same_field_own : (a : List ℕ × Ty) → same_field a a ≡ true
same_field_own a = and_from _ _ ((bytes_eq-Decides a.0 a.0).1 refl) (same_type_own a.1)

pub same_field_is_equivalence : IsEquivalence (on field_of same_field)
same_field_is_equivalence = on_equiv field_of (equivalence_from_exact same_field same_field_exact same_field_own)

-- equal types are hashed alike
pub same_hash : (a b : DataType) → same_type (ty a) (ty b) ≡ true → type_writes (ty a) ≡ type_writes (ty b)
same_hash a b t = ap type_writes (same_type_exact (ty a) (ty b) t)

-- and so are equal fields
pub same_field_hash : (a b : Field) → same_field (field_of a) (field_of b) ≡ true → field_writes (field_of a) ≡ field_writes (field_of b)
same_field_hash a b t = ap field_writes (same_field_exact (field_of a) (field_of b) t)
