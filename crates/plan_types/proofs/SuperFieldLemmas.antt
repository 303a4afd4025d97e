-- The common types of two lists of fields, made one by one.
use Rattle.std.proofs.Common.{◌≡◌, ℕ, suc, ◌<◌, ◌≤◌, true, false, cond, List, [], ◌∷◌, ◌++◌, length, map, drop, get_or, Option, Some, None, Vec, Global, refl, sym, ap, ◌∙◌}
use Rattle.std.specs.Option.{option_map}
use Rattle.std.specs.Str.{bytes_eq}
use Rattle.std.proofs.lemmas.List.{drop_all, map-append}
use Rattle.plan_types.specs.Types.{Ty, StructType, Fields, no_field, with_field, ty, field_of, fields_from, fields_in, fields_of}
use Rattle.plan_types.specs.Supertypes.{in_front, super_fields, supertype}
use Rattle.plan_types.specs.declared.field.Field.{Field}
use Rattle.plan_types.specs.declared.dtype.Fields.{Fields as StructFields, out-Fields, roll-Fields}
use Rattle.plan_types.proofs.FieldLemmas.{listed_fields, rolled_fields}
use Rattle.plan_types.proofs.ListLemmas.{drop_item}

-- fields in front of others
abbrev prepend : List (List ℕ × Ty) → Fields → Fields
prepend [] rest = rest
prepend (first ∷ done) rest = with_field first.0 first.1 (prepend done rest)

abbrev behind : List (List ℕ × Ty) → Option Fields → Option Fields
behind done None = None
behind done (Some rest) = Some (prepend done rest)

-- the common types of two lists of fields from a place on
abbrev common_from : ℕ → List Field → List Field → Option Fields
common_from i fs os = super_fields (fields_from (map field_of (drop i fs))) (fields_from (map field_of (drop i os)))

-- the first fields' common types are there
pub record SuperDone (fs os made : List Field) (i : ℕ) : Type 0 where
  pub common : super_fields (fields_in fs) (fields_in os) ≡ behind (map field_of made) (common_from i fs os)

behind_start : (r : Option Fields) → r ≡ behind [] r
behind_start None = refl
behind_start (Some rest) = refl

pub super_start : (fs os : List Field) → SuperDone fs os [] 0
super_start fs os = record { common = behind_start (super_fields (fields_in fs) (fields_in os)) }

prepend_more : (done : List (List ℕ × Ty)) (name : List ℕ) (type : Ty) (rest : Fields) → prepend done (with_field name type rest) ≡ prepend (done ++ (name, type) ∷ []) rest
prepend_more [] name type rest = refl
prepend_more (first ∷ done) name type rest = ap (with_field first.0 first.1) (prepend_more done name type rest)

behind_more : (done : List (List ℕ × Ty)) (name : List ℕ) (type : Ty) (r : Option Fields) → behind done (in_front name (Some type) r) ≡ behind (done ++ (name, type) ∷ []) r
behind_more done name type None = refl
behind_more done name type (Some rest) = ap Some (prepend_more done name type rest)

-- what is found from a place on
one_more : (fs os : List Field) (i n : ℕ) (x y : Field) → i < length fs → i < length os → x ≡ get_or fs i x → y ≡ get_or os i y → n ≡ suc i
    → common_from i fs os ≡ cond (bytes_eq x.name y.name) (in_front x.name (supertype (ty x.dtype) (ty y.dtype)) (common_from n fs os)) None
one_more fs os i n x y within also left right next =
    ap (λ l. super_fields (fields_from (map field_of l)) (fields_from (map field_of (drop i os)))) (drop_item fs i n x within left next)
    ∙ ap (λ l. super_fields (fields_from (map field_of (x ∷ drop n fs))) (fields_from (map field_of l))) (drop_item os i n y also right next)

module _ (fs os made : List Field) (i n : ℕ) (x y z : Field) (within : i < length fs) (also : i < length os) (left : x ≡ get_or fs i x) (right : y ≡ get_or os i y) (next : n ≡ suc i) (done : SuperDone fs os made i) where
  -- names that differ
  pub other_name : bytes_eq x.name y.name ≡ false → super_fields (fields_in fs) (fields_in os) ≡ None
  other_name differ =
      done.common ∙ ap (behind (map field_of made)) (one_more fs os i n x y within also left right next ∙ ap (λ b. cond b (in_front x.name (supertype (ty x.dtype) (ty y.dtype)) (common_from n fs os)) None) differ)

  -- types without a common one
  pub no_common : bytes_eq x.name y.name ≡ true → supertype (ty x.dtype) (ty y.dtype) ≡ None → super_fields (fields_in fs) (fields_in os) ≡ None
  no_common same none =
      done.common
      ∙ ap (behind (map field_of made)) (one_more fs os i n x y within also left right next ∙ ap (λ b. cond b (in_front x.name (supertype (ty x.dtype) (ty y.dtype)) (common_from n fs os)) None) same ∙ ap (λ o. in_front x.name o (common_from n fs os)) none)

  -- one more field
  pub super_step : (new : List Field) → bytes_eq x.name y.name ≡ true → supertype (ty x.dtype) (ty y.dtype) ≡ Some (ty z.dtype) → z.name ≡ x.name → new ≡ made ++ z ∷ [] → SuperDone fs os new n
  super_step new same some named grown = record {
    common =
        done.common
        ∙ ap (behind (map field_of made)) (one_more fs os i n x y within also left right next ∙ ap (λ b. cond b (in_front x.name (supertype (ty x.dtype) (ty y.dtype)) (common_from n fs os)) None) same ∙ ap (λ o. in_front x.name o (common_from n fs os)) some)
        ∙ behind_more (map field_of made) x.name (ty z.dtype) (common_from n fs os)
        ∙ ap (λ name. behind (map field_of made ++ (name, ty z.dtype) ∷ []) (common_from n fs os)) (sym named)
        ∙ ap (λ l. behind l (common_from n fs os)) (sym (map-append field_of made (z ∷ [])) ∙ ap (map field_of) (sym grown));
  }

prepend_all : (done : List (List ℕ × Ty)) → prepend done no_field ≡ fields_from done
prepend_all [] = refl
prepend_all (first ∷ done) = ap (with_field first.0 first.1) (prepend_all done)

pub super_end : (fs os : List Field) (made : Vec Field Global) (i : ℕ) → length fs ≤ i → length os ≤ i → SuperDone fs os made.items i → Some (fields_of (roll-Fields (record { items = made }))) ≡ super_fields (fields_in fs) (fields_in os)
super_end fs os made i within also done =
    ap Some (rolled_fields made ∙ sym (prepend_all (map field_of made.items)))
    ∙ sym (done.common ∙ ap (λ l. behind (map field_of made.items) (super_fields (fields_from (map field_of l)) (fields_from (map field_of (drop i os))))) (drop_all i fs within) ∙ ap (λ l. behind (map field_of made.items) (super_fields no_field (fields_from (map field_of l)))) (drop_all i os also))

nothing_in_front : (name : List ℕ) (o : Option Ty) → in_front name o None ≡ None
nothing_in_front name None = refl
nothing_in_front name (Some type) = refl

-- lists of other lengths have none
pub fields_apart : (fs os : List Field) → (length fs ≡ length os → ⊥) → super_fields (fields_in fs) (fields_in os) ≡ None
fields_apart [] [] differ = absurd (differ refl)
fields_apart [] (o ∷ os) differ = refl
fields_apart (f ∷ fs) [] differ = refl
fields_apart (f ∷ fs) (o ∷ os) differ =
    let rest = fields_apart fs os (λ e. differ (ap suc e)) in
    elim (bytes_eq f.name o.name) as (λ b. cond b (in_front f.name (supertype (ty f.dtype) (ty o.dtype)) (super_fields (fields_in fs) (fields_in os))) None ≡ None) [
      | true ↦ ap (in_front f.name (supertype (ty f.dtype) (ty o.dtype))) rest ∙ nothing_in_front f.name (supertype (ty f.dtype) (ty o.dtype))
      | false ↦ refl
    ]

-- the common type of two types of structs
pub struct_common : (fields others : StructFields) (fs os : List Field) (found : Option Fields) → fs ≡ (out-Fields fields).items.items → os ≡ (out-Fields others).items.items → found ≡ super_fields (fields_in fs) (fields_in os) → option_map StructType found ≡ supertype (StructType (fields_of fields)) (StructType (fields_of others))
struct_common fields others fs os found left right is =
    ap (option_map StructType) is
    ∙ ap (λ f. option_map StructType (super_fields f (fields_in os))) (ap fields_in left ∙ sym (listed_fields fields))
    ∙ ap (λ g. option_map StructType (super_fields (fields_of fields) g)) (ap fields_in right ∙ sym (listed_fields others))
