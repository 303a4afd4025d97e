-- Whether the values of lists and structs fit, one by one.
use Rattle.std.proofs.Common.{◌≡◌, ℕ, suc, Bool, false, ◌&&◌, List, [], ◌∷◌, length, map, drop, refl, sym, ap, ◌∙◌}
use Rattle.std.proofs.Math.Bool.{and-false}
use Rattle.plan_types.specs.Types.{Ty, Fields, ListType, StructType, ty, field_of, fields_from, fields_in}
use Rattle.plan_types.specs.Values.{fits, items_fit, parts_fit}
use Rattle.plan_types.specs.ValueViews.{val_of, values_from, values_in}
use Rattle.plan_types.specs.declared.value.Value.{Value}
use Rattle.plan_types.specs.declared.field.Field.{Field}
use Rattle.plan_types.specs.declared.dtype.DataType.{DataType}
use Rattle.plan_types.specs.declared.value.Parts.{Parts}
use Rattle.plan_types.specs.declared.value.Value.{List as ListOf, Struct as StructOf}
use Rattle.plan_types.specs.Values.{ListValue, StructValue}
use Rattle.plan_types.proofs.PartLemmas.{list_of, struct_of}

-- the values from a place on
abbrev pub items_from : ℕ → List Value → Ty → Bool
items_from i items type = items_fit (values_from (map val_of (drop i items))) type

abbrev pub parts_from : ℕ → List Value → List Field → Bool
parts_from i parts fields = parts_fit (values_from (map val_of (drop i parts))) (fields_from (map field_of (drop i fields)))

pub parts_apart : (parts : List Value) (fields : List Field) → (length parts ≡ length fields → ⊥) → false ≡ parts_fit (values_in parts) (fields_in fields)
parts_apart [] [] differ = absurd (differ refl)
parts_apart [] (f ∷ fs) differ = refl
parts_apart (v ∷ vs) [] differ = refl
parts_apart (v ∷ vs) (f ∷ fs) differ =
    sym (and-false (fits (val_of v) (ty f.dtype))) ∙ ap (λ b. fits (val_of v) (ty f.dtype) && b) (parts_apart vs fs (λ e. differ (ap suc e)))

pub list_fits : (value : Value) (parts : Parts) (items : List Value) (dtype : DataType) (item : Ty) (b : Bool) → value ≡ ListOf parts → items ≡ parts.items.items → ty dtype ≡ ListType item → b ≡ items_fit (values_in items) item → b ≡ fits (val_of value) (ty dtype)
list_fits value parts items dtype item b is shown type fit =
    fit ∙ sym (ap (λ v. fits v (ty dtype)) (list_of value parts items is shown) ∙ ap (fits (ListValue (values_in items))) type)

pub struct_fits : (value : Value) (parts : Parts) (items : List Value) (dtype : DataType) (fields : Fields) (b : Bool) → value ≡ StructOf parts → items ≡ parts.items.items → ty dtype ≡ StructType fields → b ≡ parts_fit (values_in items) fields → b ≡ fits (val_of value) (ty dtype)
struct_fits value parts items dtype fields b is shown type fit =
    fit ∙ sym (ap (λ v. fits v (ty dtype)) (struct_of value parts items is shown) ∙ ap (fits (StructValue (values_in items))) type)
