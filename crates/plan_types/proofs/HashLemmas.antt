-- What is fed to a hasher, one field or value after another.
use Rattle.std.proofs.Common.{◌≡◌, ℕ, suc, List, [], ◌∷◌, length, refl, sym, ap, ◌∙◌}
use Rattle.std.specs.Hash as fed
use Rattle.std.specs.Hash.{le_bytes}
use Rattle.std.specs.List.{fold}
use Rattle.plan_types.specs.Types.{StructType, ty, field_count, fields_in, type_code, type_writes, each_field_writes, fields_writes}
use Rattle.plan_types.specs.declared.dtype.DataType.{DataType, Struct}
use Rattle.plan_types.specs.declared.dtype.Fields.{Fields as StructFields, out-Fields}
use Rattle.plan_types.specs.declared.field.Field.{Field}
use Rattle.plan_types.specs.ValueLaws.{value_count, value_writes, each_writes, parts_writes}
use Rattle.plan_types.specs.ValueViews.{val_of, values_in}
use Rattle.plan_types.specs.declared.value.Value.{Value, List as Many, Struct as Record}
use Rattle.plan_types.specs.declared.value.Parts.{Parts}
use Rattle.plan_types.proofs.FieldLemmas.{struct_type}
use Rattle.plan_types.proofs.PartLemmas.{list_of, struct_of}

fields_counted : (fields : List Field) → field_count (fields_in fields) ≡ length fields
fields_counted [] = refl
fields_counted (f ∷ fields) = ap suc (fields_counted fields)

values_counted : (values : List Value) → value_count (values_in values) ≡ length values
values_counted [] = refl
values_counted (value ∷ values) = ap suc (values_counted values)

module _ {S : Type 0} (write : S → List ℕ → S) where
  -- ---- fields

  pub fields_start : (fields : List Field) (s t : S) → t ≡ fold write s (fed.usize (length fields)) → fold write t (each_field_writes (fields_in fields)) ≡ fold write s (fields_writes (fields_in fields))
  fields_start fields s t h =
      ap (λ r. fold write r (each_field_writes (fields_in fields))) (h ∙ ap (λ n. write s (le_bytes 8 n)) (sym (fields_counted fields)))

  -- a type of structs, after its number
  pub struct_fed : (dtype : DataType) (fields : StructFields) (items : List Field) (code : ℕ) (s t u : S) → dtype ≡ Struct fields → items ≡ (out-Fields fields).items.items → code ≡ type_code (ty dtype) → t ≡ fold write s (fed.u32 code) → u ≡ fold write t (fields_writes (fields_in items)) → u ≡ fold write s (type_writes (ty dtype))
  struct_fed dtype fields items code s t u is shown number first then =
      let type : ty dtype ≡ StructType (fields_in items) = struct_type dtype fields items is shown in
      then ∙ ap (λ r. fold write r (fields_writes (fields_in items))) (first ∙ ap (λ n. write s (le_bytes 4 n)) (number ∙ ap type_code type)) ∙ ap (λ d. fold write s (type_writes d)) (sym type)

  -- ---- values

  pub values_start : (values : List Value) (s t : S) → t ≡ fold write s (fed.usize (length values)) → fold write t (each_writes (values_in values)) ≡ fold write s (parts_writes (values_in values))
  values_start values s t h =
      ap (λ r. fold write r (each_writes (values_in values))) (h ∙ ap (λ n. write s (le_bytes 8 n)) (sym (values_counted values)))

  -- a list or a struct, after its number
  pub list_fed : (value : Value) (parts : Parts) (items : List Value) (s t u : S) → value ≡ Many parts → items ≡ parts.items.items → t ≡ fold write s (fed.u32 4) → u ≡ fold write t (parts_writes (values_in items)) → u ≡ fold write s (value_writes (val_of value))
  list_fed value parts items s t u is shown first then =
      then ∙ ap (λ r. fold write r (parts_writes (values_in items))) first ∙ ap (λ v. fold write s (value_writes v)) (sym (list_of value parts items is shown))

  pub struct_value_fed : (value : Value) (parts : Parts) (items : List Value) (s t u : S) → value ≡ Record parts → items ≡ parts.items.items → t ≡ fold write s (fed.u32 5) → u ≡ fold write t (parts_writes (values_in items)) → u ≡ fold write s (value_writes (val_of value))
  struct_value_fed value parts items s t u is shown first then =
      then ∙ ap (λ r. fold write r (parts_writes (values_in items))) first ∙ ap (λ v. fold write s (value_writes v)) (sym (struct_of value parts items is shown))
