use Rattle.std.proofs.Common.{sym, ap, ◌∙◌}
use Rattle.plan_types.specs.Types.{ListType, StructType, fields_in, ty}
use Rattle.plan_types.proofs.FieldLemmas.{listed_fields}
use Rattle.plan_types.proofs.FittingLemmas.{list_fits, struct_fits, parts_apart}
use Rattle.plan_types.proofs.value.+fitting.Goals as goal

pub Value::fits-returns-in-List-List : goal.Value::fits-returns-in-List-List
Value::fits-returns-in-List-List t c =
    list_fits c.args.self.now c.in-List-List.items c.as_slice.result.now c.args.dtype.now (ty c.deref.result.now) c.items_fit.result c.in-List-List.is-0 c.as_slice.ensures.value (ap ty c.in-List-List.is-1 ∙ ap (λ d. ListType (ty d)) (sym c.deref.ensures)) c.items_fit.ensures

pub Value::fits-returns-in-Struct-Struct : goal.Value::fits-returns-in-Struct-Struct
Value::fits-returns-in-Struct-Struct t c =
    struct_fits c.args.self.now c.in-Struct-Struct.parts c.as_slice-in-Struct-Struct.result.now c.args.dtype.now (fields_in c.as_slice-in-Struct-Struct-2.result.now) c.parts_fit.result c.in-Struct-Struct.is-0 c.as_slice-in-Struct-Struct.ensures.value (ap ty c.in-Struct-Struct.is-1 ∙ ap StructType (listed_fields c.in-Struct-Struct.fields ∙ ap fields_in (sym c.as_slice-in-Struct-Struct-2.ensures.value))) c.parts_fit.ensures

pub parts_fit-returns-then-parts-fields : goal.parts_fit-returns-then-parts-fields
parts_fit-returns-then-parts-fields t c = parts_apart c.args.parts.now c.args.fields.now c.if-parts-fields.true
