use Rattle.std.proofs.Common.{map}
use Rattle.plan_types.specs.Types.{field_of, ty}
use Rattle.plan_report.specs.Texts.{field_text, separator}
use Rattle.plan_report.proofs.TextLemmas.{field_pushed, item_at, joined_more, struct_pushed}
use Rattle.plan_report.proofs.texts.+type_texts.Goals as goal

pub push_fields-loop-index-preserved : goal.push_fields-loop-index-preserved
push_fields-loop-index-preserved t c =
    let at = item_at field_of c.args.fields.now c.loop-index.index _ c.loop-index-test.true c.index-fields-index.is in
    joined_more field_text _ (map field_of c.args.fields.now) c.loop-index.index _ _ _ at c.loop-index.invariant c.in_ok-push_field.ensures

pub push_parts-returns-in-Struct : goal.push_parts-returns-in-Struct
push_parts-returns-in-Struct t c =
    struct_pushed c.push_fields.result c.args.dtype.now c.in-Struct.fields c.as_slice.result.now _ _ c.in-Struct.is c.as_slice.ensures.value c.push_fields.ensures

pub push_field-returns : goal.push_field-returns
push_field-returns t c =
    rw (← c.as_str.ensures) (field_pushed c.push_parts.result _ _ _ (separator c.args.number) c.as_str.result.now (ty c.args.dtype.now) c.as_str.utf8 c.in_ok-push_name.ensures c.push_parts.ensures)
