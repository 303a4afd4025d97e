use Rattle.std.proofs.Common.{sym, ap, ◌∙◌}
use Rattle.plan_types.specs.Values.{ListValue, StructValue}
use Rattle.plan_types.specs.ValueViews.{val_of}
use Rattle.plan_types.proofs.PartLemmas.{list_values, struct_values}
use Rattle.plan_types.proofs.value.+value_copies.Goals as goal

pub Value::try_clone-returns-in_ok-items-in-List-clause-ok : goal.Value::try_clone-returns-in_ok-items-in-List-clause-ok
Value::try_clone-returns-in_ok-items-in-List-clause-ok t c =
    list_values c.in_ok-items-in-List.items ∙ ap ListValue c.in_ok-items-in-List.ensures.ok ∙ sym (list_values c.in-List.items) ∙ sym (ap val_of c.in-List.is)

pub Value::try_clone-returns-in_ok-parts-in-Struct-clause-ok : goal.Value::try_clone-returns-in_ok-parts-in-Struct-clause-ok
Value::try_clone-returns-in_ok-parts-in-Struct-clause-ok t c =
    struct_values c.in_ok-parts-in-Struct.parts ∙ ap StructValue c.in_ok-parts-in-Struct.ensures.ok ∙ sym (struct_values c.in-Struct.parts) ∙ sym (ap val_of c.in-Struct.is)
