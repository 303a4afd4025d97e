use Rattle.plan_lower.proofs.ExpressionFieldLemmas.{top_operands}
use Rattle.checks.proofs.fields.ask_item.Goals as goal

pub ask_types-requires : goal.ask_types-requires
ask_types-requires c w = top_operands _ _ _ _ w.get.ensures _ w.in-Ok.ensures.denotes

pub to_field_impl-field-requires : goal.to_field_impl-field-requires
to_field_impl-field-requires c w = top_operands _ _ _ _ w.get-in-Ok.ensures _ w.in-Ok.ensures.denotes
