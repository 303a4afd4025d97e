use Rattle.std.proofs.Common.{map, ap, ◌∙◌}
use Rattle.plan_types.specs.ValueViews.{val_of}
use Rattle.table_functions.proofs.TextLemmas.{column_pushed}
use Rattle.table_functions.proofs.texts.push_column.Goals as goal

pub returns : goal.returns
returns c =
    column_pushed c.push_str-5.result c.args.column c.as_slice.result.now c.as_str.result.now c.as_str-2.result.now _ _ _ _ _ _ _ c.as_str.ensures c.as_str.utf8 (c.as_str-2.ensures.value ∙ c.in_ok-dtype.ensures) (ap (map val_of) c.as_slice.ensures.value ∙ c.into_values.ensures) c.in_ok-push_str.ensures.bytes c.in_ok-push_str-2.ensures.bytes c.in_ok-push_str-3.ensures.bytes c.in_ok-push_str-4.ensures.bytes c.in_ok-push_values.ensures c.push_str-5.ensures.bytes
