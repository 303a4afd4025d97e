use Rattle.std.proofs.Common.{◌≡◌, ◌++◌, take, string_bytes}
use Rattle.plan_types.specs.ValueViews.{values_in}
use Rattle.table_functions.specs.Texts.{values_text}
use Rattle.table_functions.proofs.texts.+value_texts.Given as goal

abbrev pub invariant-push_values-loop-value : goal.invariant-push_values-loop-value
invariant-push_values-loop-value l = string_bytes l.text ≡ string_bytes l.fn.text ++ values_text (values_in (take l.value-index l.values))
