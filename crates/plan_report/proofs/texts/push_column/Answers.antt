use Rattle.std.proofs.Common.{◌++◌, string_bytes}
use Rattle.std.specs.Option.{option_map}
use Rattle.plan_types.specs.Types.{ty}
use Rattle.plan_report.specs.Texts.{closing_text, separator}
use Rattle.plan_report.proofs.TextLemmas.{field_closed}
use Rattle.plan_report.proofs.texts.push_column.Goals as goal

pub returns : goal.returns
returns c =
    let old = string_bytes c.args.text.now ++ closing_text (option_map (λ dtype. ty dtype.now) c.args.before) in
    rw (← c.as_str-plain.ensures) (field_closed old _ _ (separator c.args.number) c.as_str-plain.result.now (ty c.args.dtype.now) c.as_str-plain.utf8 (c.is_plain.ensures c.if-not-is_plain.false) (c.has_parts.ensures c.if-has_parts.false) c.in_ok-push_opening.ensures c.in_ok-push_str.ensures.bytes)
