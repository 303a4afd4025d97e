use Rattle.std.proofs.Common.{◌≡◌, ◌++◌, map, take, string_bytes, codes}
use Rattle.std.specs.List.{join_by}
use Rattle.plan_types.specs.Types.{field_of}
use Rattle.plan_report.specs.Texts.{field_text}
use Rattle.plan_report.proofs.texts.+type_texts.Given as goal

abbrev pub invariant-push_fields-loop-index : goal.invariant-push_fields-loop-index
invariant-push_fields-loop-index l = string_bytes l.text ≡ (string_bytes l.fn.text ++ codes "(") ++ join_by field_text (codes ", ") (take l.index (map field_of l.fields))
