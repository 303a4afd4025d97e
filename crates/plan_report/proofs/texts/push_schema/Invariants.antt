use Rattle.std.proofs.Common.{◌≡◌, ◌≢◌, ◌<◌, ◌++◌, None, take, string_bytes, codes}
use Rattle.std.specs.List.{join_by}
use Rattle.std.specs.Option.{option_map}
use Rattle.plan_types.specs.Schemas.{columns}
use Rattle.plan_types.specs.Types.{ty}
use Rattle.plan_report.specs.Texts.{closing_text, field_text}
use Rattle.plan_report.proofs.texts.push_schema.Given as goal

abbrev pub invariant-loop-index : goal.invariant-loop-index
invariant-loop-index l =
    (string_bytes l.text ++ closing_text (option_map (λ dtype. ty dtype.now) l.before) ≡ (string_bytes l.fn.text ++ codes "(") ++ join_by field_text (codes ", ") (take l.index (columns l.schema)))
    × (l.before ≢ None → 0 < l.index)
