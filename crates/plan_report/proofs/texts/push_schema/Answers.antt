use Rattle.std.proofs.Common.{◌<◌, length, sym, arith}
use Rattle.plan_types.specs.Schemas.{columns}
use Rattle.plan_report.specs.Texts.{field_text}
use Rattle.plan_report.proofs.TextLemmas.{joined_more, no_item}
use Rattle.plan_report.proofs.texts.push_schema.Goals as goal
use Rattle.plan_report.proofs.texts.push_schema.Goals.{in-Some+in_ok-before, in_default}

pub loop-index-preserved : goal.loop-index-preserved
loop-index-preserved c =
    let cols = columns c.args.schema.now in
    let within : c.loop-index.index < length cols = omega (arith, c.len-index-end.ensures) in
    elim c.match-get_at_index.branch [
      | in-Some+in_ok-before w ↦ (joined_more field_text _ cols c.loop-index.index _ _ _ (sym w.in-Some.ensures) c.loop-index.invariant.0 (rw (w.text-is, w.before-is) w.in_ok-before.ensures), λ some. omega arith)
      | in_default w ↦ absurd (no_item cols c.loop-index.index within (sym w.in_default.ensures))
    ]
