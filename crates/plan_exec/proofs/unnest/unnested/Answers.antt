use Rattle.std.proofs.Common.{◌∙◌, ap}
use Rattle.plan_types.specs.FrameFaults.{framed}
use Rattle.plan_exec.specs.ColumnFunctions.{is_kept}
use Rattle.plan_exec.proofs.UnnestLemmas.{unnested_frame}
use Rattle.plan_exec.proofs.unnest.unnested.Goals as goal

pub new_no_checks-requires : goal.new_no_checks-requires
new_no_checks-requires c =
    (unnested_frame c.args.names.now (is_kept c.in_ok-names.names.keys) c.in_ok-names.ensures.ok c.args.frame c.into_columns.result.items c.in_ok-columns.columns.items c.into_columns.ensures.columns c.into_columns.ensures.sound c.requires c.in_ok-columns.ensures.ok).sound

pub returns-clause-ok : goal.returns-clause-ok
returns-clause-ok c =
    let made = unnested_frame c.args.names.now (is_kept c.in_ok-names.names.keys) c.in_ok-names.ensures.ok c.args.frame c.into_columns.result.items c.in_ok-columns.columns.items c.into_columns.ensures.columns c.into_columns.ensures.sound c.requires c.in_ok-columns.ensures.ok in
    ap framed c.new_no_checks.ensures ∙ made.frame_is
