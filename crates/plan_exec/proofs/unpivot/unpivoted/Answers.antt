use Rattle.std.proofs.Common.{◌∙◌, ap}
use Rattle.plan_types.specs.FrameFaults.{framed}
use Rattle.plan_exec.proofs.UnpivotLemmas.{unpivoted_frame}
use Rattle.plan_exec.proofs.unpivot.unpivoted.Goals as goal

pub new_no_checks-requires : goal.new_no_checks-requires
new_no_checks-requires c =
    let args = c.args.args.now in
    (unpivoted_frame args.on.items.items args.index.items.items args.variable_name args.value_name c.args.frame c.into_columns-columns.result.items c.as_slice.result.now c.in_ok-made.made.items c.into_columns-columns.ensures.columns c.into_columns-columns.ensures.sound c.as_slice.ensures.value c.requires c.in_ok-made.ensures.ok).sound

pub returns-clause-ok : goal.returns-clause-ok
returns-clause-ok c =
    let args = c.args.args.now in
    ap framed c.new_no_checks.ensures ∙ (unpivoted_frame args.on.items.items args.index.items.items args.variable_name args.value_name c.args.frame c.into_columns-columns.result.items c.as_slice.result.now c.in_ok-made.made.items c.into_columns-columns.ensures.columns c.into_columns-columns.ensures.sound c.as_slice.ensures.value c.requires c.in_ok-made.ensures.ok).frame_is
