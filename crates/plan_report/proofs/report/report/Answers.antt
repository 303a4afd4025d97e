use Rattle.plan_types.specs.Schemas.{columns}
use Rattle.plan_arena.proofs.ItemLemmas.{item_inputs, plan_within}
use Rattle.plan_report.proofs.NodeLemmas.{lent_schema, whole_report}
use Rattle.plan_report.proofs.report.report.Goals as goal

pub root-requires : goal.root-requires
root-requires c = plan_within c.args.plan.now.expr_arena c.args.plan.now.lp_arena c.args.plan.now.lp_top.0 c.requires

pub schema_ref-schema-requires : goal.schema_ref-schema-requires
schema_ref-schema-requires c =
    item_inputs c.args.plan.now.expr_arena c.args.plan.now.lp_arena c.args.plan.now.lp_top.0 c.root.result.now c.root.ensures c.requires

pub returns : goal.returns
returns c registry tree d accepted =
    let own = lent_schema c.args.plan.now.expr_arena c.args.plan.now.lp_arena c.args.plan.now.lp_top.0 c.root.result.now (columns c.schema_ref-schema.result.now) c.root.ensures c.schema_ref-schema.ensures.rule registry tree d accepted in
    whole_report registry tree _ _ _ _ _ c.new-text.ensures.bytes c.new-path.ensures.items (c.in_ok-push_lines.ensures.lines registry tree d accepted own) (c.in_ok-casts.ensures tree d) c.in_ok-push_casts_line.ensures
