use Rattle.plan_arena.specs.Items.{plan_layer}
use Rattle.plan_arena.proofs.ItemLemmas.{layer_parts, plan_within}
use Rattle.plan_report.proofs.NodeLemmas.{denote_some, first_outputs, later_outputs, node_kind}
use Rattle.explain.proofs.LoweredLemmas.{input_denotes}
use Rattle.explain.proofs.lowered.notes.Goals as goal

pub get-item-requires : goal.get-item-requires
get-item-requires c = plan_within c.args.plan.now.expr_arena c.args.plan.now.lp_arena c.loop-level.node.0 c.loop-level.invariant

pub schema_at-requires : goal.schema_at-requires
schema_at-requires c =
    input_denotes c.args.plan.now.expr_arena c.args.plan.now.lp_arena c.loop-level.node.0 c.get-item.result.now 0 c.in-Some.input.0 c.get-item.ensures c.in-Some.ensures c.loop-level.invariant

pub lines-requires : goal.lines-requires
lines-requires c =
    let all = denote_some c.args.plan.now.expr_arena _ (node_kind c.args.plan.now.expr_arena c.args.plan.now.lp_arena c.loop-level.node.0 c.get-item.result.now c.get-item.ensures _ _ (layer_parts (plan_layer c.get-item.result.now)) c.loop-level.invariant) in
    first_outputs c.args.plan.now.expr_arena _ _ _ c.expressions.ensures.all all

pub lines-requires-in-loop-level : goal.lines-requires-in-loop-level
lines-requires-in-loop-level c =
    let all = denote_some c.args.plan.now.expr_arena _ (node_kind c.args.plan.now.expr_arena c.args.plan.now.lp_arena c.loop-level.node.0 c.get-item.result.now c.get-item.ensures _ _ (layer_parts (plan_layer c.get-item.result.now)) c.loop-level.invariant) in
    later_outputs c.args.plan.now.expr_arena _ _ _ c.expressions.ensures.all all

pub loop-level-preserved : goal.loop-level-preserved
loop-level-preserved c =
    input_denotes c.args.plan.now.expr_arena c.args.plan.now.lp_arena c.loop-level.node.0 c.get-item.result.now 0 c.in-Some.input.0 c.get-item.ensures c.in-Some.ensures c.loop-level.invariant
