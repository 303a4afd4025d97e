use Rattle.plan_arena.proofs.ItemLemmas.{item_inputs, plan_within}
use Rattle.explain.proofs.lowered.schema_at.Goals as goal

pub get-requires : goal.get-requires
get-requires c = plan_within c.args.plan.now.expr_arena c.args.plan.now.lp_arena c.args.node.0 c.requires

pub schema_ref-requires : goal.schema_ref-requires
schema_ref-requires c = item_inputs c.args.plan.now.expr_arena c.args.plan.now.lp_arena c.args.node.0 c.get.result.now c.get.ensures c.requires
