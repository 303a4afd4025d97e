use Rattle.std.proofs.Common.{[], ◌∷◌, arith}
use Rattle.plan_arena.specs.Items.{plan_layer}
use Rattle.plan_arena.specs.Layers.{op_of}
use Rattle.plan_arena.proofs.ItemLemmas.{layer_parts, plan_within}
use Rattle.plan_report.proofs.NodeLemmas.{denote_some, no_input, node_kind, only_input, plan_inputs}
use Rattle.plan_report.proofs.CastLemmas.{kind_counted, plan_counted}
use Rattle.plan_report.proofs.casts.+plan_casts.Goals as goal

pub get-item-requires : goal.get-item-requires
get-item-requires t c = plan_within c.args.plan.now.expr_arena c.args.plan.now.lp_arena c.args.node.0 c.requires

pub item_casts-requires : goal.item_casts-requires
item_casts-requires t c =
    denote_some c.args.plan.now.expr_arena _ (node_kind c.args.plan.now.expr_arena c.args.plan.now.lp_arena c.args.node.0 c.get-item.result.now c.get-item.ensures _ _ (layer_parts (plan_layer c.get-item.result.now)) c.requires)

pub plan_casts-requires : goal.plan_casts-requires
plan_casts-requires t c =
    let inputs = plan_inputs c.args.plan.now.expr_arena c.args.plan.now.lp_arena c.args.node.0 c.get-item.result.now c.get-item.ensures _ _ (only_input c.get-item.result.now c.in-Some.input.0 c.in-Some.ensures) c.requires in
    (omega (arith, c.decreases, inputs.0.1), inputs.0.0)

pub returns-in-None : goal.returns-in-None
returns-in-None t c tree d =
    let own = kind_counted c.args.plan.now.expr_arena (op_of (plan_layer c.get-item.result.now)).kind c.in_ok-here.here c.in_ok-here.ensures in
    let counted = plan_counted c.args.plan.now.expr_arena c.args.plan.now.lp_arena c.args.node.0 c.get-item.result.now c.get-item.ensures _ _ c.in_ok-here.here [] (no_input c.get-item.result.now c.in-None.ensures) own tt tree d in
    omega (arith, counted)

pub returns-in_ok-count-in-Some : goal.returns-in_ok-count-in-Some
returns-in_ok-count-in-Some t c tree d =
    let own = kind_counted c.args.plan.now.expr_arena (op_of (plan_layer c.get-item.result.now)).kind c.in_ok-here.here c.in_ok-here.ensures in
    let counted = plan_counted c.args.plan.now.expr_arena c.args.plan.now.lp_arena c.args.node.0 c.get-item.result.now c.get-item.ensures _ _ c.in_ok-here.here (c.in_ok-below-in-Some.below ∷ []) (only_input c.get-item.result.now c.in-Some.input.0 c.in-Some.ensures) own (c.in_ok-below-in-Some.ensures, tt) tree d in
    omega (arith, c.in_ok-count-in-Some.ensures, counted)
