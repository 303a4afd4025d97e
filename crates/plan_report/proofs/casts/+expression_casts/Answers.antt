use Rattle.std.proofs.Common.{refl, ap, arith}
use Rattle.plan_arena.specs.Items.{expression_layer}
use Rattle.plan_arena.proofs.ItemLemmas.{tree_within}
use Rattle.plan_report.proofs.NodeLemmas.{expression_inputs}
use Rattle.plan_report.proofs.CastLemmas.{expression_counted, input_counted, input_leads, leaf_counted, one_counted, other_casts, two_counted}
use Rattle.plan_report.proofs.casts.+expression_casts.Goals as goal

pub get-item-requires : goal.get-item-requires
get-item-requires t c = tree_within c.args.arena.now c.args.node.0 c.requires

pub expression_casts-requires : goal.expression_casts-requires
expression_casts-requires t c =
    let inputs = expression_inputs c.args.arena.now c.args.node.0 c.get-item.result.now c.get-item.ensures _ _ (ap expression_layer c.in-BinaryExpr.is) c.requires in
    (omega (arith, c.decreases, inputs.0.1), inputs.0.0)

pub expression_casts-requires-in-BinaryExpr : goal.expression_casts-requires-in-BinaryExpr
expression_casts-requires-in-BinaryExpr t c =
    let inputs = expression_inputs c.args.arena.now c.args.node.0 c.get-item.result.now c.get-item.ensures _ _ (ap expression_layer c.in-BinaryExpr.is) c.requires in
    (omega (arith, c.decreases, inputs.1.0.1), inputs.1.0.0)

pub expression_casts-requires-in-Cast : goal.expression_casts-requires-in-Cast
expression_casts-requires-in-Cast t c =
    let inputs = expression_inputs c.args.arena.now c.args.node.0 c.get-item.result.now c.get-item.ensures _ _ (ap expression_layer c.in-Cast.is) c.requires in
    (omega (arith, c.decreases, inputs.0.1), inputs.0.0)

pub expression_casts-requires-in-loop-index : goal.expression_casts-requires-in-loop-index
expression_casts-requires-in-loop-index t c =
    let leads = input_leads c.args.arena.now c.args.node.0 c.get-item.result.now c.get-item.ensures c.requires c.input_nodes-inputs.result c.input_nodes-inputs.ensures c.loop-index.index c.at.result.0 c.at.ensures in
    (omega (arith, c.decreases, leads.1), leads.0)

pub loop-index-preserved : goal.loop-index-preserved
loop-index-preserved t c =
    input_counted c.args.arena.now c.input_nodes-inputs.result c.loop-index.index 0 c.loop-index.count c.in_ok-casts-in_default.casts _ c.at.result.0 c.at.ensures c.loop-index.invariant c.in_ok-casts-in_default.ensures c.in_ok-count-in_default.ensures

pub returns-in-Column : goal.returns-in-Column
returns-in-Column t c =
    leaf_counted c.args.arena.now c.args.node.0 c.get-item.result.now c.get-item.ensures _ (ap expression_layer c.in-Column.is) (λ below. refl)

pub returns-in-Literal : goal.returns-in-Literal
returns-in-Literal t c =
    leaf_counted c.args.arena.now c.args.node.0 c.get-item.result.now c.get-item.ensures _ (ap expression_layer c.in-Literal.is) (λ below. refl)

pub returns-in_ok-count-in-BinaryExpr : goal.returns-in_ok-count-in-BinaryExpr
returns-in_ok-count-in-BinaryExpr t c =
    two_counted c.args.arena.now c.args.node.0 c.get-item.result.now c.get-item.ensures _ _ _ _ _ _ (ap expression_layer c.in-BinaryExpr.is) (λ below. refl) c.in_ok-first-in-BinaryExpr.ensures c.in_ok-second-in-BinaryExpr.ensures c.in_ok-count-in-BinaryExpr.ensures

pub returns-in_ok-count-in-Cast : goal.returns-in_ok-count-in-Cast
returns-in_ok-count-in-Cast t c =
    one_counted c.args.arena.now c.args.node.0 c.get-item.result.now c.get-item.ensures _ _ 1 _ _ (ap expression_layer c.in-Cast.is) (λ below. refl) c.in_ok-below-in-Cast.ensures c.in_ok-count-in-Cast.ensures

pub returns-after-loop-index : goal.returns-after-loop-index
returns-after-loop-index t c =
    expression_counted c.args.arena.now c.args.node.0 c.get-item.result.now c.get-item.ensures c.input_nodes-inputs.result c.input_nodes-inputs.ensures c.loop-index.index 0 c.loop-index.count (omega (arith, c.loop-index-test.false)) (other_casts c.get-item.result.now c.in_default.not-Cast c.in_default.not-Literal) c.loop-index.invariant
