use Rattle.std.proofs.Common.{◌+◌, subst, arith}
use Rattle.plan_arena.specs.Items.{numbers_named}
use Rattle.plan_properties.specs.Asking.{SaysOfNode}
use Rattle.plan_properties.specs.Properties.{can_pre_agg}
use Rattle.plan_arena.proofs.NumberLemmas.{all_there}
use Rattle.plan_properties.proofs.AskingLemmas.{all_said, nodes_whole, node_there, one_unsaid, said_more}
use Rattle.plan_properties.proofs.properties.can_pre_agg_exprs.Goals as goal

pub can_pre_agg-requires : goal.can_pre_agg-requires
can_pre_agg-requires c =
    let there = node_there c.args.exprs.now c.loop-expr.expr-index c.expr-item.result c.node.result c.loop-expr-test.true c.expr-item.is c.node.ensures in
    all_there _ (numbers_named c.args.exprs.now) c.requires c.loop-expr.expr-index c.node.result.0 there

pub returns-then-not-can_pre_agg : goal.returns-then-not-can_pre_agg
returns-then-not-can_pre_agg c =
    let there = node_there c.args.exprs.now c.loop-expr.expr-index c.expr-item.result c.node.result c.loop-expr-test.true c.expr-item.is c.node.ensures in
    let says = subst (SaysOfNode c.args.arena.now c.node.result.0 can_pre_agg) c.if-not-can_pre_agg.true c.can_pre_agg.ensures in
    one_unsaid c.args.arena.now can_pre_agg (numbers_named c.args.exprs.now) c.loop-expr.expr-index c.node.result.0 there says

pub loop-expr-preserved : goal.loop-expr-preserved
loop-expr-preserved c =
    let there = node_there c.args.exprs.now c.loop-expr.expr-index c.expr-item.result c.node.result c.loop-expr-test.true c.expr-item.is c.node.ensures in
    let says = subst (SaysOfNode c.args.arena.now c.node.result.0 can_pre_agg) c.if-not-can_pre_agg.false c.can_pre_agg.ensures in
    said_more _ (numbers_named c.args.exprs.now) c.loop-expr.expr-index (c.loop-expr.expr-index + 1) c.node.result.0 (omega arith) there c.loop-expr.invariant says

pub returns : goal.returns
returns c = all_said c.args.arena.now can_pre_agg (numbers_named c.args.exprs.now) (nodes_whole _ c.args.exprs.now c.loop-expr.expr-index c.loop-expr-test.false c.loop-expr.invariant)
