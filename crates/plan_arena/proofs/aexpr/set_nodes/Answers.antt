use Rattle.std.proofs.Common.{ap, ◌∙◌, arith}
use Rattle.std.proofs.Math.Seq.{map-set_same}
use Rattle.plan_arena.proofs.NamedLemmas.{one_more_node}
use Rattle.plan_arena.proofs.aexpr.set_nodes.Goals as goal

pub loop-index-preserved : goal.loop-index-preserved
loop-index-preserved c =
    let before = c.loop-index.invariant in
    record {
      nodes = one_more_node c.loop-index.exprs c.args.inputs.now c.loop-index.index c.set_node.new.self _ (omega (arith, c.loop-index.auto.exprs, c.requires, c.loop-index-test.true)) (omega (arith, c.loop-index-test.true)) (ap (λ e. e.node) c.set_node.ensures) before.nodes;
      names = map-set_same (λ e. e.output_name) c.loop-index.exprs c.loop-index.index c.set_node.new.self c.index-exprs-index.result (ap (λ e. e.output_name) c.set_node.ensures) ∙ before.names;
    }
