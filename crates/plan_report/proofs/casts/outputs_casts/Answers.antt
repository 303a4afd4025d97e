use Rattle.std.proofs.Common.{map, arith}
use Rattle.std.proofs.lemmas.List.{length-map}
use Rattle.plan_arena.specs.Items.{named_node}
use Rattle.plan_report.proofs.CastLemmas.{named_there, named_tree, outputs_more, outputs_end}
use Rattle.plan_report.proofs.casts.outputs_casts.Goals as goal

pub expression_casts-requires : goal.expression_casts-requires
expression_casts-requires c =
    let at = named_there c.args.outputs.now c.loop-output.output-index c.output-item.result c.loop-output-test.true c.output-item.is in
    rw c.node.ensures (named_tree _ _ _ c.requires.denote c.loop-output.output-index _ at)

pub loop-output-preserved : goal.loop-output-preserved
loop-output-preserved c =
    let at = named_there c.args.outputs.now c.loop-output.output-index c.output-item.result c.loop-output-test.true c.output-item.is in
    outputs_more c.args.arena.now (map named_node c.args.outputs.now) c.loop-output.output-index c.loop-output.count c.in_ok-casts.casts _ _ at c.loop-output.invariant (rw c.node.ensures at c.in_ok-casts.ensures) c.in_ok-count.ensures

pub returns : goal.returns
returns c =
    let nodes = map named_node c.args.outputs.now in
    (outputs_end c.args.arena.now nodes c.loop-output.output-index c.loop-output.count (omega (arith, length-map c.args.outputs.now named_node)) c.loop-output.invariant)
