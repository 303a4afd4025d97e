use Rattle.std.proofs.Common.{true, ◌+◌, map, sym, ap, subst, arith}
use Rattle.plan_arena.specs.Items.{expression_layer}
use Rattle.plan_arena.specs.Denotation.{depth_at, greatest}
use Rattle.plan_arena.specs.Layers.{shape_of}
use Rattle.plan_arena.proofs.ItemLemmas.{tree_within}
use Rattle.plan_arena.proofs.NumberLemmas.{all_there}
use Rattle.plan_properties.specs.Asking.{AllDenote, SaysOfAll, SaysOfNode, hands_on, holds_of, settles}
use Rattle.plan_properties.proofs.AskingLemmas.{all_said, at_most_greatest, depth_over, handed_on, of_node, one_unsaid, operands_denote, said_more, said_whole, settled, stopped}
use Rattle.plan_properties.proofs.asked.+asking.Goals as goal

pub holds_of-get-item-requires : goal.holds_of-get-item-requires
holds_of-get-item-requires t c = tree_within c.args.arena.now c.args.node.0 c.requires

pub holds_of-returns-then-settles : goal.holds_of-returns-then-settles
holds_of-returns-then-settles t c =
    let items = c.args.arena.now in
    let item = c.get-item.result.now in
    of_node items c.args.node.0 item c.get-item.ensures (holds_of c.args.asked) true (settled (settles c.args.asked) (hands_on c.args.asked) items (expression_layer item) c.if-settles.ensures)

pub holds_of-returns-then-not-hands_on : goal.holds_of-returns-then-not-hands_on
holds_of-returns-then-not-hands_on t c =
    let items = c.args.arena.now in
    let item = c.get-item.result.now in
    of_node items c.args.node.0 item c.get-item.ensures (holds_of c.args.asked) _ (stopped (settles c.args.asked) (hands_on c.args.asked) items (expression_layer item) c.if-settles.ensures c.if-not-hands_on.ensures)

pub holds_of-holds_of_all-requires : goal.holds_of-holds_of_all-requires
holds_of-holds_of_all-requires t c =
    let items = c.args.arena.now in
    let item = c.get-item.result.now in
    let depth = ap (greatest (depth_at (shape_of (map expression_layer items)))) c.input_nodes.ensures in (
      omega (arith, c.decreases, depth, depth_over items c.args.node.0 item c.get-item.ensures c.requires),
      subst (AllDenote items) (sym c.input_nodes.ensures) (operands_denote items c.args.node.0 item c.get-item.ensures c.requires),
    )

pub holds_of-returns : goal.holds_of-returns
holds_of-returns t c =
    let items = c.args.arena.now in
    let item = c.get-item.result.now in
    let says = subst (λ ns. SaysOfAll items ns (holds_of c.args.asked) c.holds_of_all.result) c.input_nodes.ensures c.holds_of_all.ensures in
    of_node items c.args.node.0 item c.get-item.ensures (holds_of c.args.asked) _ (handed_on (settles c.args.asked) (hands_on c.args.asked) items (expression_layer item) _ c.if-settles.ensures c.if-not-hands_on.ensures says)

pub holds_of_all-holds_of-requires : goal.holds_of_all-holds_of-requires
holds_of_all-holds_of-requires t c =
    let items = c.args.arena.now in
    let ns = c.args.inputs.now in (
      omega (arith, c.decreases, at_most_greatest (depth_at (shape_of (map expression_layer items))) ns c.loop-index.index c.at.result.0 c.at.ensures),
      all_there _ ns c.requires c.loop-index.index c.at.result.0 c.at.ensures,
    )

pub holds_of_all-returns-then-not-holds_of : goal.holds_of_all-returns-then-not-holds_of
holds_of_all-returns-then-not-holds_of t c =
    let says = subst (SaysOfNode c.args.arena.now c.at.result.0 (holds_of c.args.asked)) c.if-not-holds_of.true c.holds_of.ensures in
    one_unsaid c.args.arena.now (holds_of c.args.asked) c.args.inputs.now c.loop-index.index c.at.result.0 c.at.ensures says

pub holds_of_all-loop-index-preserved : goal.holds_of_all-loop-index-preserved
holds_of_all-loop-index-preserved t c =
    let says = subst (SaysOfNode c.args.arena.now c.at.result.0 (holds_of c.args.asked)) c.if-not-holds_of.false c.holds_of.ensures in
    said_more _ c.args.inputs.now c.loop-index.index (c.loop-index.index + 1) c.at.result.0 (omega arith) c.at.ensures c.loop-index.invariant says

pub holds_of_all-returns : goal.holds_of_all-returns
holds_of_all-returns t c =
    all_said c.args.arena.now (holds_of c.args.asked) c.args.inputs.now (said_whole _ c.args.inputs.now c.loop-index.index (omega (arith, c.loop-index-test.false, c.len-index-end.ensures)) c.loop-index.invariant)
