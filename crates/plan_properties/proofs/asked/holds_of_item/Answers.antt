use Rattle.std.proofs.Common.{subst}
use Rattle.plan_arena.specs.Items.{expression_layer}
use Rattle.plan_properties.specs.Asking.{SaysOfAll, hands_on, holds_of, settles}
use Rattle.plan_properties.proofs.AskingLemmas.{handed_on, stopped}
use Rattle.plan_properties.proofs.asked.holds_of_item.Goals as goal

pub returns-then-not-hands_on : goal.returns-then-not-hands_on
returns-then-not-hands_on c =
    stopped (settles c.args.asked) (hands_on c.args.asked) c.args.arena.now (expression_layer c.args.item.now) c.if-settles.ensures c.if-not-hands_on.ensures

pub returns : goal.returns
returns c =
    let says = subst (λ ns. SaysOfAll c.args.arena.now ns (holds_of c.args.asked) c.holds_of_all.result) c.input_nodes.ensures c.holds_of_all.ensures in
    handed_on (settles c.args.asked) (hands_on c.args.asked) c.args.arena.now (expression_layer c.args.item.now) _ c.if-settles.ensures c.if-not-hands_on.ensures says
