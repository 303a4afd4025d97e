use Rattle.std.proofs.Common.{ap}
use Rattle.plan_arena.specs.Items.{plan_layer}
use Rattle.plan_arena.proofs.ItemLemmas.{plan_within}
use Rattle.plan_report.proofs.NodeLemmas.{plan_inputs}
use Rattle.checks.proofs.plan_schemas.node_below.Goals as goal

pub get-requires : goal.get-requires
get-requires c = plan_within c.requires.expressions c.args.arena.now c.args.node.0 c.requires.tree

pub returns-in-Filter : goal.returns-in-Filter
returns-in-Filter c =
    let inputs = plan_inputs c.requires.expressions c.args.arena.now c.args.node.0 c.get.result.now c.get.ensures _ _ (ap plan_layer c.in-Filter.is) c.requires.tree in
    record { expressions = c.requires.expressions; tree = inputs.0.0 }
