use Rattle.std.proofs.Common.{ap, arith}
use Rattle.plan_arena.specs.Items.{expression_layer}
use Rattle.plan_arena.proofs.ItemLemmas.{tree_within}
use Rattle.plan_infer.proofs.ItemTreeLemmas.{denoted_operands}
use Rattle.plan_report.proofs.CastLemmas.{input_leads}
use Rattle.plan_report.proofs.NodeLemmas.{expression_inputs}
use Rattle.explain.proofs.lowered.Site.+words.Goals as goal

pub typed-words-requires : goal.typed-words-requires
typed-words-requires t c = (omega (arith, c.decreases), c.requires)

pub typed-get-item-requires : goal.typed-get-item-requires
typed-get-item-requires t c = tree_within c.args.self.now.arena.now c.args.node.0 c.requires

pub typed-to_dtype-requires : goal.typed-to_dtype-requires
typed-to_dtype-requires t c = denoted_operands c.args.self.now.arena.now c.args.node.0 c.get-item.result.now c.get-item.ensures c.requires

pub words-get-item-requires : goal.words-get-item-requires
words-get-item-requires t c = tree_within c.args.self.now.arena.now c.args.node.0 c.requires

pub words-typed-requires : goal.words-typed-requires
words-typed-requires t c =
    let inputs = expression_inputs c.args.self.now.arena.now c.args.node.0 c.get-item.result.now c.get-item.ensures _ _ (ap expression_layer c.in-Cast.is) c.requires in
    (omega (arith, c.decreases, inputs.0.1), inputs.0.0)

pub words-words-requires : goal.words-words-requires
words-words-requires t c =
    let leads = input_leads c.args.self.now.arena.now c.args.node.0 c.get-item.result.now c.get-item.ensures c.requires c.input_nodes-inputs.result c.input_nodes-inputs.ensures c.loop-index.index c.at.result.0 c.at.ensures in
    (omega (arith, c.decreases, leads.1), leads.0)
