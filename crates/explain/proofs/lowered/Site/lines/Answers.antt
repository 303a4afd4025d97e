use Rattle.std.proofs.Common.{sym, subst}
use Rattle.plan_arena.specs.Denotation.{DenotesTree}
use Rattle.plan_arena.specs.Items.{HoldsExpression}
use Rattle.plan_report.proofs.CastLemmas.{named_there, named_tree}
use Rattle.explain.proofs.lowered.Site.lines.Goals as goal

pub typed-requires : goal.typed-requires
typed-requires c =
    let at = named_there c.args.outputs.now c.loop-output.output-index c.output-item.result c.loop-output-test.true c.output-item.is in
    subst (DenotesTree (HoldsExpression c.args.self.now.arena.now)) (sym c.node.ensures) (named_tree _ _ _ c.requires.denote c.loop-output.output-index _ at)
