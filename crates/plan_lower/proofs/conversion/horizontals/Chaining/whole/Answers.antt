use Rattle.std.proofs.Common.{subst, ◌∙◌}
use Rattle.plan_dsl.specs.Trees.{no_more}
use Rattle.plan_lower.specs.Horizontals.{InChain}
use Rattle.plan_lower.proofs.HorizontalLemmas.{chain_cast}
use Rattle.plan_lower.proofs.conversion.horizontals.Chaining.whole.Goals as goal

pub returns-in_ok-node-in-Some-clause-ok : goal.returns-in_ok-node-in-Some-clause-ok
returns-in_ok-node-in-Some-clause-ok c from all le so_far counted =
    let added = c.in_ok-node-in-Some in
    let before = subst (InChain c.args.self.operator from c.args.arena.now all no_more) c.in-Some.is so_far in
    chain_cast c.args.self.operator from c.args.arena.now c.add-in-Some.new.self le c.args.self.nothing all c.in-Some.expr added.node.0 before (counted ∙ c.if-count-ne1.false) added.ensures.ok added.ensures.node
