use Rattle.std.proofs.Common.{subst}
use Rattle.plan_dsl.specs.Trees.{more}
use Rattle.plan_lower.specs.Horizontals.{InChain}
use Rattle.plan_lower.proofs.HorizontalLemmas.{chain_more}
use Rattle.plan_lower.proofs.conversion.horizontals.Chaining.put_behind.Goals as goal

pub returns-in_ok-node-in-Some-clause-ok : goal.returns-in_ok-node-in-Some-clause-ok
returns-in_ok-node-in-Some-clause-ok c from all left tree le so_far one =
    let added = c.in_ok-node-in-Some in
    let before = subst (InChain c.args.self.operator from c.args.arena.now all (more tree left)) c.in-Some.is so_far in
    chain_more c.args.self.operator from c.args.arena.now c.add.new.self le all left tree c.in-Some.left c.args.operand added.node before one added.ensures.ok added.ensures.node
