use Rattle.checks.proofs.RootLemmas.{finite_grown, root_added}
use Rattle.checks.proofs.coercions.added.Goals as goal

pub returns-clause-tree : goal.returns-clause-tree
returns-clause-tree g c = root_added _ c.to_aexpr.new.arena _ c.to_aexpr.result c.expect.result c.expect.ensures c.to_aexpr.ensures.denotes

pub returns-clause-finite : goal.returns-clause-finite
returns-clause-finite g c = finite_grown c.args.arena.now c.to_aexpr.new.arena c.to_aexpr.ensures.grows
