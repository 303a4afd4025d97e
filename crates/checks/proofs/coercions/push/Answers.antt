use Rattle.plan_arena.proofs.ItemLemmas.{tree_within}
use Rattle.checks.proofs.coercions.push.Goals as goal

pub push_scratch-requires : goal.push_scratch-requires
push_scratch-requires g c = tree_within c.args.arena.now c.args.root.0 c.requires.tree
