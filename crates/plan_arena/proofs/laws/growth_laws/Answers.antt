use Rattle.plan_arena.specs.Items.{HoldsExpression}
use Rattle.plan_arena.proofs.DenotationLemmas.{kept}
use Rattle.plan_arena.proofs.ItemLemmas.{grown_held, plan_tree_kept}
use Rattle.plan_arena.proofs.laws.growth_laws.Goals as goal

pub returns-clause-expressions : goal.returns-clause-expressions
returns-clause-expressions c old new grows n tree d =
    kept (HoldsExpression old) (HoldsExpression new) (grown_held old new grows) n tree d

pub returns-clause-plans : goal.returns-clause-plans
returns-clause-plans c old new before after grows plans_grow n plan d =
    plan_tree_kept old new before after (grown_held old new grows) plans_grow n plan d
