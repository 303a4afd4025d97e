use Rattle.plan_arena.proofs.DenotationLemmas.{denotes_one}
use Rattle.plan_arena.proofs.ItemLemmas.{plan_laws}
use Rattle.plan_arena.proofs.RunLemmas.{runs_soundly}
use Rattle.plan_arena.specs.Items.{HoldsPlan}
use Rattle.plan_arena.proofs.laws.plan_laws.Goals as goal

pub returns-clause-sound : goal.returns-clause-sound
returns-clause-sound c = runs_soundly

pub returns-clause-one : goal.returns-clause-one
returns-clause-one c lowering plan other d e =
    denotes_one _ (HoldsPlan lowering.expr_arena lowering.lp_arena) (plan_laws lowering.expr_arena lowering.lp_arena) lowering.lp_top.0 plan other d e
