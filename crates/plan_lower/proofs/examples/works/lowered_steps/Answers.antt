use Rattle.std.proofs.Common.{◌≡◌, [], None, Some, refl}
use Rattle.plan_dsl.specs.Ops.{LenOp}
use Rattle.plan_arena.specs.Layers.{layer}
use Rattle.plan_lower.specs.Works.{without_memory}
use Rattle.plan_lower.proofs.AddedLemmas.{same_grows}
use Rattle.plan_lower.proofs.examples.works.lowered_steps.Goals as goal

pub returns-clause-memory : goal.returns-clause-memory
returns-clause-memory c = λ work plans. record {
  ok = tt;
  err = λ registry. without_memory refl;
  adds = record { recorded = tt; grows = same_grows plans plans refl; options = tt };
}

pub returns-clause-a_lost_item : goal.returns-clause-a_lost_item
returns-clause-a_lost_item c = λ work plans item lowers. let longer = lowers.adds.grows.longer in cc

pub returns-clause-a_lost_expression : goal.returns-clause-a_lost_expression
returns-clause-a_lost_expression c = λ step plans lowers. let gone : None ≡ Some (layer LenOp []) = lowers.kept 0 LenOp [] refl in cc

pub returns-clause-another_option : goal.returns-clause-another_option
returns-clause-another_option c = λ work lowers. let own = lowers.adds.options in cc
