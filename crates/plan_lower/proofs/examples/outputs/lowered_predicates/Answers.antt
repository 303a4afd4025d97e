use Rattle.std.proofs.Common.{[], refl}
use Rattle.plan_types.specs.Types.{Truth}
use Rattle.plan_lower.specs.Predicates.{FiltersBy}
use Rattle.plan_lower.specs.Samples.{truths, keep, as_it_is}
use Rattle.plan_lower.proofs.examples.outputs.lowered_predicates.Goals as goal

filters : FiltersBy [] truths keep (as_it_is keep Truth)
filters = record {
  tree_is = refl;
  is = record { typed = refl; same = record { typing = refl; name = refl; meaning = λ rows. refl }; strict = refl; casts = refl; names = (tt, tt); wide = refl };
  truth = refl;
}

pub returns-clause-predicate : goal.returns-clause-predicate
returns-clause-predicate c = filters

pub returns-clause-node : goal.returns-clause-node
returns-clause-node c = record { output = as_it_is keep Truth; filters = filters; denotes = (refl, ([], refl, tt), tt) }
