use Rattle.std.proofs.Common.{[], ◌∷◌, refl}
use Rattle.plan_types.specs.Types.{Truth}
use Rattle.plan_infer.specs.Samples.{int8, a}
use Rattle.plan_lower.specs.Samples.{keep, as_it_is}
use Rattle.plan_lower.proofs.examples.outputs.expanded_sources.Goals as goal

pub returns-clause-outputs : goal.returns-clause-outputs
returns-clause-outputs c = record {
  trees = a ∷ [];
  expanded = refl;
  lowered = record {
    outputs = as_it_is a int8 ∷ [];
    trees_are = refl;
    each = (record { typed = refl; same = record { typing = refl; name = refl; meaning = λ rows. refl }; strict = refl; casts = refl; names = (tt, tt); wide = refl }, tt);
    types = refl;
    distinct = (refl, tt);
    denotes = (refl, ([], refl, tt), tt);
    columns_are = refl;
  };
}

pub returns-clause-outputs_of_nothing : goal.returns-clause-outputs_of_nothing
returns-clause-outputs_of_nothing c = record {
  trees = [];
  expanded = refl;
  lowered = record { outputs = []; trees_are = refl; each = tt; types = refl; distinct = tt; denotes = tt; columns_are = refl };
}

pub returns-clause-no_outputs : goal.returns-clause-no_outputs
returns-clause-no_outputs c = λ has. let never = has.expanded in cc

pub returns-clause-predicate : goal.returns-clause-predicate
returns-clause-predicate c = record {
  tree = keep;
  expanded = refl;
  lowered = record {
    output = as_it_is keep Truth;
    filters = record {
      tree_is = refl;
      is = record { typed = refl; same = record { typing = refl; name = refl; meaning = λ rows. refl }; strict = refl; casts = refl; names = (tt, tt); wide = refl };
      truth = refl;
    };
    denotes = (refl, ([], refl, tt), tt);
  };
}

pub returns-clause-no_predicate : goal.returns-clause-no_predicate
returns-clause-no_predicate c = λ has. let never = has.expanded in cc
