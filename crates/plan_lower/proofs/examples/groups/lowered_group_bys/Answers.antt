use Rattle.std.proofs.Common.{◌∷◌, [], refl}
use Rattle.plan_infer.specs.Samples.{int8, int32, a, b}
use Rattle.plan_lower.specs.Samples.{as_it_is}
use Rattle.plan_lower.proofs.ExamplePlanLemmas.{grouped}
use Rattle.plan_lower.proofs.examples.groups.lowered_group_bys.Goals as goal

pub returns-clause-groups : goal.returns-clause-groups
returns-clause-groups c = grouped

pub returns-clause-without_keys : goal.returns-clause-without_keys
returns-clause-without_keys c = λ g. g.some refl

pub returns-clause-nodes : goal.returns-clause-nodes
returns-clause-nodes c = record {
  key_outputs = as_it_is a int8 ∷ [];
  agg_outputs = as_it_is b int32 ∷ [];
  groups = grouped;
  keys_denote = (refl, ([], refl, tt), tt);
  aggs_denote = (refl, ([], refl, tt), tt);
  columns_are = refl;
}
