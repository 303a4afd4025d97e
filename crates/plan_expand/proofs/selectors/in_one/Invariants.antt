use Rattle.std.proofs.Common.{◌≡◌}
use Rattle.indexmap.specs.IndexSet.{insert_all}
use Rattle.plan_types.specs.Schemas.{same_name}
use Rattle.plan_dsl.specs.Markers.{once, set_of}
use Rattle.plan_dsl.specs.Sources.{ExclusiveOr}
use Rattle.plan_expand.proofs.selectors.in_one.Given as goal

abbrev pub invariant-loop-name : goal.invariant-loop-name
invariant-loop-name l = record {
  can : (goal.iterator-loop-name).can_next l.name-iterator;
  finite : (goal.iterator-loop-name).is_finite l.name-iterator;
  so_far : insert_all same_name l.apart.keys l.name-iterator ≡ once (set_of ExclusiveOr l.names.keys l.others.keys);
}
