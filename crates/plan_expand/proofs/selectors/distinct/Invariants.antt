use Rattle.std.proofs.Common.{◌≡◌}
use Rattle.std.specs.Vec.Iter.{into_iter_items}
use Rattle.indexmap.specs.IndexSet.{insert_all}
use Rattle.plan_types.specs.Schemas.{same_name}
use Rattle.plan_dsl.specs.Markers.{once}
use Rattle.plan_expand.proofs.selectors.distinct.Given as goal

abbrev pub invariant-loop-name : goal.invariant-loop-name
invariant-loop-name l = record {
  can : (goal.iterator-loop-name).can_next l.name-iterator;
  finite : (goal.iterator-loop-name).is_finite l.name-iterator;
  so_far : insert_all same_name l.names.keys (into_iter_items l.name-iterator) ≡ once l.fn.list.items;
}
