use Rattle.std.proofs.Common.{◌≡◌, drop, map}
use Rattle.indexmap.specs.IndexSet.{insert_all}
use Rattle.std.specs.List.{flat_map}
use Rattle.plan_types.specs.Schemas.{same_name}
use Rattle.plan_dsl.specs.Expressions.{excluded_of}
use Rattle.plan_dsl.specs.Markers.{once}
use Rattle.plan_expand.specs.Names.{excluded_name}
use Rattle.plan_expand.proofs.markers.excluded_names.Given as goal

abbrev pub invariant-loop-item : goal.invariant-loop-item
invariant-loop-item l = insert_all same_name l.names.keys (flat_map excluded_name (map excluded_of (drop l.item-index l.excluded))) ≡ once (flat_map excluded_name (map excluded_of l.excluded))
