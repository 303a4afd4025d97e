use Rattle.std.proofs.Common.{◌≡◌, ◌++◌, drop, map}
use Rattle.std.specs.List.{flat_map}
use Rattle.plan_types.specs.Types.{ty}
use Rattle.plan_dsl.specs.Expressions.{excluded_of}
use Rattle.plan_expand.specs.Names.{excluded_type}
use Rattle.plan_expand.proofs.markers.excluded_types.Given as goal

abbrev pub invariant-loop-item : goal.invariant-loop-item
invariant-loop-item l = map (λ dtype. ty dtype.now) l.types.items ++ flat_map excluded_type (map excluded_of (drop l.item-index l.excluded)) ≡ flat_map excluded_type (map excluded_of l.excluded)
