use Rattle.std.proofs.Common.{◌≡◌, map, take}
use Rattle.plan_types.specs.Types.{ty}
use Rattle.plan_dsl.proofs.marker.types_copied.Given as goal

abbrev pub invariant-loop-dtype : goal.invariant-loop-dtype
invariant-loop-dtype l = map ty l.copies.items ≡ map ty (take l.dtype-index l.types)
