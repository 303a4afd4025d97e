use Rattle.std.proofs.Common.{◌≡◌, map, take}
use Rattle.plan_dsl.specs.Expressions.{excluded_of}
use Rattle.plan_dsl.proofs.marker.excluded_copied.Given as goal

abbrev pub invariant-loop-item : goal.invariant-loop-item
invariant-loop-item l = map excluded_of l.copies.items ≡ map excluded_of (take l.item-index l.excluded)
