use Rattle.std.proofs.Common.{◌≡◌, map, take}
use Rattle.plan_types.specs.ValueViews.{val_of}
use Rattle.plan_types.proofs.column.Values.try_clone.Given as goal

abbrev pub invariant-loop-value : goal.invariant-loop-value
invariant-loop-value l = map val_of l.items.items ≡ map val_of (take l.value-index l.value-items)
