use Rattle.std.proofs.Common.{◌≡◌, map, take}
use Rattle.plan_types.specs.ValueViews.{val_of}
use Rattle.plan_types.proofs.value.+value_copies.Given as goal

abbrev pub invariant-Parts::try_clone-loop-item : goal.invariant-Parts::try_clone-loop-item
invariant-Parts::try_clone-loop-item l = map val_of l.items.items ≡ map val_of (take l.item-index l.item-items)
