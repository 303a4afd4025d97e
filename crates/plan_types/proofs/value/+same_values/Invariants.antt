use Rattle.std.proofs.Common.{◌≡◌, drop}
use Rattle.plan_types.specs.Values.{same_values}
use Rattle.plan_types.specs.ValueViews.{values_in}
use Rattle.plan_types.proofs.value.+same_values.Given as goal

abbrev pub invariant-same_values-loop-index : goal.invariant-same_values-loop-index
invariant-same_values-loop-index l =
    same_values (values_in l.left) (values_in l.right) ≡ same_values (values_in (drop l.index l.left)) (values_in (drop l.index l.right))
