use Rattle.std.proofs.Common.{◌≡◌, drop}
use Rattle.plan_types.specs.Types.{fields_in, same_fields}
use Rattle.plan_types.proofs.+same_types.Given as goal

abbrev pub invariant-dtype::same_fields-loop-index : goal.invariant-dtype::same_fields-loop-index
invariant-dtype::same_fields-loop-index l =
    same_fields (fields_in l.left) (fields_in l.right) ≡ same_fields (fields_in (drop l.index l.left)) (fields_in (drop l.index l.right))
