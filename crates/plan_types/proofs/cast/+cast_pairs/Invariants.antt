use Rattle.std.proofs.Common.{◌≡◌, drop}
use Rattle.plan_types.specs.Types.{fields_in}
use Rattle.plan_types.specs.Casts.{can_cast_fields}
use Rattle.plan_types.proofs.cast.+cast_pairs.Given as goal

abbrev pub invariant-can_cast_fields-loop-index : goal.invariant-can_cast_fields-loop-index
invariant-can_cast_fields-loop-index l =
    can_cast_fields (fields_in l.from) (fields_in l.to) ≡ can_cast_fields (fields_in (drop l.index l.from)) (fields_in (drop l.index l.to))
