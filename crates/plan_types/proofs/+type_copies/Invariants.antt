use Rattle.std.proofs.Common.{◌≡◌, map, take}
use Rattle.plan_types.specs.Types.{field_of}
use Rattle.plan_types.proofs.+type_copies.Given as goal

abbrev pub invariant-dtype::Fields::try_clone-loop-field : goal.invariant-dtype::Fields::try_clone-loop-field
invariant-dtype::Fields::try_clone-loop-field l = map field_of l.items.items ≡ map field_of (take l.field-index l.field-items)
