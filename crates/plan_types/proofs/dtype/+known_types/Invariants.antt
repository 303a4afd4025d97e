use Rattle.std.proofs.Common.{◌≡◌, drop}
use Rattle.plan_types.specs.Types.{are_known, fields_in}
use Rattle.plan_types.proofs.dtype.+known_types.Given as goal

abbrev pub invariant-are_known-loop-field : goal.invariant-are_known-loop-field
invariant-are_known-loop-field l = are_known (fields_in l.fields) ≡ are_known (fields_in (drop l.field-index l.fields))
