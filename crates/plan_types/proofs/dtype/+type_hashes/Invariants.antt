use Rattle.std.proofs.Common.{◌≡◌, drop}
use Rattle.std.specs.List.{fold}
use Rattle.plan_types.specs.Types.{each_field_writes, fields_in, fields_writes}
use Rattle.plan_types.proofs.dtype.+type_hashes.Given as goal

abbrev pub invariant-feed_fields-loop-field : goal.invariant-feed_fields-loop-field
invariant-feed_fields-loop-field g l =
    fold g.H.Hasher.write l.state (each_field_writes (fields_in (drop l.field-index l.fields))) ≡ fold g.H.Hasher.write l.fn.state (fields_writes (fields_in l.fields))
