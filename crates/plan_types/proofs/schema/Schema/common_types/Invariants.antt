use Rattle.std.proofs.Common.{map}
use Rattle.plan_types.specs.Types.{ty}
use Rattle.plan_types.specs.Schemas.{columns}
use Rattle.plan_types.specs.SchemaCalls.{types_of}
use Rattle.plan_types.proofs.SchemaPairLemmas.{Merging}
use Rattle.plan_types.proofs.schema.Schema.common_types.Given as goal

abbrev pub invariant-loop-number : goal.invariant-loop-number
invariant-loop-number l = Merging (types_of (columns l.self)) (types_of (columns l.other)) (map ty l.types.items) l.number
