use Rattle.std.proofs.Common.{◌≡◌, ◌≤◌, length, map, vec_len}
use Rattle.plan_types.specs.Types.{ty}
use Rattle.plan_types.specs.Schemas.{columns}
use Rattle.plan_types.specs.SchemaCalls.{with_types}
use Rattle.plan_types.proofs.schema.Schema.give_types.Given as goal

abbrev pub invariant-loop-dtype : goal.invariant-loop-dtype
invariant-loop-dtype l =
    (with_types (columns l.self) (map ty l.types.items) ≡ with_types (columns l.initial.self) (map ty l.initial.types.items))
    × (length l.types.items ≤ length (columns l.self))

abbrev pub decreases-loop-dtype : goal.decreases-loop-dtype
decreases-loop-dtype l = vec_len l.types
