use Rattle.std.proofs.Common.{◌≡◌, drop}
use Rattle.plan_types.specs.Schemas.{columns}
use Rattle.plan_types.specs.SchemaCalls.{same_names}
use Rattle.plan_types.proofs.schema.Schema.has_names_of.Given as goal

abbrev pub invariant-loop-number : goal.invariant-loop-number
invariant-loop-number l =
    same_names (columns l.self) (columns l.other) ≡ same_names (drop l.number (columns l.self)) (drop l.number (columns l.other))
