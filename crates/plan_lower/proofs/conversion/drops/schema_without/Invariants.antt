use Rattle.std.proofs.Common.{◌≡◌, ◌++◌, drop}
use Rattle.plan_types.specs.Schemas.{columns}
use Rattle.plan_dsl.specs.Drops.{columns_but}
use Rattle.plan_lower.proofs.conversion.drops.schema_without.Given as goal

abbrev pub invariant-loop-index : goal.invariant-loop-index
invariant-loop-index l = columns l.own ++ columns_but l.names.keys (drop l.index (columns l.schema)) ≡ columns_but l.names.keys (columns l.schema)
