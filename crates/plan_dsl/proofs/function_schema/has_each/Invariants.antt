use Rattle.std.proofs.Common.{◌≡◌, drop}
use Rattle.plan_types.specs.Schemas.{columns}
use Rattle.plan_dsl.specs.Drops.{have_names}
use Rattle.plan_dsl.proofs.function_schema.has_each.Given as goal

abbrev pub invariant-loop-name : goal.invariant-loop-name
invariant-loop-name l = have_names (columns l.schema) (drop l.name-index l.names) ≡ have_names (columns l.schema) l.names
