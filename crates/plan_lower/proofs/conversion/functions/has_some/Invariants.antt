use Rattle.std.proofs.Common.{◌≡◌, drop}
use Rattle.plan_types.specs.Schemas.{columns}
use Rattle.plan_dsl.specs.TableCalls.{has_some}
use Rattle.plan_lower.proofs.conversion.functions.has_some.Given as goal

abbrev pub invariant-loop-name : goal.invariant-loop-name
invariant-loop-name l = has_some (columns l.schema) (drop l.name-index l.names) ≡ has_some (columns l.schema) l.names
