use Rattle.std.proofs.Common.{◌≡◌, drop}
use Rattle.plan_types.specs.Schemas.{columns}
use Rattle.plan_types.specs.SchemaCalls.{types_of}
use Rattle.plan_types.specs.TypeOrder.{folded_from, folded_type}
use Rattle.plan_types.specs.Types.{ty}
use Rattle.plan_dsl.specs.TableRules.{columns_under}
use Rattle.plan_dsl.proofs.function_schema.type_among.Given as goal

abbrev pub invariant-loop-name : goal.invariant-loop-name
invariant-loop-name l =
    folded_from (ty l.found) (types_of (columns_under (columns l.schema) (drop l.name-index l.names))) ≡ folded_type (types_of (columns_under (columns l.schema) l.names))
