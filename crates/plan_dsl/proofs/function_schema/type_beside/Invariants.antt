use Rattle.std.proofs.Common.{◌≡◌, drop}
use Rattle.plan_types.specs.Schemas.{columns}
use Rattle.plan_types.specs.SchemaCalls.{types_of}
use Rattle.plan_types.specs.TypeOrder.{folded_from, folded_type}
use Rattle.plan_types.specs.Types.{ty}
use Rattle.plan_dsl.specs.Drops.{columns_but}
use Rattle.plan_dsl.proofs.function_schema.type_beside.Given as goal

abbrev pub invariant-loop-index : goal.invariant-loop-index
invariant-loop-index l =
    folded_from (ty l.found) (types_of (columns_but l.fn.names (drop l.index (columns l.schema)))) ≡ folded_type (types_of (columns_but l.fn.names (columns l.schema)))
