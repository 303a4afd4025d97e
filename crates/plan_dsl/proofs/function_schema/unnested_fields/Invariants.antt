use Rattle.std.proofs.Common.{◌≡◌, ◌++◌, drop, map}
use Rattle.plan_types.specs.Schemas.{columns}
use Rattle.plan_types.specs.Types.{field_of}
use Rattle.plan_dsl.specs.TableRules.{unnested_columns}
use Rattle.plan_dsl.proofs.function_schema.unnested_fields.Given as goal

abbrev pub invariant-loop-index : goal.invariant-loop-index
invariant-loop-index l = map field_of l.fields.items ++ unnested_columns l.fn.names (drop l.index (columns l.schema)) ≡ unnested_columns l.fn.names (columns l.schema)
