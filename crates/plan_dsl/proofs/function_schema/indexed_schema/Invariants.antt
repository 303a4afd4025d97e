use Rattle.std.proofs.Common.{◌≡◌, ◌++◌, drop, map}
use Rattle.plan_types.specs.Schemas.{columns}
use Rattle.plan_types.specs.Types.{field_of}
use Rattle.plan_dsl.specs.TableRules.{indexed_columns}
use Rattle.plan_dsl.proofs.function_schema.indexed_schema.Given as goal

abbrev pub invariant-loop-index : goal.invariant-loop-index
invariant-loop-index l = map field_of l.fields.items ++ drop l.index (columns l.schema) ≡ indexed_columns l.name (columns l.schema)
