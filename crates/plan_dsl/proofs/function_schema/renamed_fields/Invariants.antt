use Rattle.std.proofs.Common.{◌≡◌, ◌++◌, drop, map}
use Rattle.plan_types.specs.Schemas.{columns}
use Rattle.plan_types.specs.Types.{field_of}
use Rattle.plan_dsl.specs.TableRules.{renamed_columns}
use Rattle.plan_dsl.proofs.function_schema.renamed_fields.Given as goal

abbrev pub invariant-loop-index : goal.invariant-loop-index
invariant-loop-index l =
    map field_of l.fields.items ++ renamed_columns l.fn.existing l.fn.new (drop l.index (columns l.schema)) ≡ renamed_columns l.fn.existing l.fn.new (columns l.schema)
