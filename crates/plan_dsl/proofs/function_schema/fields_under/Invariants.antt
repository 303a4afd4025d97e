use Rattle.std.proofs.Common.{◌≡◌, ◌++◌, drop, map, true}
use Rattle.plan_types.specs.Schemas.{columns}
use Rattle.plan_types.specs.Types.{field_of}
use Rattle.plan_dsl.specs.Drops.{have_names}
use Rattle.plan_dsl.specs.TableRules.{columns_under}
use Rattle.plan_dsl.proofs.function_schema.fields_under.Given as goal

abbrev pub invariant-loop-name : goal.invariant-loop-name
invariant-loop-name l =
    (map field_of l.fields.items ++ columns_under (columns l.schema) (drop l.name-index l.names) ≡ columns_under (columns l.schema) l.names) × (have_names (columns l.schema) (drop l.name-index l.names) ≡ true)
