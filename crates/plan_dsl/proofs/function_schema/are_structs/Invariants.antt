use Rattle.std.proofs.Common.{◌≡◌, drop}
use Rattle.std.specs.List.{list_all}
use Rattle.plan_types.specs.SchemaCalls.{types_of}
use Rattle.plan_types.specs.Schemas.{columns}
use Rattle.plan_dsl.specs.TableRules.{columns_under, is_struct}
use Rattle.plan_dsl.proofs.function_schema.are_structs.Given as goal

abbrev pub invariant-loop-name : goal.invariant-loop-name
invariant-loop-name l = list_all is_struct (types_of (columns_under (columns l.schema) (drop l.name-index l.names))) ≡ list_all is_struct (types_of (columns_under (columns l.schema) l.names))
