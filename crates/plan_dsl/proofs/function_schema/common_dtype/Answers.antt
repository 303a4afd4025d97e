use Rattle.std.proofs.Common.{sym, ◌∙◌}
use Rattle.plan_types.specs.Schemas.{columns}
use Rattle.plan_types.proofs.SchemaLemmas.{schema_has_distinct_names}
use Rattle.plan_dsl.proofs.FunctionTypeLemmas.{value_of_none}
use Rattle.plan_dsl.proofs.function_schema.common_dtype.Goals as goal

pub returns-in_ok-found-clause-ok : goal.returns-in_ok-found-clause-ok
returns-in_ok-found-clause-ok c =
    value_of_none (columns c.args.schema.now) c.args.on.now c.args.index.now _ (schema_has_distinct_names c.args.schema.now) (sym c.is_empty.ensures ∙ c.if-is_empty.true) c.in_ok-found.ensures.ok
