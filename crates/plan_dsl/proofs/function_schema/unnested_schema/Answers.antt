use Rattle.std.proofs.Common.{refl, sym, ◌∙◌}
use Rattle.plan_types.specs.Schemas.{columns}
use Rattle.plan_dsl.specs.Plans.{FunctionWork}
use Rattle.plan_dsl.specs.TableFunctions.{UnnestFunction}
use Rattle.plan_dsl.specs.TableRules.{unnested_columns}
use Rattle.plan_dsl.proofs.FunctionSchemaLemmas.{distinct_made, unnested_kinds}
use Rattle.plan_dsl.proofs.function_schema.unnested_schema.Goals as goal

pub returns : goal.returns
returns c =
    let whole = columns c.args.schema.now in
    let names = c.args.names.now in
    let kinds = unnested_kinds whole names (sym c.has_each.ensures ∙ c.if-not-has_each.false) (sym c.are_structs.ensures ∙ c.if-not-are_structs.false) in
    distinct_made (FunctionWork (UnnestFunction names)) whole (unnested_columns names whole) _ c.distinct_schema.result c.in_ok-fields.ensures.ok kinds refl c.distinct_schema.ensures.ok c.distinct_schema.ensures.err
