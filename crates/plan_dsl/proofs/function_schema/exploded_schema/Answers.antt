use Rattle.std.proofs.Common.{refl, sym, ◌∙◌}
use Rattle.plan_types.specs.Schemas.{columns}
use Rattle.plan_dsl.specs.Plans.{FunctionWork}
use Rattle.plan_dsl.specs.TableFunctions.{ExplodeFunction}
use Rattle.plan_dsl.specs.TableRules.{exploded_columns}
use Rattle.plan_dsl.proofs.FunctionSchemaLemmas.{distinct_made, exploded_kinds}
use Rattle.plan_dsl.proofs.function_schema.exploded_schema.Goals as goal

pub returns : goal.returns
returns c =
    let whole = columns c.args.schema.now in
    let names = c.args.names.now in
    let kinds = exploded_kinds c.args.schema.now names (sym c.is_empty.ensures ∙ c.if-is_empty.false) (sym c.has_each.ensures ∙ c.if-not-has_each.false) (sym c.are_lists.ensures ∙ c.if-not-are_lists.false) in
    distinct_made (FunctionWork (ExplodeFunction names)) whole (exploded_columns names whole) _ c.distinct_schema.result c.in_ok-fields.ensures.ok kinds refl c.distinct_schema.ensures.ok c.distinct_schema.ensures.err
