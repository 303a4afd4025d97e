use Rattle.std.proofs.Common.{refl, arith}
use Rattle.plan_types.specs.Schemas.{columns}
use Rattle.plan_dsl.specs.Plans.{FunctionWork}
use Rattle.plan_dsl.specs.TableFunctions.{RenameFunction}
use Rattle.plan_dsl.specs.TableRules.{renamed_columns}
use Rattle.plan_dsl.proofs.FunctionSchemaLemmas.{distinct_made}
use Rattle.plan_dsl.proofs.FunctionTypeLemmas.{renamed_kinds}
use Rattle.plan_dsl.proofs.function_schema.renamed_schema.Goals as goal

pub returns : goal.returns
returns c = λ swapping.
    let whole = columns c.args.schema.now in
    let existing = c.args.existing.now in
    let new = c.args.new.now in
    let kinds = renamed_kinds whole existing new (omega (arith, c.if-existing-new.false)) in
    distinct_made (FunctionWork (RenameFunction existing new swapping)) whole (renamed_columns existing new whole) _ c.distinct_schema.result c.in_ok-fields.ensures.ok kinds refl c.distinct_schema.ensures.ok c.distinct_schema.ensures.err
