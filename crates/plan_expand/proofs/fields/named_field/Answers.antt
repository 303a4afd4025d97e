use Rattle.std.proofs.Common.{SFits, rules, w64}
use Rattle.std.proofs.lemmas.Int.{to_z-of_z}
use Rattle.plan_types.proofs.ResultLemmas.{passed_on}
use Rattle.plan_types.specs.Errors.{broken}
use Rattle.plan_types.specs.Schemas.{columns}
use Rattle.plan_types.specs.declared.error.ErrorKind.TheVariants.{InvalidOperation}
use Rattle.plan_dsl.specs.Expressions.{trees_of}
use Rattle.plan_expand.proofs.FieldLemmas.{named_field, no_only_column, unnamed_field}
use Rattle.plan_expand.proofs.fields.named_field.Goals as goal

pub returns-in_default-clause-err : goal.returns-in_default-clause-err
returns-in_default-clause-err c = broken InvalidOperation c.at_top.ensures (no_only_column (columns c.args.schema.now) c.args.place (trees_of c.args.input.now) c.in_default.ensures)

pub returns-in_err-field-clause-err : goal.returns-in_err-field-clause-err
returns-in_err-field-clause-err c =
    let fits : SFits w64 c.args.place = search rules in
    passed_on c.from_residual.result c.in_err-field.field-0.0 _ c.from_residual.ensures.1 (unnamed_field (columns c.args.schema.now) c.args.place (trees_of c.args.input.now) c.in-Some.column.now _ c.in-Some.ensures (rw (to_z-of_z w64 c.args.place fits) at c.in_err-field.ensures.err))

pub returns-clause-ok : goal.returns-clause-ok
returns-clause-ok c =
    let fits : SFits w64 c.args.place = search rules in
    named_field (columns c.args.schema.now) c.args.place (trees_of c.args.input.now) c.in-Some.column.now c.in_ok-field.field _ c.in-Some.ensures (rw (to_z-of_z w64 c.args.place fits) at c.in_ok-field.ensures.ok) c.in_ok-named.ensures.ok
