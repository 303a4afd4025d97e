use Rattle.std.proofs.Common.{◌≤◌, length, map, arith}
use Rattle.plan_types.specs.Types.{field_of}
use Rattle.plan_dsl.proofs.FunctionSchemaLemmas.{fields_put}
use Rattle.plan_dsl.proofs.function_schema.push_fields.Goals as goal

pub returns-clause-ok : goal.returns-clause-ok
returns-clause-ok c =
    let items = c.as_slice-field-items.result.now in
    let past : length items ≤ c.loop-field.field-index = omega (arith, c.loop-field-test.false) in
    fields_put (map field_of c.args.fields.now.items) (map field_of c.loop-field.fields.items) c.args.own.now items c.loop-field.field-index c.as_slice-field-items.ensures.value past c.loop-field.invariant
