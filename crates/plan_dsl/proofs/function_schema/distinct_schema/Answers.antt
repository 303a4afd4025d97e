use Rattle.std.proofs.Common.{◌++◌, map, ap, ◌∙◌, sym}
use Rattle.std.specs.Vec.Iter.{into_iter_items}
use Rattle.plan_types.specs.Schemas.{columns}
use Rattle.plan_types.specs.Types.{field_of}
use Rattle.plan_types.proofs.ResultLemmas.{passed_on}
use Rattle.plan_dsl.proofs.FunctionSchemaLemmas.{refused_twice}
use Rattle.plan_dsl.proofs.function_schema.distinct_schema.Goals as goal

pub returns-in_err-insert_at_index-clause-err : goal.returns-in_err-insert_at_index-clause-err
returns-in_err-insert_at_index-clause-err c =
    let own = columns c.loop-field.schema in
    let so_far = ap (λ l. own ++ map field_of l) (sym c.in-Some.ensures.steps.0) ∙ c.loop-field.invariant.so_far in
    passed_on c.from_residual-in_err-insert_at_index.result c.in_err-insert_at_index.field-0.0 _ c.from_residual-in_err-insert_at_index.ensures.1 (refused_twice own (map field_of (into_iter_items c.next.new.self)) _ (field_of c.in-Some.field) _ so_far c.in_err-insert_at_index.ensures.err)
