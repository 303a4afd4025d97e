use Rattle.std.proofs.Common.{true≢false, sym}
use Rattle.plan_types.specs.Schemas.{columns}
use Rattle.plan_dsl.proofs.FunctionTypeLemmas.{fields_more, no_such_name}
use Rattle.plan_dsl.proofs.function_schema.fields_under.Goals as goal
use Rattle.plan_dsl.proofs.function_schema.fields_under.Goals.{in-Some+in_ok-push_column, in_default}

pub loop-name-preserved : goal.loop-name-preserved
loop-name-preserved c =
    let names = c.args.names.now in
    let name = c.name-item.result in
    elim c.match-get.branch [
      | in-Some+in_ok-push_column w ↦ rw w.fields-is (fields_more (columns c.args.schema.now) names c.loop-name.name-index name c.loop-name-test.true c.name-item.is _ _ _ w.in-Some.ensures w.in_ok-push_column.ensures.ok c.loop-name.invariant)
      | in_default w ↦ absurd (true≢false (sym (no_such_name (columns c.args.schema.now) names c.loop-name.name-index name c.loop-name-test.true c.name-item.is w.in_default.ensures c.loop-name.invariant.1)))
    ]
