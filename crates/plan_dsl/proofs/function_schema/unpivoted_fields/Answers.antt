use Rattle.plan_dsl.proofs.FunctionTypeLemmas.{both_behind}
use Rattle.plan_dsl.proofs.function_schema.unpivoted_fields.Goals as goal

pub returns-clause-ok : goal.returns-clause-ok
returns-clause-ok c =
    both_behind _ _ _ _ _ _ _ c.args.args.now.variable_name c.args.args.now.value_name c.in_ok-variable.ensures.ok c.in_ok-value.ensures.ok (rw (← c.as_slice.ensures.value) c.in_ok-fields.ensures.ok) c.in_ok-push_column.ensures.ok c.in_ok-push_column-2.ensures.ok
