use Rattle.std.proofs.Common.{◌∙◌}
use Rattle.plan_types.proofs.ResultLemmas.{passed_on}
use Rattle.plan_types.specs.Schemas.{columns}
use Rattle.plan_dsl.specs.Expansion.{aliased, fields_named}
use Rattle.plan_dsl.specs.Expressions.{tree_of}
use Rattle.plan_expand.proofs.ChangeLemmas.{then_found, then_refused}
use Rattle.plan_expand.proofs.ExpansionLemmas.{refused_as}
use Rattle.plan_expand.proofs.expr_expansion.as_expression.Goals as goal

pub returns-in_ok-own-in-Ok-clause-ok : goal.returns-in_ok-own-in-Ok-clause-ok
returns-in_ok-own-in-Ok-clause-ok c =
    then_found (fields_named (columns c.args.schema.now) (tree_of c.args.expr)) aliased _ c.in-Ok.ensures.ok ∙ c.in_ok-own-in-Ok.ensures.ok

pub returns-in_err-own-in-Ok-clause-err : goal.returns-in_err-own-in-Ok-clause-err
returns-in_err-own-in-Ok-clause-err c =
    passed_on c.from_residual.result c.in_err-own-in-Ok.field-0.0 _ c.from_residual.ensures.1 (refused_as _ _ _ (then_found (fields_named (columns c.args.schema.now) (tree_of c.args.expr)) aliased _ c.in-Ok.ensures.ok) c.in_err-own-in-Ok.ensures.err)

pub returns-in-Err-clause-err : goal.returns-in-Err-clause-err
returns-in-Err-clause-err c = then_refused (fields_named (columns c.args.schema.now) (tree_of c.args.expr)) aliased c.in-Err.error c.in-Err.ensures.err
