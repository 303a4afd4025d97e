use Rattle.plan_types.proofs.ResultLemmas.{passed_on}
use Rattle.plan_types.specs.Schemas.{columns}
use Rattle.plan_dsl.specs.Expressions.{tree_of}
use Rattle.plan_expand.proofs.ExpansionLemmas.{only_refused}
use Rattle.plan_expand.proofs.expr_expansion.alone.Goals as goal

pub returns-in_err-own-clause-err : goal.returns-in_err-own-clause-err
returns-in_err-own-clause-err c =
    passed_on c.from_residual.result c.in_err-own.field-0.0 _ c.from_residual.ensures.1 (only_refused (columns c.args.schema.now) (tree_of c.args.expr) _ c.in_err-own.ensures.err)
