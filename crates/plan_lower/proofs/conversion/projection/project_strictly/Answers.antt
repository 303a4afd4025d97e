use Rattle.plan_types.proofs.ResultLemmas.{passed_on}
use Rattle.plan_dsl.specs.Expressions.{plain_trees}
use Rattle.plan_lower.specs.Projection.{not_expanded, not_projected}
use Rattle.plan_lower.proofs.conversion.projection.project_strictly.Goals as goal

pub returns-in_err-exprs-clause-err : goal.returns-in_err-exprs-clause-err
returns-in_err-exprs-clause-err c =
    passed_on c.from_residual.result c.in_err-exprs.field-0.0 _ c.from_residual.ensures.1 (not_expanded c.in_err-exprs.ensures.err)

pub returns-in_err-projection-clause-err : goal.returns-in_err-projection-clause-err
returns-in_err-projection-clause-err c =
    passed_on c.from_residual-in_err-projection.result c.in_err-projection.field-0.0 _ c.from_residual-in_err-projection.ensures.1 (not_projected (plain_trees c.in_ok-exprs.exprs) c.in_ok-exprs.ensures.ok.trees c.in_err-projection.ensures.err)
