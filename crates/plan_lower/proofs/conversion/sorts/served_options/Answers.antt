use Rattle.plan_types.proofs.ResultLemmas.{passed_on}
use Rattle.plan_lower.proofs.SortLemmas.{both_found, first_unserved, second_unserved}
use Rattle.plan_lower.proofs.conversion.sorts.served_options.Goals as goal

pub returns-clause-ok : goal.returns-clause-ok
returns-clause-ok c = both_found c.args.counts.now c.args.options _ _ c.in_ok-descending.ensures.ok c.in_ok-nulls_last.ensures.ok

pub returns-in_err-descending-clause-err : goal.returns-in_err-descending-clause-err
returns-in_err-descending-clause-err c =
    passed_on c.from_residual.result c.in_err-descending.field-0.0 _ c.from_residual.ensures.1 (first_unserved c.args.counts.now c.args.options _ c.in_err-descending.ensures.err)

pub returns-in_err-nulls_last-clause-err : goal.returns-in_err-nulls_last-clause-err
returns-in_err-nulls_last-clause-err c =
    passed_on c.from_residual-in_err-nulls_last.result c.in_err-nulls_last.field-0.0 _ c.from_residual-in_err-nulls_last.ensures.1 (second_unserved c.args.counts.now c.args.options _ _ c.in_ok-descending.ensures.ok c.in_err-nulls_last.ensures.err)
