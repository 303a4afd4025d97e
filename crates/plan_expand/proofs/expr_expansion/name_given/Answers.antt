use Rattle.plan_types.proofs.ResultLemmas.{passed_on}
use Rattle.plan_expand.proofs.ExpansionLemmas.{prefix_refused, suffix_refused}
use Rattle.plan_expand.proofs.expr_expansion.name_given.Goals as goal

pub returns-in_err-name-in-Prefix-clause-err : goal.returns-in_err-name-in-Prefix-clause-err
returns-in_err-name-in-Prefix-clause-err c =
    passed_on c.from_residual.result c.in_err-name-in-Prefix.field-0.0 _ c.from_residual.ensures.1 (prefix_refused c.args.function c.in-Prefix.text _ _ c.in-Prefix.is c.in_err-name-in-Prefix.ensures.err)

pub returns-in_err-name-in-Suffix-clause-err : goal.returns-in_err-name-in-Suffix-clause-err
returns-in_err-name-in-Suffix-clause-err c =
    passed_on c.from_residual-in_err-name-in-Suffix.result c.in_err-name-in-Suffix.field-0.0 _ c.from_residual-in_err-name-in-Suffix.ensures.1 (suffix_refused c.args.function c.in-Suffix.text _ _ c.in-Suffix.is c.in_err-name-in-Suffix.ensures.err)
