use Rattle.plan_types.specs.Schemas.{columns}
use Rattle.plan_types.proofs.ResultLemmas.{passed_on}
use Rattle.plan_lower.proofs.DistinctLemmas.{by_all}
use Rattle.plan_lower.proofs.conversion.distincts.options_over.Goals as goal

pub returns-in-None-clause-plain : goal.returns-in-None-clause-plain
returns-in-None-clause-plain c = rw c.in-None.is (by_all (columns c.args.schema.now) c.args.options.keep_strategy)

pub returns-in_ok-names-in-Some-clause-plain : goal.returns-in_ok-names-in-Some-clause-plain
returns-in_ok-names-in-Some-clause-plain c = rw c.in-Some.is (c.in_ok-names-in-Some.ensures.ok c.args.options.keep_strategy)

pub returns-in_err-names-in-Some-clause-err : goal.returns-in_err-names-in-Some-clause-err
returns-in_err-names-in-Some-clause-err c =
    passed_on c.from_residual.result c.in_err-names-in-Some.field-0.0 _ c.from_residual.ensures.1 (rw c.in-Some.is (c.in_err-names-in-Some.ensures.err c.args.options.keep_strategy))
