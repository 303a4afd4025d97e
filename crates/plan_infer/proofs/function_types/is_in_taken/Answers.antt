use Rattle.plan_types.proofs.ResultLemmas.{passed_on}
use Rattle.plan_types.specs.CommonTypes.{type_alone}
use Rattle.plan_types.specs.Types.{ty}
use Rattle.plan_infer.proofs.FunctionTypeLemmas.{no_others, no_value}
use Rattle.plan_infer.proofs.function_types.is_in_taken.Goals as goal

pub returns-in_err-own-clause-err : goal.returns-in_err-own-clause-err
returns-in_err-own-clause-err c =
    passed_on c.from_residual.result c.in_err-own.field-0.0 _ c.from_residual.ensures.1 (no_value (type_alone (ty c.args.value.now)) (type_alone (ty c.args.among.now)) _ c.in_err-own.ensures.err)

pub returns-in_err-others-clause-err : goal.returns-in_err-others-clause-err
returns-in_err-others-clause-err c =
    passed_on c.from_residual-in_err-others.result c.in_err-others.field-0.0 _ c.from_residual-in_err-others.ensures.1 (no_others (type_alone (ty c.args.value.now)) (type_alone (ty c.args.among.now)) _ _ c.in_ok-own.ensures.ok c.in_err-others.ensures.err)
