use Rattle.plan_types.specs.Types.{ty}
use Rattle.plan_types.specs.Supertypes.{supertype}
use Rattle.plan_types.proofs.ResultLemmas.{passed_on}
use Rattle.plan_infer.proofs.OperandTypeLemmas.{no_common_number}
use Rattle.plan_infer.proofs.operator_types.arithmetic.number_types.Goals as goal

pub returns-in_err-common-clause-err : goal.returns-in_err-common-clause-err
returns-in_err-common-clause-err c =
    passed_on c.from_residual.result c.in_err-common.field-0.0 _ c.from_residual.ensures.1 (no_common_number c.args.op (supertype (ty c.args.left.now) (ty c.args.right.now)) _ c.in_err-common.ensures.err)
