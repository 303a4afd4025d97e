use Rattle.std.proofs.Common.{Some, ap, ◌∙◌}
use Rattle.plan_types.specs.Types.{ty}
use Rattle.plan_types.specs.Errors.{broken}
use Rattle.plan_types.specs.declared.error.ErrorKind.TheVariants.{InvalidOperation}
use Rattle.plan_dsl.specs.OperatorTypes.{number_types}
use Rattle.plan_infer.proofs.OperandTypeLemmas.{truths_alone}
use Rattle.plan_infer.proofs.operator_types.arithmetic.number_result.Goals as goal

pub returns-in_default-op : goal.returns-in_default-op
returns-in_default-op c =
    record { ok = tt; err = broken InvalidOperation c.at_top.ensures (ap (λ dtype. number_types c.args.op (Some (ty dtype))) c.in-Boolean.is ∙ truths_alone c.args.op c.in_default-op.not-Plus) }
