use Rattle.std.proofs.Common.{ap, ◌∙◌}
use Rattle.plan_types.specs.Types.{ty}
use Rattle.plan_types.specs.Errors.{broken}
use Rattle.plan_types.specs.declared.error.ErrorKind.TheVariants.{InvalidOperation}
use Rattle.plan_dsl.specs.OperatorTypes.{time_sum_types}
use Rattle.plan_infer.proofs.TimeTypeLemmas.{added_to_moment, added_to_other, added_to_span}
use Rattle.plan_infer.proofs.operator_types.times.time_sum_types.Goals as goal

pub returns-in_default-right : goal.returns-in_default-right
returns-in_default-right c = record { ok = tt; err = broken InvalidOperation c.at_top.ensures (ap (λ left. time_sum_types (ty left) (ty c.args.right.now)) c.in-Duration.is ∙ added_to_span c.in-Duration.unit c.args.right.now c.in_default-right.not-Datetime c.in_default-right.not-Duration) }

pub returns-in_default-right-2 : goal.returns-in_default-right-2
returns-in_default-right-2 c = record { ok = tt; err = broken InvalidOperation c.at_top-in_default-right-2.ensures (ap (λ left. time_sum_types (ty left) (ty c.args.right.now)) c.in-Datetime.is ∙ added_to_moment c.in-Datetime.unit c.args.right.now c.in_default-right-2.not-Duration) }

pub returns-in_default : goal.returns-in_default
returns-in_default c = record { ok = tt; err = broken InvalidOperation c.at_top-in_default.ensures (added_to_other c.args.left.now (ty c.args.right.now) c.in_default.not-Datetime c.in_default.not-Duration) }
