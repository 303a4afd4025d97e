use Rattle.std.proofs.Common.{ap, ◌∙◌}
use Rattle.plan_types.specs.Types.{ty}
use Rattle.plan_types.specs.Errors.{broken}
use Rattle.plan_types.specs.declared.error.ErrorKind.TheVariants.{InvalidOperation}
use Rattle.plan_dsl.specs.OperatorTypes.{time_difference_types}
use Rattle.plan_infer.proofs.TimeTypeLemmas.{from_date, from_moment, from_other, from_span, from_time}
use Rattle.plan_infer.proofs.operator_types.times.time_difference_types.Goals as goal

pub returns-in_default-right : goal.returns-in_default-right
returns-in_default-right c = record { ok = tt; err = broken InvalidOperation c.at_top.ensures (ap (λ left. time_difference_types (ty left) (ty c.args.right.now)) c.in-Date.is ∙ from_date c.args.right.now c.in_default-right.not-Date c.in_default-right.not-Datetime) }

pub returns-in_default-right-2 : goal.returns-in_default-right-2
returns-in_default-right-2 c = record { ok = tt; err = broken InvalidOperation c.at_top-in_default-right-2.ensures (ap (λ left. time_difference_types (ty left) (ty c.args.right.now)) c.in-Time.is ∙ from_time c.args.right.now c.in_default-right-2.not-Time) }

pub returns-in_default-right-3 : goal.returns-in_default-right-3
returns-in_default-right-3 c = record { ok = tt; err = broken InvalidOperation c.at_top-in_default-right-3.ensures (ap (λ left. time_difference_types (ty left) (ty c.args.right.now)) c.in-Datetime.is ∙ from_moment c.in-Datetime.unit c.args.right.now c.in_default-right-3.not-Date c.in_default-right-3.not-Datetime c.in_default-right-3.not-Duration) }

pub returns-in_default-right-4 : goal.returns-in_default-right-4
returns-in_default-right-4 c = record { ok = tt; err = broken InvalidOperation c.at_top-in_default-right-4.ensures (ap (λ left. time_difference_types (ty left) (ty c.args.right.now)) c.in-Duration.is ∙ from_span c.in-Duration.unit c.args.right.now c.in_default-right-4.not-Duration) }

pub returns-in_default : goal.returns-in_default
returns-in_default c = record { ok = tt; err = broken InvalidOperation c.at_top-in_default.ensures (from_other c.args.left.now (ty c.args.right.now) c.in_default.not-Date c.in_default.not-Time c.in_default.not-Datetime c.in_default.not-Duration) }
