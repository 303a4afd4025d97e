use Rattle.std.proofs.Common.{sym, subst}
use Rattle.plan_types.specs.Types.{ty}
use Rattle.plan_types.specs.Errors.{IsRefusal, broken}
use Rattle.plan_types.specs.declared.error.ErrorKind.TheVariants.{InvalidOperation}
use Rattle.plan_types.proofs.ResultLemmas.{passed_on}
use Rattle.plan_dsl.specs.OperatorTypes.{time_product_types}
use Rattle.plan_infer.proofs.OperandTypeLemmas.{no_answer}
use Rattle.plan_infer.proofs.TimeTypeLemmas.{no_span_times}
use Rattle.plan_infer.proofs.operator_types.times.time_product_types.Goals as goal

pub returns-in_err-check_factor-in-Duration-clause-err : goal.returns-in_err-check_factor-in-Duration-clause-err
returns-in_err-check_factor-in-Duration-clause-err c =
    let error = c.in_err-check_factor-in-Duration.field-0.0 in
    let refused = (c.in_err-check_factor-in-Duration.ensures.err c.in-Duration.unit).0 in
    passed_on c.from_residual.result error _ c.from_residual.ensures.1 (subst (λ left. IsRefusal (time_product_types (ty left) (ty c.args.right.now)) error) (sym c.in-Duration.is) refused)

pub returns-in_err-check_factor-in-Duration-right : goal.returns-in_err-check_factor-in-Duration-right
returns-in_err-check_factor-in-Duration-right c =
    let handed = c.from_residual-in_err-check_factor-in-Duration-right in
    let error = c.in_err-check_factor-in-Duration-right.field-0.0 in
    let refused = (c.in_err-check_factor-in-Duration-right.ensures.err c.in-Duration-right.unit).1 in
    record {
      ok = no_answer handed.result error _ handed.ensures.1;
      err = passed_on handed.result error _ handed.ensures.1 (subst (λ right. IsRefusal (time_product_types (ty c.args.left.now) (ty right)) error) (sym c.in-Duration-right.is) refused);
    }

pub returns-in_default-right : goal.returns-in_default-right
returns-in_default-right c = record { ok = tt; err = broken InvalidOperation c.at_top.ensures (no_span_times c.args.left.now c.args.right.now c.in_default.not-Duration c.in_default-right.not-Duration) }
