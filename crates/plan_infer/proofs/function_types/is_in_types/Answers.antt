use Rattle.std.proofs.Common.{◌≡◌, sym, ap, ◌∙◌, subst}
use Rattle.plan_types.proofs.ResultLemmas.{passed_on}
use Rattle.plan_types.specs.Errors.{IsRefusal}
use Rattle.plan_types.specs.Types.{ListType, ty}
use Rattle.plan_dsl.specs.FunctionTypes.{is_in_types, member_type}
use Rattle.plan_infer.proofs.OperandTypeLemmas.{no_answer}
use Rattle.plan_infer.proofs.FunctionTypeLemmas.{looked_in, not_in_column, not_in_lists}
use Rattle.plan_infer.proofs.function_types.is_in_types.Goals as goal

pub returns-in_err-dtype-in-List-clause-err : goal.returns-in_err-dtype-in-List-clause-err
returns-in_err-dtype-in-List-clause-err c =
    let error = c.in_err-dtype-in-List.field-0.0 in
    let lists : ty c.args.among.now ≡ ListType (ty c.deref.result.now) = ap ty c.in-List.is ∙ ap (λ d. ListType (ty d)) (sym c.deref.ensures) in
    passed_on c.from_residual.result error _ c.from_residual.ensures.1 (subst (λ among. IsRefusal (is_in_types (ty c.args.value.now) among) error) (sym lists) (not_in_lists (member_type (ty c.args.value.now) (ty c.deref.result.now)) error c.in_err-dtype-in-List.ensures.err))

pub returns-in_err-dtype-in_default : goal.returns-in_err-dtype-in_default
returns-in_err-dtype-in_default c =
    let handed = c.from_residual-in_err-dtype-in_default in
    let error = c.in_err-dtype-in_default.field-0.0 in
    let whole = looked_in (ty c.args.value.now) c.args.among.now c.in_default.not-List c.in_default.not-Null in
    record {
      ok = no_answer handed.result error _ handed.ensures.1;
      err = passed_on handed.result error _ handed.ensures.1 (subst (λ found. IsRefusal found error) (sym whole) (not_in_column (member_type (ty c.args.value.now) (ty c.args.among.now)) error c.in_err-dtype-in_default.ensures.err));
    }
