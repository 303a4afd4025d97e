use Rattle.std.proofs.Common.{sym, ◌∙◌, subst}
use Rattle.plan_types.specs.CommonTypes.{type_beside}
use Rattle.plan_types.specs.Types.{ty}
use Rattle.plan_types.specs.Errors.{IsRefusal}
use Rattle.plan_types.proofs.ResultLemmas.{passed_on}
use Rattle.plan_dsl.specs.OperatorTypes.{pair_types}
use Rattle.plan_infer.proofs.OperandTypeLemmas.{with_own, without_left, without_right}
use Rattle.plan_infer.proofs.operator_types.operand_types.Goals as goal

pub returns-then-is_known-2-clause-ok : goal.returns-then-is_known-2-clause-ok
returns-then-is_known-2-clause-ok c =
    with_own (ty c.args.left.now) (ty c.args.right.now) (pair_types c.args.op) (sym c.is_known.ensures ∙ c.if-is_known.true) (sym c.is_known-then-is_known.ensures ∙ c.if-is_known-2.true) ∙ c.in_ok-taken.ensures.ok

pub returns-in_err-taken-clause-err : goal.returns-in_err-taken-clause-err
returns-in_err-taken-clause-err c =
    let own = with_own (ty c.args.left.now) (ty c.args.right.now) (pair_types c.args.op) (sym c.is_known.ensures ∙ c.if-is_known.true) (sym c.is_known-then-is_known.ensures ∙ c.if-is_known-2.true) in
    passed_on c.from_residual.result c.in_err-taken.field-0.0 _ c.from_residual.ensures.1 (subst (λ taken. IsRefusal taken c.in_err-taken.field-0.0) (sym own) c.in_err-taken.ensures.err)

pub returns-in_err-own_left-clause-err : goal.returns-in_err-own_left-clause-err
returns-in_err-own_left-clause-err c =
    passed_on c.from_residual-in_err-own_left.result c.in_err-own_left.field-0.0 _ c.from_residual-in_err-own_left.ensures.1 (without_left (type_beside (ty c.args.left.now) (ty c.args.right.now)) _ (pair_types c.args.op) _ c.in_err-own_left.ensures.err)

pub returns-in_err-own_right-clause-err : goal.returns-in_err-own_right-clause-err
returns-in_err-own_right-clause-err c =
    passed_on c.from_residual-in_err-own_right.result c.in_err-own_right.field-0.0 _ c.from_residual-in_err-own_right.ensures.1 (without_right (type_beside (ty c.args.left.now) (ty c.args.right.now)) _ _ (pair_types c.args.op) _ c.in_ok-own_left.ensures.ok c.in_err-own_right.ensures.err)
