use Rattle.plan_types.specs.Types.{ty}
use Rattle.plan_types.proofs.ResultLemmas.{passed_on}
use Rattle.plan_types.proofs.CommonLemmas.{left_refused, right_refused, mismatched}
use Rattle.plan_types.proofs.common_type.try_get_common_type.Goals as goal

pub returns-in_err-own_left-clause-err : goal.returns-in_err-own_left-clause-err
returns-in_err-own_left-clause-err c =
    passed_on c.from_residual.result c.in_err-own_left.field-0.0 _ c.from_residual.ensures.1 (left_refused (ty c.args.left.now) (ty c.args.right.now) _ c.in_err-own_left.ensures.err)

pub returns-in_err-own_right-clause-err : goal.returns-in_err-own_right-clause-err
returns-in_err-own_right-clause-err c =
    passed_on c.from_residual-in_err-own_right.result c.in_err-own_right.field-0.0 _ c.from_residual-in_err-own_right.ensures.1 (right_refused (ty c.args.left.now) (ty c.args.right.now) _ _ c.in_ok-own_left.ensures.ok c.in_err-own_right.ensures.err)

pub returns-in_err-found-clause-err : goal.returns-in_err-found-clause-err
returns-in_err-found-clause-err c =
    passed_on c.from_residual-in_err-found.result c.in_err-found.field-0.0 _ c.from_residual-in_err-found.ensures.1 (mismatched (ty c.args.left.now) (ty c.args.right.now) _ _ _ c.in_ok-own_left.ensures.ok c.in_ok-own_right.ensures.ok c.in_err-found.ensures.err)
