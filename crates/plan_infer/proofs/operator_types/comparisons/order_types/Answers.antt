use Rattle.std.proofs.Common.{true, false, sym, ◌∙◌}
use Rattle.plan_types.specs.Types.{ty}
use Rattle.plan_types.specs.Errors.{broken}
use Rattle.plan_types.specs.declared.error.ErrorKind.TheVariants.{InvalidOperation}
use Rattle.plan_types.proofs.ResultLemmas.{passed_on}
use Rattle.plan_infer.proofs.OperandTypeLemmas.{ordered, unordered}
use Rattle.plan_infer.proofs.operator_types.comparisons.order_types.Goals as goal

pub returns-in_err-taken-clause-err : goal.returns-in_err-taken-clause-err
returns-in_err-taken-clause-err c =
    passed_on c.from_residual.result c.in_err-taken.field-0.0 _ c.from_residual.ensures.1 (unordered (ty c.args.left.now) (ty c.args.right.now) _ c.in_err-taken.ensures.err)

pub returns-then-not-is_bare-clause-err : goal.returns-then-not-is_bare-clause-err
returns-then-not-is_bare-clause-err c =
    broken InvalidOperation c.at_top.ensures (ordered (ty c.args.left.now) (ty c.args.right.now) _ _ _ false c.in_ok-taken.ensures.ok (sym c.is_bare.ensures ∙ c.if-not-is_bare.true))

pub returns-clause-ok : goal.returns-clause-ok
returns-clause-ok c = ordered (ty c.args.left.now) (ty c.args.right.now) _ _ _ true c.in_ok-taken.ensures.ok (sym c.is_bare.ensures ∙ c.if-not-is_bare.false)
