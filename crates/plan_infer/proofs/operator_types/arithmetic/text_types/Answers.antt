use Rattle.std.proofs.Common.{sym, ◌∙◌}
use Rattle.plan_types.specs.Types.{ty}
use Rattle.plan_types.specs.Errors.{broken}
use Rattle.plan_types.specs.declared.error.ErrorKind.TheVariants.{InvalidOperation}
use Rattle.plan_infer.proofs.OperandTypeLemmas.{text_alone, unjoined}
use Rattle.plan_infer.proofs.operator_types.arithmetic.text_types.Goals.{in_default-via-in-Plus+else-are_joined, in_default-via-in_default}
use Rattle.plan_infer.proofs.operator_types.arithmetic.text_types.Goals as goal

pub returns-in_default-clause-err : goal.returns-in_default-clause-err
returns-in_default-clause-err c =
    let left = ty c.args.left.now in
    let right = ty c.args.right.now in
    broken InvalidOperation c.at_top.ensures (elim c.in_default.branch [
      | in_default-via-in-Plus+else-are_joined w ↦ unjoined c.args.op left right (sym w.are_joined.ensures ∙ w.if-are_joined.false)
      | in_default-via-in_default w ↦ text_alone c.args.op left right w.in_default.not-Plus
    ])
