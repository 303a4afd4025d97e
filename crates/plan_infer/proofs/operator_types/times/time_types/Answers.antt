use Rattle.plan_types.specs.Types.{ty}
use Rattle.plan_types.specs.Errors.{broken}
use Rattle.plan_types.specs.declared.error.ErrorKind.TheVariants.{InvalidOperation}
use Rattle.plan_infer.proofs.TimeTypeLemmas.{other_operator}
use Rattle.plan_infer.proofs.operator_types.times.time_types.Goals as goal

pub returns-in_default : goal.returns-in_default
returns-in_default c =
    let other = c.in_default in
    record { ok = tt; err = broken InvalidOperation c.at_top.ensures (other_operator c.args.op (ty c.args.left.now) (ty c.args.right.now) other.not-Plus other.not-Minus other.not-Multiply) }
