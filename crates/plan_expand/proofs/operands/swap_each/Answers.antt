use Rattle.plan_expand.proofs.OperandLemmas.{set_shown}
use Rattle.plan_expand.proofs.operands.swap_each.Goals as goal

pub returns-clause-operands : goal.returns-clause-operands
returns-clause-operands c = set_shown c.args.all.items.items c.args.place c.swap.new.x c.args.other.now c.swap.ensures.x_after
