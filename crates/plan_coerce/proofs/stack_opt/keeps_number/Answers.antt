use Rattle.plan_coerce.proofs.TurnLemmas.{kept_number, not_kept_number}
use Rattle.plan_coerce.proofs.stack_opt.keeps_number.Goals as goal

pub returns-in-None : goal.returns-in-None
returns-in-None c = not_kept_number c.args.types.now c.args.node.0 c.in-None.ensures

pub returns-in-Some : goal.returns-in-Some
returns-in-Some c = kept_number c.args.types.now c.args.node.0 c.in-Some.own.now c.untyped_number.result c.is_some.result c.in-Some.ensures c.is_some.ensures c.untyped_number.ensures
