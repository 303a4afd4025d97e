use Rattle.plan_arena.proofs.InputLemmas.{same_list}
use Rattle.plan_arena.proofs.aexpr.set_listed.Goals as goal

pub returns-clause-same : goal.returns-clause-same
returns-clause-same c = λ same. same_list c.args.rest.now c.args.inputs.now c.copy_from_slice.new.self c.args.first.now.0 c.copy_from_slice.ensures.after same
