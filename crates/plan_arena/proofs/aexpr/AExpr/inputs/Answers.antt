use Rattle.plan_arena.proofs.InputLemmas.{turned_back}
use Rattle.plan_arena.proofs.aexpr.AExpr.inputs.Goals as goal

pub returns-clause-ok : goal.returns-clause-ok
returns-clause-ok c =
    turned_back c.push_inputs.new.nodes.items c.as_mut_slice.result.now c.reverse.new.self c.new-nodes.result.items _ c.as_mut_slice.ensures.value c.reverse.ensures.after c.new-nodes.ensures.items c.in_ok-push_inputs.ensures.ok
