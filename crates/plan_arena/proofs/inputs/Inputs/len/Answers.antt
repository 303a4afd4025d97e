use Rattle.plan_arena.proofs.InputLemmas.{length-first_of}
use Rattle.plan_arena.proofs.inputs.Inputs.len.Goals as goal

pub returns : goal.returns
returns c = length-first_of _ _ _ _ _ _ _ c.self.view_is c.self.invariant
