use Rattle.plan_arena.specs.Denotation.{DenotesTree}
use Rattle.plan_arena.specs.Items.{HoldsPlan}
use Rattle.explain.proofs.lowered.notes.Given as goal

abbrev pub invariant-loop-level : goal.invariant-loop-level
invariant-loop-level l = DenotesTree (HoldsPlan l.plan.expr_arena l.plan.lp_arena) l.node.0
