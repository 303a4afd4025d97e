use Rattle.plan_arena.specs.Denotation.{DenotesTree}
use Rattle.plan_arena.specs.Items.{HoldsExpression}
use Rattle.checks.proofs.own_rules.casts_of.Given as goal

abbrev pub invariant-loop : goal.invariant-loop
invariant-loop l = DenotesTree (HoldsExpression l.arena) l.node.0
