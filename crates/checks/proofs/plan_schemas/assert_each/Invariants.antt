use Rattle.plan_arena.specs.PlanSchemas.{DenotesSomePlan, IsRightCache}
use Rattle.checks.proofs.plan_schemas.assert_each.Given as goal

abbrev pub invariant-loop : goal.invariant-loop
invariant-loop g l = DenotesSomePlan l.arena l.node.0 × IsRightCache l.arena l.cache
