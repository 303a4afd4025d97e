use Rattle.std.proofs.Common.{◌≡◌, []}
use Rattle.plan_types.specs.Schemas.{columns}
use Rattle.plan_dsl.specs.Registry.{registry}
use Rattle.plan_arena.specs.Denotation.{DenotesTree}
use Rattle.plan_arena.specs.Items.{HoldsExpression}
use Rattle.plan_infer.specs.KeptTypes.{IsRight}
use Rattle.plan_coerce.specs.Optimizer.{roots_of}
use Rattle.checks.proofs.coercions.assert_both.Given as goal

abbrev pub invariant-loop : goal.invariant-loop
invariant-loop g l =
    DenotesTree (HoldsExpression l.arena) l.first.0 × DenotesTree (HoldsExpression l.arena) l.second.0 × (roots_of l.optimizer ≡ []) × IsRight (registry l.scope.udfs) (columns l.scope.schema) l.arena l.types
