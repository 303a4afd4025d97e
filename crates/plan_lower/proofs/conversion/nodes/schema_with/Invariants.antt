use Rattle.std.proofs.Common.{◌≡◌, drop}
use Rattle.plan_types.specs.Schemas.{columns}
use Rattle.plan_dsl.specs.PlanRules.{with_columns}
use Rattle.plan_lower.proofs.conversion.nodes.schema_with.Given as goal

abbrev pub invariant-loop-index : goal.invariant-loop-index
invariant-loop-index l = with_columns (columns l.whole) (drop l.index (columns l.others)) ≡ with_columns (columns l.schema) (columns l.others)
