-- Outputs of a node whose casts are counted.
use Rattle.std.specs.Prelude.{ℕ, List}
use Rattle.plan_dsl.specs.Ops.{Expression}
use Rattle.plan_dsl.specs.Plans.{Named}
use Rattle.plan_arena.specs.Items.{DenoteNamed}
use Rattle.plan_arena.specs.declared.aexpr.AExpr.{AExpr}

-- the nodes denote some expressions, under their names
pub record DenoteOutputs (expressions : List AExpr) (nodes : List (Named ℕ)) : Type 0 where
  pub outputs : List (Named Expression)
  pub denote : DenoteNamed expressions nodes outputs
