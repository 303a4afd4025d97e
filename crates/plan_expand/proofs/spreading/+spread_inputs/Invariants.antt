use Rattle.plan_types.specs.Schemas.{columns}
use Rattle.plan_dsl.specs.Expansion.{in_place}
use Rattle.plan_dsl.specs.Expressions.{tree_of}
use Rattle.plan_dsl.specs.Trees.{tree_depth}
use Rattle.plan_expand.proofs.ChangeLemmas.{IsChanged}
use Rattle.plan_expand.proofs.spreading.+spread_inputs.Given as goal

abbrev pub decreases-spread_inputs : goal.decreases-spread_inputs
decreases-spread_inputs l = tree_depth (tree_of l.expr.now)

abbrev pub invariant-loop-place : goal.invariant-loop-place
invariant-loop-place l = IsChanged (in_place l.keys.keys (columns l.schema)) (tree_of l.fn.expr) (tree_of l.expr) l.place
