use Rattle.std.proofs.Common.{◌≡◌, drop}
use Rattle.plan_dsl.specs.Expressions.{tree_of}
use Rattle.plan_dsl.specs.Trees.{tree_depth}
use Rattle.plan_expand.specs.Walks.{first_marker, first_marker_of, operand_trees}
use Rattle.plan_expand.proofs.walks.+first_marker.Given as goal

abbrev pub decreases-first_marker : goal.decreases-first_marker
decreases-first_marker l = tree_depth (tree_of l.expr.now)

abbrev pub invariant-loop-place : goal.invariant-loop-place
invariant-loop-place l = first_marker (tree_of l.expr) ≡ first_marker_of (drop l.place (operand_trees l.operands))
