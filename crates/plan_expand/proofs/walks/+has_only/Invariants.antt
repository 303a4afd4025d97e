use Rattle.std.proofs.Common.{◌≡◌, drop}
use Rattle.std.specs.List.{flat_map, list_all}
use Rattle.plan_dsl.specs.Expansion.{markers_in}
use Rattle.plan_dsl.specs.Expressions.{tree_of}
use Rattle.plan_dsl.specs.Sources.{same_source}
use Rattle.plan_dsl.specs.Trees.{tree_depth}
use Rattle.plan_expand.specs.Walks.{operand_trees}
use Rattle.plan_expand.proofs.walks.+has_only.Given as goal

abbrev pub decreases-has_only : goal.decreases-has_only
decreases-has_only l = tree_depth (tree_of l.expr.now)

abbrev pub invariant-loop-place : goal.invariant-loop-place
invariant-loop-place l = list_all (same_source (tree_of l.marker)) (markers_in (tree_of l.expr)) ≡ list_all (same_source (tree_of l.marker)) (flat_map markers_in (drop l.place (operand_trees l.operands)))
