use Rattle.std.proofs.Common.{◌≡◌, map, drop}
use Rattle.std.specs.List.{list_all}
use Rattle.plan_dsl.specs.Expressions.{plain_tree, tree_of}
use Rattle.plan_dsl.specs.Sources.{unwritten}
use Rattle.plan_dsl.specs.Trees.{tree_depth}
use Rattle.plan_expand.specs.Walks.{operand_trees}
use Rattle.plan_lower.specs.Horizontals.{writes_no_chain}
use Rattle.plan_lower.proofs.conversion.horizontals.+writes_no_chain.Given as goal

abbrev pub decreases-writes_no_chain : goal.decreases-writes_no_chain
decreases-writes_no_chain l = tree_depth (tree_of l.expr.now)

abbrev pub invariant-loop-place : goal.invariant-loop-place
invariant-loop-place l = writes_no_chain (plain_tree l.expr) ≡ list_all writes_no_chain (map unwritten (drop l.place (operand_trees l.operands)))
