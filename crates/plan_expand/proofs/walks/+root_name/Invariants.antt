use Rattle.std.proofs.Common.{◌≡◌, drop}
use Rattle.plan_dsl.specs.Expansion.{root_name}
use Rattle.plan_dsl.specs.Expressions.{plain_tree, tree_of}
use Rattle.plan_dsl.specs.Trees.{tree_depth}
use Rattle.plan_expand.specs.Walks.{first_root_of, operand_trees}
use Rattle.plan_expand.proofs.walks.+root_name.Given as goal

abbrev pub decreases-root_name : goal.decreases-root_name
decreases-root_name l = tree_depth (tree_of l.expr.now)

abbrev pub invariant-loop-place : goal.invariant-loop-place
invariant-loop-place l = root_name (plain_tree l.expr) ≡ first_root_of (drop l.place (operand_trees l.operands))
