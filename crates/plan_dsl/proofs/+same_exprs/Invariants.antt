use Rattle.std.proofs.Common.{◌≡◌, map, drop}
use Rattle.plan_dsl.specs.Trees.{children_from}
use Rattle.plan_dsl.specs.Expressions.{tree_of}
use Rattle.plan_dsl.specs.SameExpressions.{same_trees}
use Rattle.plan_dsl.specs.Sources.{same_source_op}
use Rattle.plan_dsl.proofs.+same_exprs.Given as goal

abbrev pub invariant-expr::Exprs::is_same-loop-index : goal.invariant-expr::Exprs::is_same-loop-index
invariant-expr::Exprs::is_same-loop-index l =
    same_trees same_source_op (children_from (map tree_of l.left)) (children_from (map tree_of l.right)) ≡ same_trees same_source_op (children_from (map tree_of (drop l.index l.left))) (children_from (map tree_of (drop l.index l.right)))
