use Rattle.std.proofs.Common.{◌≡◌, map, drop}
use Rattle.std.specs.List.{fold}
use Rattle.plan_dsl.specs.Trees.{children_from}
use Rattle.plan_dsl.specs.Expressions.{tree_of}
use Rattle.plan_dsl.specs.SameExpressions.{trees_writes}
use Rattle.plan_dsl.specs.Sources.{source_op_writes}
use Rattle.plan_dsl.proofs.+expr_hashes.Given as goal

abbrev pub invariant-expr::Exprs::feed-loop-expr : goal.invariant-expr::Exprs::feed-loop-expr
invariant-expr::Exprs::feed-loop-expr g l =
    fold g.H.Hasher.write l.state (trees_writes source_op_writes (children_from (map tree_of (drop l.expr-index l.expr-items)))) ≡ fold g.H.Hasher.write l.fn.state (trees_writes source_op_writes (children_from (map tree_of l.expr-items)))
