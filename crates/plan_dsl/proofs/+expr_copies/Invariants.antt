use Rattle.std.proofs.Common.{◌≡◌, ◌+◌, ◌*◌, map, max, take}
use Rattle.std.specs.Option.{option_map}
use Rattle.plan_dsl.specs.Copies.{put}
use Rattle.plan_dsl.specs.Expressions.{tree_of}
use Rattle.plan_dsl.specs.declared.aggregate.AggExpr.TheViews.{size-Expr, size-Exprs, size-Selector}
use Rattle.plan_dsl.proofs.+expr_copies.Given as goal

abbrev pub decreases-copies::copied : goal.decreases-copies::copied
decreases-copies::copied l = 6 * size-Expr l.expr.now + 2

abbrev pub decreases-copies::boxed_copy : goal.decreases-copies::boxed_copy
decreases-copies::boxed_copy l = 6 * size-Expr l.expr.now + 3

abbrev pub decreases-copies::node_copied : goal.decreases-copies::node_copied
decreases-copies::node_copied l = 6 * size-Expr l.expr.now + 1

abbrev pub decreases-copies::one_copied : goal.decreases-copies::one_copied
decreases-copies::one_copied l = 6 * size-Expr l.expr.now

abbrev pub decreases-copies::several_copied : goal.decreases-copies::several_copied
decreases-copies::several_copied l = 6 * size-Expr l.expr.now

abbrev pub decreases-copies::list_copied : goal.decreases-copies::list_copied
decreases-copies::list_copied l = 6 * size-Expr l.expr.now

abbrev pub decreases-copies::alone_copied : goal.decreases-copies::alone_copied
decreases-copies::alone_copied l = 6 * size-Expr l.expr.now

abbrev pub decreases-copies::exprs_copied : goal.decreases-copies::exprs_copied
decreases-copies::exprs_copied l = 6 * size-Exprs l.exprs.now

abbrev pub decreases-copies::order_copied : goal.decreases-copies::order_copied
decreases-copies::order_copied l = 6 * goal.size-copies::order_copied l + 4

abbrev pub decreases-selector::Selector::try_clone : goal.decreases-selector::Selector::try_clone
decreases-selector::Selector::try_clone l = 6 * size-Selector l.self.now

abbrev pub decreases-selector::Selector::boxed_copy : goal.decreases-selector::Selector::boxed_copy
decreases-selector::Selector::boxed_copy l = 6 * size-Selector l.self.now + 1

abbrev pub decreases-copies::two_copied : goal.decreases-copies::two_copied
decreases-copies::two_copied l = 6 * max (size-Expr l.first.now) (size-Expr l.second.now) + 4

abbrev pub decreases-copies::three_copied : goal.decreases-copies::three_copied
decreases-copies::three_copied l = 6 * max (size-Expr l.first.now) (max (size-Expr l.second.now) (size-Expr l.third.now)) + 5

abbrev pub decreases-copies::listed_copied : goal.decreases-copies::listed_copied
decreases-copies::listed_copied l = 6 * max (size-Expr l.first.now) (size-Exprs l.rest.now) + 4

abbrev pub invariant-copies::exprs_copied-loop-expr : goal.invariant-copies::exprs_copied-loop-expr
invariant-copies::exprs_copied-loop-expr l = map tree_of l.items.items ≡ map (put (option_map (λ name. name.now) l.column)) (map tree_of (take l.expr-index l.expr-items))
