use Rattle.plan_dsl.specs.Expressions.{order_trees, trees_of}
use Rattle.plan_dsl.proofs.ExprLemmas.{each_fed, function_listed, joined_fed, listed_fed, sort_by_listed, window_listed}
use Rattle.plan_dsl.proofs.+expr_hashes.Goals as goal

pub expr::Expr::feed-returns-in-SortBy : goal.expr::Expr::feed-returns-in-SortBy
expr::Expr::feed-returns-in-SortBy g t c =
    let kind = c.in-SortBy in
    listed_fed g.H.Hasher.write c.args.state.now {v = c.feed-in-SortBy-2.new.state} (sort_by_listed c.args.self.now kind.expr kind.by kind.sort_options kind.is) c.feed_own.ensures (rw c.deref-in-SortBy.ensures at c.feed-in-SortBy.ensures) c.feed-in-SortBy-2.ensures

pub expr::Expr::feed-returns-in-Window : goal.expr::Expr::feed-returns-in-Window
expr::Expr::feed-returns-in-Window g t c =
    let kind = c.in-Window in
    let write = g.H.Hasher.write in
    let rest = joined_fed write c.feed-in-Window.new.state {u = c.feed-in-Window-2.new.state} (order_trees kind.order_by) (trees_of kind.partition_by) c.feed_order.ensures c.feed-in-Window-2.ensures in
    listed_fed write c.args.state.now {v = c.feed-in-Window-2.new.state} (window_listed c.args.self.now kind.function kind.partition_by kind.order_by kind.options kind.is) c.feed_own.ensures (rw c.deref-in-Window.ensures at c.feed-in-Window.ensures) rest

pub expr::Expr::feed-returns-in-Function : goal.expr::Expr::feed-returns-in-Function
expr::Expr::feed-returns-in-Function g t c =
    let kind = c.in-Function in
    each_fed g.H.Hasher.write c.args.state.now {u = c.feed-in-Function.new.state} (function_listed c.args.self.now kind.input kind.function kind.is) c.feed_own.ensures c.feed-in-Function.ensures
