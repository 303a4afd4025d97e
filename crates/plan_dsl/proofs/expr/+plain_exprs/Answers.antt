use Rattle.std.proofs.Common.{◌≡◌, ◌&&◌, true, sym, ap, ◌∙◌}
use Rattle.std.specs.List.{list_all}
use Rattle.std.proofs.lemmas.List.Folds.{list_all-append}
use Rattle.plan_dsl.specs.Expressions.{order_trees, tree_of, trees_of}
use Rattle.plan_dsl.specs.Sources.{is_plain}
use Rattle.plan_dsl.proofs.ExprLemmas.{function_listed, function_plain, listed_plain, sort_by_listed, window_listed}
use Rattle.plan_dsl.proofs.expr.+plain_exprs.Goals as goal
use Rattle.plan_dsl.proofs.expr.+plain_exprs.Goals.{Expr::is_plain-then-is_plain-7, Expr::is_plain-else-is_plain-7}

pub Expr::is_plain-returns-then-is_plain-6 : goal.Expr::is_plain-returns-then-is_plain-6
Expr::is_plain-returns-then-is_plain-6 t c =
    let kind = c.in-SortBy in
    let first : true ≡ is_plain (tree_of kind.expr.value) = sym c.if-is_plain-6.true ∙ (rw c.deref-in-SortBy.ensures at c.is_plain-in-SortBy.ensures) in
    c.are_plain.ensures ∙ ap (λ b. b && list_all is_plain (trees_of kind.by)) first ∙ sym (listed_plain (sort_by_listed c.args.self.now kind.expr kind.by kind.sort_options kind.is))

pub Expr::is_plain-returns-then-is_plain_order : goal.Expr::is_plain-returns-then-is_plain_order
Expr::is_plain-returns-then-is_plain_order t c =
    let kind = c.in-Window in
    let whole = listed_plain (window_listed c.args.self.now kind.function kind.partition_by kind.order_by kind.options kind.is) in
    let joined = list_all-append is_plain (order_trees kind.order_by) (trees_of kind.partition_by) in
    elim c.if-is_plain-7.branch [
      | Expr::is_plain-then-is_plain-7 w ↦
          let first : true ≡ is_plain (tree_of kind.function.value) = sym w.if-is_plain-7.true ∙ (rw c.deref-in-Window.ensures at c.is_plain-in-Window.ensures) in
          let order : true ≡ list_all is_plain (order_trees kind.order_by) = sym c.if-is_plain_order.true ∙ w.value-is ∙ w.is_plain_order.ensures in
          c.are_plain-then-is_plain_order.ensures ∙ (λ i. first i && (order i && list_all is_plain (trees_of kind.partition_by))) ∙ ap (λ b. is_plain (tree_of kind.function.value) && b) (sym joined) ∙ sym whole
      | Expr::is_plain-else-is_plain-7 w ↦ cc
    ]

pub Expr::is_plain-returns-then-is_expanded : goal.Expr::is_plain-returns-then-is_expanded
Expr::is_plain-returns-then-is_expanded t c =
    let kind = c.in-Function in
    c.are_plain-then-is_expanded.ensures ∙ ap (λ b. b && list_all is_plain (trees_of kind.input)) (sym c.if-is_expanded.true ∙ c.is_expanded.ensures) ∙ sym (function_plain kind.function _ _ (function_listed c.args.self.now kind.input kind.function kind.is))
