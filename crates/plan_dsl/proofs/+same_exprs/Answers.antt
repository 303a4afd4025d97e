use Rattle.std.proofs.Common.{◌&&◌, sym, ◌∙◌}
use Rattle.plan_dsl.specs.Expressions.{trees_of}
use Rattle.plan_dsl.proofs.ExprLemmas.{each_compared, excludes_apart, excludes_compared, exprs_apart, function_listed, functions_compared, listed_compared, sort_by_listed, types_compared, window_listed, windows_compared}
use Rattle.plan_dsl.proofs.+same_exprs.Goals as goal
use Rattle.plan_dsl.proofs.+same_exprs.Goals.{expr::Expr::is_same-then-eq-5, expr::Expr::is_same-else-eq-5, expr::Expr::is_same-then-is_same_order, expr::Expr::is_same-else-is_same_order}

pub expr::Expr::is_same-returns-then-is_same-6 : goal.expr::Expr::is_same-returns-then-is_same-6
expr::Expr::is_same-returns-then-is_same-6 t c =
    let kind = c.in-SortBy-SortBy in
    elim c.if-eq-5.branch [
      | expr::Expr::is_same-then-eq-5 w ↦
          let first = sym c.if-is_same-6.true ∙ w.value-is ∙ (rw (w.deref-then-eq-5.ensures, w.deref-then-eq-5-2.ensures) at w.is_same-then-eq-5.ensures) in
          listed_compared (sort_by_listed c.args.self.now kind.expr kind.by kind.sort_options kind.is-0) (sort_by_listed c.args.other.now kind.own_expr kind.own_by kind.own_options kind.is-1) (sym w.if-eq-5.true ∙ c.eq-in-SortBy-SortBy.ensures) first c.is_same-then-is_same-6.ensures
      | expr::Expr::is_same-else-eq-5 w ↦ cc
    ]

pub expr::Exprs::is_same-returns-then-left-right : goal.expr::Exprs::is_same-returns-then-left-right
expr::Exprs::is_same-returns-then-left-right t c = exprs_apart c.args.self.now.items.items c.args.other.now.items.items (rw (c.as_slice-left.ensures.value, c.as_slice-right.ensures.value) at c.if-left-right.true)

pub expr::Expr::is_same-returns-in-DtypeColumn-DtypeColumn : goal.expr::Expr::is_same-returns-in-DtypeColumn-DtypeColumn
expr::Expr::is_same-returns-in-DtypeColumn-DtypeColumn t c =
    let kind = c.in-DtypeColumn-DtypeColumn in
    types_compared kind.types kind.own kind.is-0 kind.is-1 c.eq-in-DtypeColumn-DtypeColumn.ensures

pub expr::Expr::is_same-returns-then-eq-8 : goal.expr::Expr::is_same-returns-then-eq-8
expr::Expr::is_same-returns-then-eq-8 t c =
    let kind = c.in-Exclude-Exclude in
    excludes_compared kind.marker kind.own kind.excluded kind.own_excluded kind.is-0 kind.is-1 (sym c.if-eq-8.true ∙ c.eq-in-Exclude-Exclude.ensures) (rw (c.deref-then-eq-8.ensures, c.deref-then-eq-8-2.ensures) at c.is_same-then-eq-8.ensures)

pub expr::Expr::is_same-returns-else-eq-8 : goal.expr::Expr::is_same-returns-else-eq-8
expr::Expr::is_same-returns-else-eq-8 t c =
    let kind = c.in-Exclude-Exclude in
    c.if-eq-8.false ∙ excludes_apart kind.marker kind.own kind.excluded kind.own_excluded kind.is-0 kind.is-1 (sym c.if-eq-8.false ∙ c.eq-in-Exclude-Exclude.ensures)

pub expr::Expr::is_same-returns-then-is_same-7 : goal.expr::Expr::is_same-returns-then-is_same-7
expr::Expr::is_same-returns-then-is_same-7 t c =
    let kind = c.in-Window-Window in
    let whole = windows_compared kind.order_by kind.own_order (trees_of kind.partition_by) (trees_of kind.own_keys) (window_listed c.args.self.now kind.function kind.partition_by kind.order_by _ kind.is-0) (window_listed c.args.other.now kind.own kind.own_keys kind.own_order _ kind.is-1) in
    elim c.if-is_same_order.branch [
      | expr::Expr::is_same-then-is_same_order w ↦
          let order = sym w.if-is_same_order.true ∙ c.is_same_order.ensures in
          let first = sym c.if-is_same-7.true ∙ w.value-is ∙ (rw (w.deref-then-is_same_order.ensures, w.deref-then-is_same_order-2.ensures) at w.is_same-then-is_same_order.ensures) in
          (λ i. order i && (first i && c.is_same-then-is_same-7.ensures i)) ∙ sym whole
      | expr::Expr::is_same-else-is_same_order w ↦ cc
    ]

pub expr::Expr::is_same-returns-then-eq-9 : goal.expr::Expr::is_same-returns-then-eq-9
expr::Expr::is_same-returns-then-eq-9 t c =
    let kind = c.in-Function-Function in
    each_compared (function_listed c.args.self.now kind.input kind.function kind.is-0) (function_listed c.args.other.now kind.own kind.own_function kind.is-1) (functions_compared kind.function kind.own_function (sym c.if-eq-9.true ∙ c.eq-in-Function-Function.ensures)) c.is_same-then-eq-9.ensures
