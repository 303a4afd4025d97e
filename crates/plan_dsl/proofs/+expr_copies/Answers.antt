use Rattle.std.proofs.Common.{refl, rules, arith, ap, ◌∙◌}
use Rattle.plan_dsl.specs.Expressions.{order_trees, function_source, tree_of, trees_of}
use Rattle.plan_dsl.specs.Ops.{WindowOp}
use Rattle.plan_dsl.specs.Sources.{Plain}
use Rattle.plan_dsl.specs.declared.aggregate.AggExpr.TheViews.{size-Expr, sized-BinaryExpr, sized-Filter, sized-Gather, sized-Slice, sized-SortBy, sized-Ternary, sized-Window}
use Rattle.plan_dsl.proofs.ExprLemmas.{copied_alone, copied_below, each_copied, function_listed, function_marks, listed_copied, put_behind, sort_by_listed, window_listed}
use Rattle.plan_dsl.proofs.+expr_copies.Goals as goal

pub copies::copied-returns-in_ok-copy-in-None-clause-ok : goal.copies::copied-returns-in_ok-copy-in-None-clause-ok
copies::copied-returns-in_ok-copy-in-None-clause-ok t c = copied_alone (tree_of c.args.expr.now) (λ name. name.now) c.in-None.is c.in_ok-copy-in-None.ensures.ok

pub copies::copied-returns-in_ok-copy-in-Some-clause-ok : goal.copies::copied-returns-in_ok-copy-in-Some-clause-ok
copies::copied-returns-in_ok-copy-in-Some-clause-ok t c = copied_below (tree_of c.args.expr.now) (λ name. name.now) c.in-Some.name c.in-Some.is c.if-is_marker.ensures c.in_ok-copy-in-Some.ensures.ok

pub copies::list_copied-returns-in_ok-expr-in-SortBy-clause-ok : goal.copies::list_copied-returns-in_ok-expr-in-SortBy-clause-ok
copies::list_copied-returns-in_ok-expr-in-SortBy-clause-ok t c =
    let kind = c.in-SortBy in
    let flags = c.in_ok-sort_options-in-SortBy in
    let made = c.in_ok-expr-in-SortBy in
    listed_copied _ (sort_by_listed c.args.expr.now kind.expr kind.by kind.sort_options kind.is) (sort_by_listed _ made.expr made.by flags.sort_options refl) (ap Plain flags.ensures.ok) (search rules) made.ensures.rest

pub copies::list_copied-returns-in_ok-order_by-in-Window-clause-ok : goal.copies::list_copied-returns-in_ok-order_by-in-Window-clause-ok
copies::list_copied-returns-in_ok-order_by-in-Window-clause-ok t c =
    let kind = c.in-Window in
    let made = c.in_ok-function-in-Window in
    let order = c.in_ok-order_by-in-Window in
    listed_copied _ (window_listed c.args.expr.now kind.function kind.partition_by kind.order_by kind.options kind.is) (window_listed _ made.function made.partition_by order.order_by kind.options refl) (ap (λ way. Plain (WindowOp way)) order.ensures.way) (search rules) (put_behind _ (order_trees kind.order_by) (trees_of kind.partition_by) order.ensures.order made.ensures.rest)

pub copies::list_copied-returns-in_ok-try_clone-in-Function-clause-ok : goal.copies::list_copied-returns-in_ok-try_clone-in-Function-clause-ok
copies::list_copied-returns-in_ok-try_clone-in-Function-clause-ok t c =
    let kind = c.in-Function in
    let made = c.in_ok-try_clone-in-Function in
    each_copied _ (function_listed c.args.expr.now kind.input kind.function kind.is) (function_listed _ c.in_ok-input-in-Function.input made.field-0 refl) (function_marks kind.function) (ap function_source made.ensures.ok) c.in_ok-input-in-Function.ensures.ok

-- operands are less deep
pub copies::several_copied-two_copied-requires : goal.copies::several_copied-two_copied-requires
copies::several_copied-two_copied-requires t c =
    (omega (arith, c.decreases, ap size-Expr c.in-BinaryExpr.is ∙ sized-BinaryExpr _ _ _, ap size-Expr c.deref.ensures, ap size-Expr c.deref-in-BinaryExpr.ensures), tt)

pub copies::several_copied-three_copied-requires : goal.copies::several_copied-three_copied-requires
copies::several_copied-three_copied-requires t c =
    (omega (arith, c.decreases, ap size-Expr c.in-Slice.is ∙ sized-Slice _ _ _, ap size-Expr c.deref-in-Slice.ensures, ap size-Expr c.deref-in-Slice-2.ensures, ap size-Expr c.deref-in-Slice-3.ensures), tt)

pub copies::several_copied-two_copied-requires-in-Gather : goal.copies::several_copied-two_copied-requires-in-Gather
copies::several_copied-two_copied-requires-in-Gather t c =
    (omega (arith, c.decreases, ap size-Expr c.in-Gather.is ∙ sized-Gather _ _ _, ap size-Expr c.deref-in-Gather.ensures, ap size-Expr c.deref-in-Gather-2.ensures), tt)

pub copies::several_copied-two_copied-requires-in-Filter : goal.copies::several_copied-two_copied-requires-in-Filter
copies::several_copied-two_copied-requires-in-Filter t c =
    (omega (arith, c.decreases, ap size-Expr c.in-Filter.is ∙ sized-Filter _ _, ap size-Expr c.deref-in-Filter.ensures, ap size-Expr c.deref-in-Filter-2.ensures), tt)

pub copies::list_copied-listed_copied-requires : goal.copies::list_copied-listed_copied-requires
copies::list_copied-listed_copied-requires t c =
    (omega (arith, c.decreases, ap size-Expr c.in-SortBy.is ∙ sized-SortBy _ _ _, ap size-Expr c.deref.ensures), tt)

pub copies::list_copied-listed_copied-requires-in-Window : goal.copies::list_copied-listed_copied-requires-in-Window
copies::list_copied-listed_copied-requires-in-Window t c =
    (omega (arith, c.decreases, ap size-Expr c.in-Window.is ∙ sized-Window _ _ _ _, ap size-Expr c.deref-in-Window.ensures), tt)

pub copies::several_copied-three_copied-requires-in-Ternary : goal.copies::several_copied-three_copied-requires-in-Ternary
copies::several_copied-three_copied-requires-in-Ternary t c =
    (omega (arith, c.decreases, ap size-Expr c.in-Ternary.is ∙ sized-Ternary _ _ _, ap size-Expr c.deref-in-Ternary.ensures, ap size-Expr c.deref-in-Ternary-2.ensures, ap size-Expr c.deref-in-Ternary-3.ensures), tt)
