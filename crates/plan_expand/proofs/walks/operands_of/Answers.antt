use Rattle.std.proofs.Common.{Some, ap, ◌∙◌}
use Rattle.plan_dsl.proofs.ExprLemmas.{function_listed, function_marks, sort_by_listed, window_listed}
use Rattle.plan_expand.proofs.WalkLemmas.{operands_listed, operands_of_each}
use Rattle.plan_expand.proofs.walks.operands_of.Goals as goal

pub returns-in-SortBy : goal.returns-in-SortBy
returns-in-SortBy c =
    let kind = c.in-SortBy in
    rw c.deref-in-SortBy.ensures (operands_listed (sort_by_listed c.args.expr.now kind.expr kind.by kind.sort_options kind.is))

pub returns-in-Window : goal.returns-in-Window
returns-in-Window c =
    let kind = c.in-Window in
    ap Some (rw c.deref-in-Window.ensures at c.of_window.ensures) ∙ operands_listed (window_listed c.args.expr.now kind.function kind.partition_by kind.order_by kind.options kind.is)

pub returns-in-Function : goal.returns-in-Function
returns-in-Function c =
    let kind = c.in-Function in
    operands_of_each (function_listed c.args.expr.now kind.input kind.function kind.is) (function_marks kind.function)
