use Rattle.std.proofs.Common.{refl, ap}
use Rattle.plan_dsl.specs.Ops.{WindowOp}
use Rattle.plan_dsl.specs.Expressions.{tree_of}
use Rattle.plan_dsl.specs.Trees.{top_op}
use Rattle.plan_dsl.proofs.ExprLemmas.{function_listed, function_marks, sort_by_listed, window_listed}
use Rattle.plan_expand.proofs.WalkLemmas.{operands_listed, operands_of_each}
use Rattle.plan_expand.proofs.OperandLemmas.{place_within, put_listed, put_of_each, taken_out}
use Rattle.plan_expand.proofs.operands.list_swapped.Goals as goal

pub swap_listed-by-requires : goal.swap_listed-by-requires
swap_listed-by-requires c =
    let kind = c.in-SortBy in
    place_within (tree_of c.args.expr) _ (operands_listed (sort_by_listed c.args.expr kind.expr kind.by kind.sort_options kind.is)) c.args.place c.requires.within

pub swap_of_window-partition_by-requires : goal.swap_of_window-partition_by-requires
swap_of_window-partition_by-requires c =
    let kind = c.in-Window in
    place_within (tree_of c.args.expr) _ (operands_listed (window_listed c.args.expr kind.function kind.partition_by kind.order_by kind.options kind.is)) c.args.place c.requires.within

pub swap_each-input-requires : goal.swap_each-input-requires
swap_each-input-requires c =
    let kind = c.in-Function in
    place_within (tree_of c.args.expr) _ (operands_of_each (function_listed c.args.expr kind.input kind.function kind.is) (function_marks kind.function)) c.args.place c.requires.within

pub returns-in-SortBy-clause-other : goal.returns-in-SortBy-clause-other
returns-in-SortBy-clause-other c =
    let kind = c.in-SortBy in
    taken_out (tree_of c.args.expr) _ (operands_listed (sort_by_listed c.args.expr kind.expr kind.by kind.sort_options kind.is)) c.args.place _ (rw c.deref_mut.ensures.value at c.swap_listed-by.ensures.other)

pub returns-in-SortBy-clause-expr : goal.returns-in-SortBy-clause-expr
returns-in-SortBy-clause-expr c =
    let kind = c.in-SortBy in
    put_listed (tree_of c.args.expr) _ (operands_listed (sort_by_listed c.args.expr kind.expr kind.by kind.sort_options kind.is)) c.args.place (tree_of c.args.other.now) (sort_by_listed _ (record { ptr = kind.expr.ptr; alloc = kind.expr.alloc; value = c.swap_listed-by.new.first }) c.swap_listed-by.result kind.sort_options refl) (ap (λ e. top_op (tree_of e)) kind.is) refl (rw c.deref_mut.ensures.value at c.swap_listed-by.ensures.operands)

pub returns-in-Window-clause-other : goal.returns-in-Window-clause-other
returns-in-Window-clause-other c =
    let kind = c.in-Window in
    taken_out (tree_of c.args.expr) _ (operands_listed (window_listed c.args.expr kind.function kind.partition_by kind.order_by kind.options kind.is)) c.args.place _ (rw c.deref_mut-in-Window.ensures.value at c.swap_of_window-partition_by.ensures.other)

pub returns-in-Window-clause-expr : goal.returns-in-Window-clause-expr
returns-in-Window-clause-expr c =
    let kind = c.in-Window in
    let made = c.swap_of_window-partition_by in
    put_listed (tree_of c.args.expr) _ (operands_listed (window_listed c.args.expr kind.function kind.partition_by kind.order_by kind.options kind.is)) c.args.place (tree_of c.args.other.now) (window_listed _ (record { ptr = kind.function.ptr; alloc = kind.function.alloc; value = made.new.function }) made.result made.new.order kind.options refl) (ap top_op (window_listed c.args.expr kind.function kind.partition_by kind.order_by kind.options kind.is).is) (ap WindowOp made.ensures.way) (rw c.deref_mut-in-Window.ensures.value at made.ensures.operands)

pub returns-in-Function-clause-other : goal.returns-in-Function-clause-other
returns-in-Function-clause-other c =
    let kind = c.in-Function in
    taken_out (tree_of c.args.expr) _ (operands_of_each (function_listed c.args.expr kind.input kind.function kind.is) (function_marks kind.function)) c.args.place _ c.swap_each-input.ensures.other

pub returns-in-Function-clause-expr : goal.returns-in-Function-clause-expr
returns-in-Function-clause-expr c =
    let kind = c.in-Function in
    put_of_each (tree_of c.args.expr) _ (operands_of_each (function_listed c.args.expr kind.input kind.function kind.is) (function_marks kind.function)) c.args.place (tree_of c.args.other.now) (function_listed _ c.swap_each-input.result kind.function refl) (ap (λ e. top_op (tree_of e)) kind.is) c.swap_each-input.ensures.operands
