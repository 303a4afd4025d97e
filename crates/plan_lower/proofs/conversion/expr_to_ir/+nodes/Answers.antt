use Rattle.std.proofs.Common.{◌≡◌, List, [], ◌∷◌, ◌++◌, true, false, arith, length, map, IfOk, refl, subst, sym, ap, ◌∙◌}
use Rattle.std.specs.List.{AllByRecursion}
use Rattle.std.proofs.lemmas.Bool.{not-false}
use Rattle.std.proofs.lemmas.List.{map-append}
use Rattle.plan_dsl.specs.Sources.{is_plain, unwritten}
use Rattle.std.specs.Vec.Iter.{into_iter_items}
use Rattle.plan_dsl.specs.declared.expr.Expr.{Expr}
use Rattle.plan_dsl.specs.Aliases.{all_pruned, is_written_out, prune_node, pruned}
use Rattle.plan_dsl.specs.Expressions.{order_trees, plain_tree, plain_trees, tree_of, trees_of}
use Rattle.plan_dsl.specs.declared.aggregate.AggExpr.TheViews.{size-Expr, sized-BinaryExpr, sized-Filter, sized-Function, sized-Gather, sized-Slice, sized-SortBy, sized-Ternary, sized-Window}
use Rattle.plan_dsl.specs.Names.{label_of}
use Rattle.plan_dsl.specs.Ops.{AliasOp, ColumnOp, FunctionOp, WindowOp}
use Rattle.plan_dsl.specs.Trees.{node, no_more, more, children_from}
use Rattle.plan_dsl.proofs.ExprLemmas.{sort_by_listed, window_listed}
use Rattle.plan_arena.specs.declared.aexpr.AExpr.TheVariants.{Alias, BinaryExpr, Column, Function, SortBy, Window}
use Rattle.plan_arena.specs.Denotation.{Denotes}
use Rattle.plan_arena.specs.Items.{HoldsFrom, named_node, numbers, numbers_named, recorded}
use Rattle.plan_lower.specs.Nodes.{IsItemOf, over_inputs}
use Rattle.plan_arena.proofs.ItemLemmas.{any_node, grows_then, length-grown, tree_grown}
use Rattle.plan_lower.proofs.HorizontalLemmas.{chain_end, chain_next, named_under, operands_counted, plain_function, pruned_counted, written_chained}
use Rattle.plan_lower.proofs.NodeLemmas.{Adding, adding_start, adding_step, both_plain, each_plain, item_denotes, nothing_added, over_added, over_both, over_listed, pruned_alias, pruned_item, rest_plain, second_plain, several_kinds, third_plain, unwritten_both, unwritten_listed}
use Rattle.plan_lower.proofs.RecordingLemmas.{function_over, name_recorded}
use Rattle.plan_lower.proofs.conversion.expr_to_ir.+nodes.Goals as goal

pub add_rarer-returns-in_ok-node-in-Alias-clause-denotes : goal.add_rarer-returns-in_ok-node-in-Alias-clause-denotes
add_rarer-returns-in_ok-node-in-Alias-clause-denotes t c =
    let below = c.in_ok-below-in-Alias.ensures in
    let top = c.in_ok-node-in-Alias in
    let tree = pruned c.args.pruning.keep c.args.pruning.write (plain_tree c.into_inner.result) in
    let item : IsItemOf (length c.args.arena.now) c.add_nodes.new.arena (node (AliasOp c.in-Alias.name) (more tree no_more)) (Alias c.in_ok-below-in-Alias.below c.in-Alias.name) = record { operands = more tree no_more; is = refl; denote = (below.denotes, tt) } in
    let added = item_denotes _ c.add_nodes.new.arena _ _ _ top.node.0 (length-grown c.args.arena.now c.add_nodes.new.arena below.grows) item top.ensures.ok top.ensures.node in
    let kept = subst (λ keep. Denotes (HoldsFrom (length c.args.arena.now) c.add.new.self) top.node.0 (prune_node keep (AliasOp c.in-Alias.name) (more tree no_more))) (sym (not-false c.args.pruning.keep c.if-not-pruning.false)) added in
    let whole = subst (Denotes (HoldsFrom (length c.args.arena.now) c.add.new.self) top.node.0) (pruned_alias c.args.pruning.keep c.args.pruning.write c.in-Alias.name (plain_tree c.into_inner.result)) kept in
    rw (c.in-Alias.is, ← c.into_inner.ensures) whole

pub add_nodes-returns-in_ok-node-in-Column-clause-denotes : goal.add_nodes-returns-in_ok-node-in-Column-clause-denotes
add_nodes-returns-in_ok-node-in-Column-clause-denotes t c =
    let arena = c.args.arena.now in
    let top = c.in_ok-node-in-Column in
    let item : IsItemOf (length arena) arena (node (ColumnOp c.in-Column.name) no_more) (Column c.in-Column.name) = record { operands = no_more; is = refl; denote = tt } in
    rw (c.in-Column.is) (item_denotes _ arena _ _ _ top.node.0 (omega arith) item top.ensures.ok top.ensures.node)

pub add_nodes-add_below-requires-in-BinaryExpr : goal.add_nodes-add_below-requires-in-BinaryExpr
add_nodes-add_below-requires-in-BinaryExpr t c =
    let size = ap size-Expr c.in-BinaryExpr.is ∙ sized-BinaryExpr _ _ _ in
    (omega (arith, c.decreases, size), second_plain c.args.expr _ _ _ _ (ap tree_of c.in-BinaryExpr.is) c.requires.plain)

pub add_nodes-returns-in_ok-node-in-BinaryExpr-clause-denotes : goal.add_nodes-returns-in_ok-node-in-BinaryExpr-clause-denotes
add_nodes-returns-in_ok-node-in-BinaryExpr-clause-denotes t c =
    let kind = c.in-BinaryExpr in
    let left = c.in_ok-left-in-BinaryExpr in
    let right = c.in_ok-right-in-BinaryExpr in
    let top = c.in_ok-node-in-BinaryExpr in
    let item : IsItemOf (length c.args.arena.now) c.add_below-in-BinaryExpr.new.arena (over_inputs c.args.pruning.keep c.args.pruning.write (plain_tree c.args.expr)) (BinaryExpr left.left kind.op right.right) =
    rw (kind.is) (over_added _ _ _ _ (more _ (more _ no_more)) refl (_, left.ensures.denotes, left.ensures.grows, (_, right.ensures.denotes, right.ensures.grows, refl))) in
    let added = item_denotes _ _ _ _ _ top.node.0 (omega (arith, length-grown _ _ left.ensures.grows, length-grown _ _ right.ensures.grows)) item top.ensures.ok top.ensures.node in
    subst (Denotes (HoldsFrom (length c.args.arena.now) c.add-in-BinaryExpr.new.self) top.node.0) (pruned_item c.args.pruning.keep c.args.pruning.write c.args.expr (λ below name is. cc) (λ input function is. cc)) added

pub add_rarer-returns-in_ok-node-in_default-clause-denotes : goal.add_rarer-returns-in_ok-node-in_default-clause-denotes
add_rarer-returns-in_ok-node-in_default-clause-denotes t c =
    let item = c.in_ok-item-in_default.ensures in
    let top = c.in_ok-node-in_default in
    let added = item_denotes _ c.add_inputs.new.arena _ _ c.in_ok-item-in_default.item top.node.0 (length-grown c.args.arena.now c.add_inputs.new.arena item.grows) item.ok top.ensures.ok top.ensures.node in
    subst (Denotes (HoldsFrom (length c.args.arena.now) c.add-in_default.new.self) top.node.0) (pruned_item c.args.pruning.keep c.args.pruning.write c.args.expr c.in_default.not-Alias c.in_default.not-Function) added

-- a function, which is written out or keeps the names of its operands
pub add_rarer-returns-in-Function-clause-denotes : goal.add_rarer-returns-in-Function-clause-denotes
add_rarer-returns-in-Function-clause-denotes t c =
    let kind = c.in-Function in
    let whole = (plain_function c.args.expr kind.input kind.function kind.is c.requires.plain).1 in
    subst (λ tree. IfOk c.add_function.result (λ top. Denotes (HoldsFrom (length c.args.arena.now) c.add_function.new.arena) top.0 (pruned c.args.pruning.keep c.args.pruning.write tree))) (sym whole) c.add_function.ensures.denotes

pub add_function-returns-in-Some-clause-denotes : goal.add_function-returns-in-Some-clause-denotes
add_function-returns-in-Some-clause-denotes t c =
    let by = c.in-Some.chaining in
    let children = children_from (plain_trees c.args.input) in
    let whole = written_chained c.args.pruning.keep c.args.pruning.write c.args.function children (length c.as_slice.result.now) by.operator by.nothing c.in-Some.ensures.0 c.in-Some.ensures.1 (operands_counted c.args.input ∙ sym (ap length c.as_slice.ensures.value)) in
    subst (λ tree. IfOk c.add_chained.result (λ top. Denotes (HoldsFrom (length c.args.arena.now) c.add_chained.new.arena) top.0 tree)) whole c.add_chained.ensures.denotes

pub add_function-returns-in_ok-node-in-None-clause-denotes : goal.add_function-returns-in_ok-node-in-None-clause-denotes
add_function-returns-in_ok-node-in-None-clause-denotes t c =
    let operands = c.in_ok-input-in-None in
    let top = c.in_ok-node-in-None in
    let children = children_from (plain_trees c.args.input) in
    let whole = pruned c.args.pruning.keep c.args.pruning.write (node (FunctionOp c.args.function []) children) in
    let stays = subst (λ (exprs : List Expr). is_written_out c.args.pruning.write (FunctionOp c.args.function []) (length exprs) ≡ false) c.as_slice.ensures.value c.in-None.ensures in
    let item : IsItemOf (length c.args.arena.now) c.add_recorded.new.arena whole (Function operands.input c.args.function) = record {
      operands = all_pruned false c.args.pruning.write children;
      is = function_over c.args.pruning.keep c.args.pruning.write c.args.function c.args.input operands.input.items.items stays operands.ensures.names;
      denote = operands.ensures.ok;
    } in
    item_denotes _ c.add_recorded.new.arena _ whole _ top.node.0 (length-grown c.args.arena.now c.add_recorded.new.arena operands.ensures.grows) item top.ensures.ok top.ensures.node

-- what is over several inputs
pub add_several-unreachable-requires : goal.add_several-unreachable-requires
add_several-unreachable-requires t c =
    several_kinds c.args.expr c.requires.several c.requires.rarer.1 c.in_default.not-Slice c.in_default.not-Gather c.in_default.not-Filter c.in_default.not-Ternary

-- the operands behind the first are less deep, and have plans' ops alone
pub add_several-add_below-requires-in-Slice : goal.add_several-add_below-requires-in-Slice
add_several-add_below-requires-in-Slice t c =
    let size = ap size-Expr c.in-Slice.is ∙ sized-Slice _ _ _ in
    (omega (arith, c.decreases, size), second_plain c.args.expr _ _ _ _ (ap tree_of c.in-Slice.is) c.requires.plain)

pub add_several-add_below-requires-in-Slice-2 : goal.add_several-add_below-requires-in-Slice-2
add_several-add_below-requires-in-Slice-2 t c =
    let size = ap size-Expr c.in-Slice.is ∙ sized-Slice _ _ _ in
    (omega (arith, c.decreases, size), third_plain c.args.expr _ _ _ _ _ (ap tree_of c.in-Slice.is) c.requires.plain)

pub add_several-add_below-requires-in-Gather-2 : goal.add_several-add_below-requires-in-Gather-2
add_several-add_below-requires-in-Gather-2 t c =
    let size = ap size-Expr c.in-Gather.is ∙ sized-Gather _ _ _ in
    (omega (arith, c.decreases, size), second_plain c.args.expr _ _ _ _ (ap tree_of c.in-Gather.is) c.requires.plain)

pub add_several-add_below-requires-in-Filter-2 : goal.add_several-add_below-requires-in-Filter-2
add_several-add_below-requires-in-Filter-2 t c =
    let size = ap size-Expr c.in-Filter.is ∙ sized-Filter _ _ in
    (omega (arith, c.decreases, size), second_plain c.args.expr _ _ _ _ (ap tree_of c.in-Filter.is) c.requires.plain)

pub add_several-add_below-requires-in-Ternary-2 : goal.add_several-add_below-requires-in-Ternary-2
add_several-add_below-requires-in-Ternary-2 t c =
    let size = ap size-Expr c.in-Ternary.is ∙ sized-Ternary _ _ _ in
    (omega (arith, c.decreases, size), second_plain c.args.expr _ _ _ _ (ap tree_of c.in-Ternary.is) c.requires.plain)

pub add_several-add_below-requires-in-Ternary-3 : goal.add_several-add_below-requires-in-Ternary-3
add_several-add_below-requires-in-Ternary-3 t c =
    let size = ap size-Expr c.in-Ternary.is ∙ sized-Ternary _ _ _ in
    (omega (arith, c.decreases, size), third_plain c.args.expr _ _ _ _ _ (ap tree_of c.in-Ternary.is) c.requires.plain)

pub add_rarer-add_function-requires : goal.add_rarer-add_function-requires
add_rarer-add_function-requires t c =
    let kind = c.in-Function in
    let size = ap size-Expr kind.is ∙ sized-Function _ _ in
    (omega (arith, c.decreases, size), (plain_function c.args.expr kind.input kind.function kind.is c.requires.plain).0)

pub add_others-add_each-requires : goal.add_others-add_each-requires
add_others-add_each-requires t c =
    let kind = c.in-SortBy in
    let size = ap size-Expr kind.is ∙ sized-SortBy _ _ _ in
    (omega (arith, c.decreases, size), rest_plain (sort_by_listed c.args.expr kind.expr kind.by kind.sort_options kind.is) c.requires.plain)

-- an item over two inputs or more, of which each was added behind those before it
pub add_several-returns-in_ok-length-in-Slice-clause-ok :
    goal.add_several-returns-in_ok-length-in-Slice-clause-ok
add_several-returns-in_ok-length-in-Slice-clause-ok t c =
    let input = c.in_ok-input-in-Slice.ensures in
    let offset = c.in_ok-offset-in-Slice.ensures in
    let length = c.in_ok-length-in-Slice.ensures in
    rw (c.in-Slice.is) (over_added _ _ _ _ (more _ (more _ (more _ no_more))) refl (_, input.denotes, input.grows, (_, offset.denotes, offset.grows, (_, length.denotes, length.grows, refl))))

pub add_several-returns-in_ok-idx-in-Gather-clause-ok :
    goal.add_several-returns-in_ok-idx-in-Gather-clause-ok
add_several-returns-in_ok-idx-in-Gather-clause-ok t c =
    let expr = c.in_ok-expr-in-Gather.ensures in
    let idx = c.in_ok-idx-in-Gather.ensures in
    rw (c.in-Gather.is) (over_added _ _ _ _ (more _ (more _ no_more)) refl (_, expr.denotes, expr.grows, (_, idx.denotes, idx.grows, refl)))

pub add_several-returns-in_ok-by-in-Filter-clause-ok :
    goal.add_several-returns-in_ok-by-in-Filter-clause-ok
add_several-returns-in_ok-by-in-Filter-clause-ok t c =
    let input = c.in_ok-input-in-Filter.ensures in
    let by = c.in_ok-by-in-Filter.ensures in
    rw (c.in-Filter.is) (over_added _ _ _ _ (more _ (more _ no_more)) refl (_, input.denotes, input.grows, (_, by.denotes, by.grows, refl)))

pub add_several-returns-in_ok-falsy-in-Ternary-clause-ok :
    goal.add_several-returns-in_ok-falsy-in-Ternary-clause-ok
add_several-returns-in_ok-falsy-in-Ternary-clause-ok t c =
    let truthy = c.in_ok-truthy-in-Ternary.ensures in
    let predicate = c.in_ok-predicate-in-Ternary.ensures in
    let falsy = c.in_ok-falsy-in-Ternary.ensures in
    rw (c.in-Ternary.is) (over_added _ _ _ _ (more _ (more _ (more _ no_more))) refl (_, truthy.denotes, truthy.grows, (_, predicate.denotes, predicate.grows, (_, falsy.denotes, falsy.grows, refl))))

-- one over an input and a list, which was added behind it
pub add_others-returns-in_ok-by-in-SortBy-clause-ok :
    goal.add_others-returns-in_ok-by-in-SortBy-clause-ok
add_others-returns-in_ok-by-in-SortBy-clause-ok t c =
    let kind = c.in-SortBy in
    let first = c.in_ok-expr-in-SortBy.ensures in
    let rest = c.in_ok-by-in-SortBy.ensures in
    let keys = all_pruned c.args.pruning.keep c.args.pruning.write (children_from (plain_trees kind.by)) in
    let tree = ap (over_inputs c.args.pruning.keep c.args.pruning.write) (unwritten_listed kind.by.items.items (sort_by_listed c.args.expr kind.expr kind.by kind.sort_options kind.is)) in
    over_listed c.args.arena.now c.add_below-in-SortBy.new.arena c.add_each.new.arena _ (SortBy c.in_ok-expr-in-SortBy.expr c.in_ok-by-in-SortBy.by kind.sort_options) _ _ _ keys tree refl first.denotes first.grows rest.ok rest.grows

-- what orders the groups of a window, and its keys, are less deep and have plans' ops alone
pub add_others-add_order-requires : goal.add_others-add_order-requires
add_others-add_order-requires t c =
    let kind = c.in-Window in
    let size = ap size-Expr kind.is ∙ sized-Window _ _ _ _ in
    let plain = rest_plain (window_listed c.args.expr kind.function kind.partition_by kind.order_by kind.options kind.is) c.requires.plain in
    (omega (arith, c.decreases, size), (both_plain (order_trees kind.order_by) (trees_of kind.partition_by) plain).0)

pub add_others-add_each-requires-in-Window : goal.add_others-add_each-requires-in-Window
add_others-add_each-requires-in-Window t c =
    let kind = c.in-Window in
    let size = ap size-Expr kind.is ∙ sized-Window _ _ _ _ in
    let plain = rest_plain (window_listed c.args.expr kind.function kind.partition_by kind.order_by kind.options kind.is) c.requires.plain in
    (omega (arith, c.decreases, size), (both_plain (order_trees kind.order_by) (trees_of kind.partition_by) plain).1)

-- a window's item, over its function, what orders its groups, and its keys
pub add_others-returns-in_ok-partition_by-in-Window-clause-ok : goal.add_others-returns-in_ok-partition_by-in-Window-clause-ok
add_others-returns-in_ok-partition_by-in-Window-clause-ok t c =
    let kind = c.in-Window in
    let first = c.in_ok-function-in-Window.ensures in
    let order = c.in_ok-order_by-in-Window in
    let keys = c.in_ok-partition_by-in-Window.ensures in
    let orders = map unwritten (order_trees kind.order_by) in
    let whole = ap (over_inputs c.args.pruning.keep c.args.pruning.write) (unwritten_both (order_trees kind.order_by) kind.partition_by.items.items (window_listed c.args.expr kind.function kind.partition_by kind.order_by kind.options kind.is)) in
    let tree = whole ∙ (λ i. node (WindowOp (sym order.ensures.way i)) (more (pruned c.args.pruning.keep c.args.pruning.write (plain_tree kind.function.value)) (all_pruned c.args.pruning.keep c.args.pruning.write (children_from (orders ++ plain_trees kind.partition_by))))) in
    over_both c.args.pruning.keep c.args.pruning.write c.args.arena.now c.add_below-in-Window.new.arena c.add_order.new.arena c.add_each-in-Window.new.arena _ (Window c.in_ok-function-in-Window.function c.in_ok-partition_by-in-Window.partition_by order.order_by kind.options) _ _ _ _ orders (plain_trees kind.partition_by) tree refl first.denotes first.grows order.ensures.ok order.ensures.grows keys.ok keys.grows

pub add_each-loop-expr-init : goal.add_each-loop-expr-init
add_each-loop-expr-init t c =
    let exprs = c.args.exprs.items.items in
    let start = c.into_iter-expr-iterator.ensures.into_iter_gives.0 in
    record {
      can = tt;
      finite = tt;
      plain = subst (AllByRecursion (λ e. is_plain (tree_of e) ≡ true)) (sym start) (each_plain exprs c.requires.plain);
      grows = nothing_added c.args.arena.now;
      so_far = subst (λ left. Adding (length c.args.arena.now) c.args.pruning.keep c.args.pruning.write c.args.arena.now (plain_trees c.args.exprs) (map plain_tree left) (numbers c.new-items.result.items)) (sym start) (adding_start (length c.args.arena.now) c.args.pruning.keep c.args.pruning.write c.args.arena.now (plain_trees c.args.exprs) (numbers c.new-items.result.items) (ap numbers c.new-items.ensures.items));
    }

pub add_each-loop-expr-preserved : goal.add_each-loop-expr-preserved
add_each-loop-expr-preserved t c =
    let before = c.loop-expr.invariant in
    let node = c.in_ok-node.ensures in
    record {
      can = tt;
      finite = tt;
      plain = (subst (AllByRecursion (λ e. is_plain (tree_of e) ≡ true)) c.in-Some.ensures.steps.0 before.plain).1;
      grows = grows_then _ _ _ before.grows node.grows;
      so_far = adding_step _ _ _ _ _ _ _ (map plain_tree (into_iter_items c.next.new.self)) _ _ (plain_tree c.in-Some.expr) c.in_ok-node.node.0 before.so_far (ap (map plain_tree) c.in-Some.ensures.steps.0) (length-grown _ _ before.grows) node.grows node.denotes (ap numbers c.in_ok-push.ensures.items ∙ map-append (λ n. n.0) c.loop-expr.items.items (c.in_ok-node.node ∷ []));
    }

pub add_recorded-loop-expr-init : goal.add_recorded-loop-expr-init
add_recorded-loop-expr-init t c =
    let exprs = c.args.exprs.items.items in
    let start = c.into_iter-expr-iterator.ensures.into_iter_gives.0 in
    record {
      can = tt;
      finite = tt;
      plain = subst (AllByRecursion (λ e. is_plain (tree_of e) ≡ true)) (sym start) (each_plain exprs c.requires.plain);
      grows = nothing_added c.args.arena.now;
      names = (λ i. recorded (c.new-items.ensures.items i) ++ map label_of (map plain_tree (start i)));
      so_far = subst (λ left. Adding (length c.args.arena.now) false c.args.write c.args.arena.now (plain_trees c.args.exprs) (map plain_tree left) (numbers_named c.new-items.result.items)) (sym start) (adding_start (length c.args.arena.now) false c.args.write c.args.arena.now (plain_trees c.args.exprs) (numbers_named c.new-items.result.items) (ap numbers_named c.new-items.ensures.items));
    }

pub add_recorded-loop-expr-preserved : goal.add_recorded-loop-expr-preserved
add_recorded-loop-expr-preserved t c =
    let before = c.loop-expr.invariant in
    let item = c.in_ok-expr_ir.ensures in
    let rest = map plain_tree (into_iter_items c.next.new.self) in
    record {
      can = tt;
      finite = tt;
      plain = (subst (AllByRecursion (λ e. is_plain (tree_of e) ≡ true)) c.in-Some.ensures.steps.0 before.plain).1;
      grows = grows_then _ _ _ before.grows item.grows;
      names = name_recorded c.loop-expr.items.items _ c.in_ok-expr_ir.expr_ir (plain_tree c.in-Some.expr) _ rest _ c.in_ok-push.ensures.items item.name (ap (map plain_tree) c.in-Some.ensures.steps.0) before.names;
      so_far = adding_step _ _ _ _ _ _ _ rest _ _ (plain_tree c.in-Some.expr) (named_node c.in_ok-expr_ir.expr_ir).expression before.so_far (ap (map plain_tree) c.in-Some.ensures.steps.0) (length-grown _ _ before.grows) item.grows item.denotes (ap numbers_named c.in_ok-push.ensures.items ∙ map-append (λ e. e.node.0) c.loop-expr.items.items (c.in_ok-expr_ir.expr_ir ∷ []));
    }

-- a name that was kept
pub add_under_name-under_name-requires-clause-tree : goal.add_under_name-under_name-requires-clause-tree
add_under_name-under_name-requires-clause-tree t c =
    record { tree = pruned false c.args.write (plain_tree c.args.expr); denotes = any_node (length c.args.arena.now) c.add_nodes.new.arena c.in_ok-node-in-Ok.node.0 (pruned false c.args.write (plain_tree c.args.expr)) c.in_ok-node-in-Ok.ensures.denotes }

pub add_under_name-returns-in_ok-expr_ir-in-Ok-clause-name : goal.add_under_name-returns-in_ok-expr_ir-in-Ok-clause-name
add_under_name-returns-in_ok-expr_ir-in-Ok-clause-name t c =
    c.in_ok-expr_ir-in-Ok.ensures.name (pruned false c.args.write (plain_tree c.args.expr)) (any_node (length c.args.arena.now) c.add_nodes.new.arena c.in_ok-node-in-Ok.node.0 (pruned false c.args.write (plain_tree c.args.expr)) c.in_ok-node-in-Ok.ensures.denotes) ∙ sym (named_under c.args.write c.in-Ok.alias (plain_tree c.args.expr) c.in-Ok.ensures.ok)

-- a chain, operand by operand
pub add_chained-loop-expr-init : goal.add_chained-loop-expr-init
add_chained-loop-expr-init t c =
    let exprs = c.args.exprs.items.items in
    let start = c.into_iter-expr-iterator.ensures.into_iter_gives.0 in
    record {
      can = tt;
      finite = tt;
      plain = subst (AllByRecursion (λ e. is_plain (tree_of e) ≡ true)) (sym start) (each_plain exprs c.requires.plain);
      grows = nothing_added c.args.arena.now;
      left = omega (arith, c.into_iter-expr-iterator.ensures.into_iter_gives.1, c.as_slice-count.ensures.len, ap length c.as_slice-count.ensures.value, ap length start);
      so_far = ap (λ left. all_pruned c.args.pruning.keep c.args.pruning.write (children_from (map plain_tree left))) (sym start);
    }

pub add_chained-loop-expr-preserved : goal.add_chained-loop-expr-preserved
add_chained-loop-expr-preserved t c =
    let before = c.loop-expr.invariant in
    let node = c.in_ok-node.ensures in
    let top = c.in_ok-top.ensures in
    let all = all_pruned c.args.pruning.keep c.args.pruning.write (children_from (plain_trees c.args.exprs)) in
    let rest = into_iter_items c.next.new.self in
    let added = grows_then _ _ _ before.grows node.grows in
    let here = chain_next c.args.chaining.operator (length c.args.arena.now) c.args.pruning.keep c.args.pruning.write _ c.add_nodes.new.arena all _ rest c.in-Some.expr c.loop-expr.so_far before.so_far c.in-Some.ensures.steps.0 node.grows in
    let operand = tree_grown _ (length c.args.arena.now) _ _ (length-grown _ _ before.grows) (nothing_added c.add_nodes.new.arena) c.in_ok-node.node.0 _ node.denotes in
    record {
      can = tt;
      finite = tt;
      plain = (subst (AllByRecursion (λ e. is_plain (tree_of e) ≡ true)) c.in-Some.ensures.steps.0 before.plain).1;
      grows = grows_then _ _ _ added top.grows;
      left = omega (arith, before.left, c.in-Some.ensures.steps.1, ap length c.in-Some.ensures.steps.0);
      so_far = top.ok (length c.args.arena.now) all (all_pruned c.args.pruning.keep c.args.pruning.write (children_from (map plain_tree rest))) (pruned c.args.pruning.keep c.args.pruning.write (plain_tree c.in-Some.expr)) (length-grown _ _ added) here operand;
    }

nothing_left : {X : Type 0} (items : List X) → length items ≡ 0 → items ≡ []
nothing_left [] none = refl
nothing_left (item ∷ items) none = cc

pub add_chained-returns-clause-denotes : goal.add_chained-returns-clause-denotes
add_chained-returns-clause-denotes t c =
    let before = c.loop-expr.invariant in
    let operator = c.args.chaining.operator in
    let first = length c.args.arena.now in
    let all = all_pruned c.args.pruning.keep c.args.pruning.write (children_from (plain_trees c.args.exprs)) in
    let none : into_iter_items c.loop-expr.expr-iterator ≡ [] = nothing_left _ (sym before.left ∙ c.in-None.ensures.steps.0) in
    let whole = chain_end operator first c.args.pruning.keep c.args.pruning.write _ all _ c.loop-expr.so_far before.so_far none in
    let count = pruned_counted c.args.pruning.keep c.args.pruning.write c.args.exprs ∙ sym (ap length c.as_slice-count.ensures.value) in
    c.in_ok-node-2.ensures.ok first all (length-grown _ _ before.grows) whole count
