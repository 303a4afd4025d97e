use Rattle.std.proofs.Common.{◌≡◌, ◌++◌, length, map, true, false}
use Rattle.std.specs.List.{AllByRecursion}
use Rattle.std.specs.Vec.Iter.{into_iter_items, into_iter_len}
use Rattle.plan_dsl.specs.Aliases.{all_pruned}
use Rattle.plan_dsl.specs.Trees.{children_from}
use Rattle.plan_dsl.specs.Expressions.{plain_tree, plain_trees, tree_of}
use Rattle.plan_dsl.specs.Names.{label_of}
use Rattle.plan_dsl.specs.Sources.{is_plain}
use Rattle.plan_arena.specs.Items.{Grows, numbers, numbers_named, recorded}
use Rattle.plan_lower.specs.Horizontals.{InChain}
use Rattle.plan_lower.proofs.NodeLemmas.{Adding}
use Rattle.plan_lower.proofs.conversion.expr_to_ir.+nodes.Given as goal

abbrev pub invariant-add_each-loop-expr : goal.invariant-add_each-loop-expr
invariant-add_each-loop-expr l = record {
  can : (goal.iterator-add_each-loop-expr).can_next l.expr-iterator;
  finite : (goal.iterator-add_each-loop-expr).is_finite l.expr-iterator;
  plain : AllByRecursion (λ e. is_plain (tree_of e) ≡ true) (into_iter_items l.expr-iterator);
  grows : Grows l.initial.arena l.arena;
  so_far : Adding (length l.initial.arena) l.pruning.keep l.pruning.write l.arena (plain_trees l.fn.exprs) (map plain_tree (into_iter_items l.expr-iterator)) (numbers l.items.items);
}

abbrev pub invariant-add_recorded-loop-expr : goal.invariant-add_recorded-loop-expr
invariant-add_recorded-loop-expr l = record {
  can : (goal.iterator-add_recorded-loop-expr).can_next l.expr-iterator;
  finite : (goal.iterator-add_recorded-loop-expr).is_finite l.expr-iterator;
  plain : AllByRecursion (λ e. is_plain (tree_of e) ≡ true) (into_iter_items l.expr-iterator);
  grows : Grows l.initial.arena l.arena;
  names : recorded l.items.items ++ map label_of (map plain_tree (into_iter_items l.expr-iterator)) ≡ map label_of (plain_trees l.fn.exprs);
  so_far : Adding (length l.initial.arena) false l.write l.arena (plain_trees l.fn.exprs) (map plain_tree (into_iter_items l.expr-iterator)) (numbers_named l.items.items);
}

abbrev pub invariant-add_chained-loop-expr : goal.invariant-add_chained-loop-expr
invariant-add_chained-loop-expr l = record {
  can : (goal.iterator-add_chained-loop-expr).can_next l.expr-iterator;
  finite : (goal.iterator-add_chained-loop-expr).is_finite l.expr-iterator;
  plain : AllByRecursion (λ e. is_plain (tree_of e) ≡ true) (into_iter_items l.expr-iterator);
  grows : Grows l.initial.arena l.arena;
  left : into_iter_len l.expr-iterator ≡ length (into_iter_items l.expr-iterator);
  so_far : InChain l.chaining.operator (length l.initial.arena) l.arena (all_pruned l.pruning.keep l.pruning.write (children_from (plain_trees l.fn.exprs))) (all_pruned l.pruning.keep l.pruning.write (children_from (map plain_tree (into_iter_items l.expr-iterator)))) l.so_far;
}
