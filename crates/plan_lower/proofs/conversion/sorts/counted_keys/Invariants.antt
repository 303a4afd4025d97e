use Rattle.std.proofs.Common.{◌≡◌, ◌++◌, [], true, Ok, map}
use Rattle.std.specs.List.{list_all}
use Rattle.std.specs.Vec.Iter.{into_iter_items}
use Rattle.plan_types.specs.Schemas.{columns}
use Rattle.plan_dsl.specs.Expansion.{expansions}
use Rattle.plan_dsl.specs.Expressions.{plain_tree, tree_of}
use Rattle.plan_dsl.specs.Refusals.{joined}
use Rattle.plan_dsl.specs.Sources.{is_plain}
use Rattle.plan_dsl.specs.SortFlags.{key_counts}
use Rattle.plan_lower.proofs.conversion.sorts.counted_keys.Given as goal

abbrev pub invariant-loop-expr : goal.invariant-loop-expr
invariant-loop-expr l = record {
  can : (goal.iterator-loop-expr).can_next l.expr-iterator;
  finite : (goal.iterator-loop-expr).is_finite l.expr-iterator;
  so_far : expansions [] (columns l.schema) (map tree_of l.fn.by.items.items) ≡ joined (Ok (map plain_tree l.keys.items)) (expansions [] (columns l.schema) (map tree_of (into_iter_items l.expr-iterator)));
  plain : list_all is_plain (map tree_of l.keys.items) ≡ true;
  counts : key_counts (columns l.schema) (map tree_of l.fn.by.items.items) ≡ l.counts.items ++ key_counts (columns l.schema) (map tree_of (into_iter_items l.expr-iterator));
}
