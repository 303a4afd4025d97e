use Rattle.std.proofs.Common.{◌≡◌, ◌++◌, map}
use Rattle.std.specs.Vec.Iter.{into_iter_items}
use Rattle.plan_dsl.specs.Expressions.{tree_of}
use Rattle.plan_dsl.specs.Plans.{is_known_value}
use Rattle.plan_dsl.proofs.builder.each_not_null.Given as goal

abbrev pub invariant-loop-expr : goal.invariant-loop-expr
invariant-loop-expr l = record {
  can : (goal.iterator-loop-expr).can_next l.expr-iterator;
  finite : (goal.iterator-loop-expr).is_finite l.expr-iterator;
  so_far : map tree_of l.tests.items ++ map is_known_value (map tree_of (into_iter_items l.expr-iterator)) ≡ map is_known_value (map tree_of l.fn.exprs.items);
}
