use Rattle.std.proofs.Common.{◌≡◌, length, map, true}
use Rattle.std.specs.List.{AllByRecursion}
use Rattle.std.specs.Vec.Iter.{into_iter_items}
use Rattle.plan_types.specs.Schemas.{columns}
use Rattle.plan_dsl.specs.Expressions.{plain_tree, plain_trees, tree_of}
use Rattle.plan_dsl.specs.Sources.{is_plain}
use Rattle.plan_dsl.specs.Registry.{registry}
use Rattle.plan_arena.specs.Items.{named_node, Grows}
use Rattle.plan_infer.specs.KeptTypes.{Extends, IsKept, IsRight}
use Rattle.plan_lower.proofs.ProjectionLemmas.{Projecting}
use Rattle.plan_lower.proofs.conversion.projection.project.Given as goal

abbrev pub invariant-loop-expr : goal.invariant-loop-expr
invariant-loop-expr l = record {
  can : (goal.iterator-loop-expr).can_next l.expr-iterator;
  finite : (goal.iterator-loop-expr).is_finite l.expr-iterator;
  plain : AllByRecursion (λ e. is_plain (tree_of e) ≡ true) (into_iter_items l.expr-iterator);
  grows : Grows l.initial.arena l.arena;
  extends : Extends l.initial.types l.types;
  right : IsRight (registry l.udfs) (columns l.schema) l.arena l.types;
  kept : AllByRecursion (IsKept l.types) (map (λ e. (named_node e).expression) l.items.items);
  so_far : Projecting (registry l.udfs) (columns l.schema) l.fn.asked (length l.initial.arena) l.arena (plain_trees l.fn.exprs) (map plain_tree (into_iter_items l.expr-iterator)) (map named_node l.items.items) (columns l.output);
}
