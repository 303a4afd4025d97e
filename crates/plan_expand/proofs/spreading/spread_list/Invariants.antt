use Rattle.std.proofs.Common.{◌≡◌, true, map}
use Rattle.std.specs.List.{list_all}
use Rattle.std.specs.Vec.Iter.{into_iter_items}
use Rattle.plan_types.specs.Schemas.{columns}
use Rattle.plan_dsl.specs.Expansion.{spread}
use Rattle.plan_dsl.specs.Expressions.{plain_tree, tree_of}
use Rattle.plan_dsl.specs.Sources.{is_plain}
use Rattle.plan_dsl.specs.Trees.{children_from}
use Rattle.plan_expand.proofs.EachLemmas.{behind}
use Rattle.plan_expand.proofs.spreading.spread_list.Given as goal

abbrev pub invariant-loop-input : goal.invariant-loop-input
invariant-loop-input l = record {
  can : (goal.iterator-loop-input).can_next l.input-iterator;
  finite : (goal.iterator-loop-input).is_finite l.input-iterator;
  so_far : spread l.keys.keys (columns l.schema) (children_from (map tree_of l.fn.inputs.items)) ≡ behind (map plain_tree l.expanded.items) (spread l.keys.keys (columns l.schema) (children_from (map tree_of (into_iter_items l.input-iterator))));
  plain : list_all is_plain (map tree_of l.expanded.items) ≡ true;
}
