use Rattle.std.proofs.Common.{◌≡◌, true, map, drop}
use Rattle.std.specs.List.{list_all}
use Rattle.plan_types.specs.Schemas.{columns}
use Rattle.plan_dsl.specs.Expansion.{as_expression, with_column_put}
use Rattle.plan_dsl.specs.Expressions.{plain_tree, tree_of}
use Rattle.plan_dsl.specs.Refusals.{each_ok}
use Rattle.plan_dsl.specs.Sources.{is_plain}
use Rattle.plan_expand.proofs.EachLemmas.{behind}
use Rattle.plan_expand.proofs.expr_expansion.repeated.Given as goal

abbrev pub invariant-loop-name : goal.invariant-loop-name
invariant-loop-name l = record {
  so_far : each_ok (as_expression (columns l.schema)) (map (λ name. with_column_put name (tree_of l.expr)) l.names) ≡ behind (map plain_tree l.repeated.items) (each_ok (as_expression (columns l.schema)) (map (λ name. with_column_put name (tree_of l.expr)) (drop l.name-index l.names)));
  plain : list_all is_plain (map tree_of l.repeated.items) ≡ true;
}
