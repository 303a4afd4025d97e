use Rattle.std.proofs.Common.{◌≡◌, map, drop}
use Rattle.std.specs.List.{list_all}
use Rattle.plan_dsl.specs.Expressions.{tree_of}
use Rattle.plan_dsl.specs.Sources.{is_plain}
use Rattle.plan_expand.proofs.expr_expansion.are_plain.Given as goal

abbrev pub invariant-loop-expr : goal.invariant-loop-expr
invariant-loop-expr l = list_all is_plain (map tree_of l.exprs) ≡ list_all is_plain (map tree_of (drop l.expr-index l.exprs))
