use Rattle.std.proofs.Common.{◌≡◌, map, drop}
use Rattle.std.specs.List.{list_all}
use Rattle.plan_dsl.specs.Expressions.{tree_of}
use Rattle.plan_dsl.specs.Sources.{is_plain}
use Rattle.plan_dsl.proofs.expr.+plain_exprs.Given as goal

abbrev pub invariant-Exprs::are_plain-loop-expr : goal.invariant-Exprs::are_plain-loop-expr
invariant-Exprs::are_plain-loop-expr l = list_all is_plain (map tree_of l.expr-items) ≡ list_all is_plain (map tree_of (drop l.expr-index l.expr-items))
