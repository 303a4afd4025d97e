use Rattle.std.proofs.Common.{refl}
use Rattle.plan_dsl.specs.declared.expr.Expr.{SortBy}
use Rattle.plan_dsl.proofs.ExprLemmas.{sort_by_listed}
use Rattle.plan_dsl.proofs.examples.sorts.trees_of_sorts_by_keys.Goals as goal

pub returns-clause-tree : goal.returns-clause-tree
returns-clause-tree c = λ expr by options. (sort_by_listed (SortBy expr by options) expr by options refl).is
