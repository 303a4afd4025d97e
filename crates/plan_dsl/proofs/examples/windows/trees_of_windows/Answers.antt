use Rattle.std.proofs.Common.{refl, Some, None}
use Rattle.plan_dsl.specs.declared.expr.Expr.{Window}
use Rattle.plan_dsl.proofs.ExprLemmas.{window_listed}
use Rattle.plan_dsl.proofs.examples.windows.trees_of_windows.Goals as goal

pub returns-clause-unordered : goal.returns-clause-unordered
returns-clause-unordered c = λ function keys options. (window_listed (Window function keys None options) function keys None options refl).is

pub returns-clause-ordered : goal.returns-clause-ordered
returns-clause-ordered c = λ function order way keys options. (window_listed (Window function keys (Some (order, way)) options) function keys (Some (order, way)) options refl).is
