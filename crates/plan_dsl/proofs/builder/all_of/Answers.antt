use Rattle.std.proofs.Common.{refl}
use Rattle.plan_dsl.specs.declared.function_expr.FunctionExpr.TheVariants.{AllHorizontal}
use Rattle.plan_dsl.proofs.ExprLemmas.{function_listed}
use Rattle.plan_dsl.proofs.builder.all_of.Goals as goal

pub returns : goal.returns
returns c = (function_listed _ (record { items = c.args.tests }) AllHorizontal refl).is
