use Rattle.std.proofs.Common.{map, ap, refl, ◌∙◌}
use Rattle.plan_dsl.specs.declared.function_expr.FunctionExpr.TheVariants.{IsNotNull}
use Rattle.plan_dsl.specs.Expressions.{tree_of}
use Rattle.plan_dsl.specs.Plans.{source_call}
use Rattle.plan_dsl.proofs.ExprLemmas.{function_listed}
use Rattle.plan_dsl.proofs.builder.not_null.Goals as goal

pub returns-clause-ok : goal.returns-clause-ok
returns-clause-ok c =
    (function_listed _ (record { items = c.in_ok-input.input }) IsNotNull refl).is ∙ ap (λ items. source_call IsNotNull (map tree_of items)) c.in_ok-input.ensures.items
