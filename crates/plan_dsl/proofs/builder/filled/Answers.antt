use Rattle.std.proofs.Common.{[], ◌∷◌, map, ap, refl, ◌∙◌}
use Rattle.plan_dsl.specs.declared.function_expr.FunctionExpr.TheVariants.{FillNull}
use Rattle.plan_dsl.specs.Expressions.{tree_of}
use Rattle.plan_dsl.specs.Plans.{source_call}
use Rattle.plan_dsl.proofs.ExprLemmas.{function_listed}
use Rattle.plan_dsl.proofs.builder.filled.Goals as goal

pub returns-clause-ok : goal.returns-clause-ok
returns-clause-ok c =
    let filled = (function_listed _ (record { items = c.in_ok-input.input }) FillNull refl).is ∙ ap (λ items. source_call FillNull (map tree_of items)) c.in_ok-input.ensures.items in
    ap (map tree_of) c.in_ok-exprs.ensures.items ∙ ap (λ tree. tree ∷ []) filled
