use Rattle.plan_json.proofs.Names.{[], ap, ◌∙◌, ◌∷◌}
use Rattle.plan_json.specs.Forms.{expression_says}
use Rattle.plan_json.specs.declared.forms.ExpressionKey.TheVariants as of
use Rattle.plan_json.proofs.FormLemmas.{function_said}
use Rattle.plan_json.proofs.expression.apply.Goals as goal

pub returns : goal.returns
returns c =
    ap (expression_says of.Fn) (c.two-applied.ensures.all ∙ (λ i. c.function.ensures i ∷ c.expressions.ensures i ∷ []))
    ∙ function_said c.expressions.result c.function.result
