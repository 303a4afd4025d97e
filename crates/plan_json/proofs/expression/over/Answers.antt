use Rattle.plan_json.proofs.Names.{[], ap, ◌∙◌, ◌∷◌}
use Rattle.plan_json.specs.Forms.{expression_says}
use Rattle.plan_dsl.specs.declared.window.WindowType.TheVariants.{GroupsToRows}
use Rattle.plan_json.specs.declared.forms.ExpressionKey.TheVariants as of
use Rattle.plan_json.proofs.FormLemmas.{over_said}
use Rattle.plan_json.proofs.expression.over.Goals as goal

pub returns : goal.returns
returns c =
    ap (expression_says of.Over) (c.three-function.ensures.all ∙ (λ i. c.expression.ensures i ∷ c.expressions.ensures i ∷ c.order.ensures i ∷ []))
    ∙ over_said c.expression.result c.expressions.result c.order.result GroupsToRows
