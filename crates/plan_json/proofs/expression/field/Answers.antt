use Rattle.plan_json.proofs.Names.{[], Some, ap, sym, ◌∙◌, ◌∷◌}
use Rattle.plan_json.specs.Forms.{expression_says}
use Rattle.plan_json.specs.declared.forms.ExpressionKey.TheVariants as of
use Rattle.plan_json.proofs.expression.field.Goals as goal

pub returns-clause-ok : goal.returns-clause-ok
returns-clause-ok c =
    ap (expression_says of.Field) (c.two-input.ensures.all ∙ (λ i. c.expression.ensures i ∷ c.name.ensures i ∷ []))
    ∙ ap (λ tree. Some tree) (sym c.in_ok-expr.ensures.ok)
