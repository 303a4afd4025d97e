use Rattle.plan_json.proofs.Names.{[], ap, ◌∙◌, ◌∷◌}
use Rattle.plan_json.specs.Forms.{expression_says}
use Rattle.plan_json.specs.declared.forms.ExpressionKey.TheVariants as of
use Rattle.plan_json.proofs.FormLemmas.{sort_by_said}
use Rattle.plan_json.proofs.expression.sort_by.Goals as goal

pub returns : goal.returns
returns c =
    ap (expression_says of.SortBy) (c.four-input.ensures.all ∙ (λ i. c.expression.ensures i ∷ c.expressions.ensures i ∷ c.flags.ensures i ∷ c.flags-2.ensures i ∷ []))
    ∙ sort_by_said c.expression.result c.expressions.result (record { descending = c.flags.result; nulls_last = c.flags-2.result })
