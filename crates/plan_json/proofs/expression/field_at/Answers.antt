use Rattle.std.proofs.Common.{FitsSigned, rules, w64}
use Rattle.std.proofs.lemmas.Int.{to_z-of_z}
use Rattle.plan_json.proofs.Names.{[], Some, ap, sym, ◌∙◌, ◌∷◌}
use Rattle.plan_json.specs.Forms.{expression_says, index_read}
use Rattle.plan_json.specs.declared.forms.ExpressionKey.TheVariants as of
use Rattle.plan_json.proofs.expression.field_at.Goals as goal

-- the place is held as a word, and read back
pub returns-clause-ok : goal.returns-clause-ok
returns-clause-ok c =
    let fits : FitsSigned w64 c.index.result = search rules in
    let place = c.index.ensures ∙ ap index_read (sym (to_z-of_z w64 c.index.result fits)) in
    ap (expression_says of.FieldAt) (c.two-input.ensures.all ∙ (λ i. c.expression.ensures i ∷ place i ∷ []))
    ∙ ap (λ tree. Some tree) (sym c.in_ok-expr.ensures.ok)
