use Rattle.std.proofs.Common.{◌≡◌, inr, true, false, is_some, sym, ap, ◌∙◌, subst}
use Rattle.plan_types.specs.Schemas.{columns, type_at, with_column}
use Rattle.plan_arena.specs.Items.{named_node}
use Rattle.plan_lower.proofs.ProjectionLemmas.{column_added}
use Rattle.plan_lower.proofs.conversion.projection.put_new.Goals as goal

pub returns-clause-ok : goal.returns-clause-ok
returns-clause-ok c =
    let before = c.in_ok-before.ensures in
    let absent = sym before.before ∙ c.if-before.false in
    let named = c.in_ok-name.ensures.ok ∙ c.output_name.ensures in
    column_added (columns c.args.output.now) (columns c.put.new.self) _ _ (named_node c.args.expr.now).label.name _ absent named named (before.ok ∙ ap (with_column (columns c.args.output.now) _) c.in_ok-dtype.ensures.ok)

pub returns-clause-new : goal.returns-clause-new
returns-clause-new c =
    let absent = sym c.in_ok-before.ensures.before ∙ c.if-before.false in
    subst (λ name. is_some (type_at (columns c.args.output.now) name) ≡ false) (c.in_ok-name.ensures.ok ∙ c.output_name.ensures) absent

pub returns-then-before-clause-err : goal.returns-then-before-clause-err
returns-then-before-clause-err c =
    let there = sym c.in_ok-before.ensures.before ∙ c.if-before.true in
    inr (c.at_top.ensures, subst (λ name. is_some (type_at (columns c.args.output.now) name) ≡ true) (c.in_ok-name.ensures.ok ∙ c.output_name.ensures) there)
