use Rattle.std.proofs.Common.{◌≡◌, inl, inr, [], ◌∷◌, ◌++◌, IfErr, OnOk, sym, ap, ◌∙◌, subst, append-nil, ⊎_elim}
use Rattle.plan_types.specs.declared.error.ErrorKind.TheVariants.{InvalidOperation}
use Rattle.plan_types.specs.Schemas.{columns}
use Rattle.plan_dsl.specs.PlanRules.{kind_where}
use Rattle.plan_arena.specs.Items.{named_node}
use Rattle.plan_coerce.proofs.TurnLemmas.{on_ok}
use Rattle.plan_infer.specs.KeptTypes.{typed_of}
use Rattle.plan_lower.specs.Asked.{IsMemoryOrOne, asked_columns, asked_kinds}
use Rattle.plan_lower.specs.declared.conversion.asked.Asked.{Asked}
use Rattle.plan_lower.proofs.ProjectionLemmas.{refused_as}
use Rattle.plan_lower.proofs.conversion.projection.ask.Goals as goal

pub returns-in-NewName-clause-met : goal.returns-in-NewName-clause-met
returns-in-NewName-clause-met c =
    subst (λ (a : Asked). OnOk c.put_new.result (asked_kinds a (columns c.args.output.now) (named_node c.args.expr.now).label.name (typed_of c.args.own.now) ≡ [])) (sym c.in-NewName.is) (on_ok c.put_new.result c.put_new.ensures.new (ap (λ b. kind_where b c.in-NewName.twice)))

pub returns-in-NewName-clause-err : goal.returns-in-NewName-clause-err
returns-in-NewName-clause-err c =
    subst (λ (a : Asked). IfErr c.put_new.result (IsMemoryOrOne (asked_kinds a (columns c.args.output.now) (named_node c.args.expr.now).label.name (typed_of c.args.own.now)))) (sym c.in-NewName.is) (refused_as c.put_new.result _ _ (λ error. ⊎_elim (λ e. inl e) (λ b. inr (c.in-NewName.twice, b.0, ap (λ t. kind_where t c.in-NewName.twice) b.1))) c.put_new.ensures.err)

pub returns-in-TruthValue-clause-met : goal.returns-in-TruthValue-clause-met
returns-in-TruthValue-clause-met c =
    subst (λ (a : Asked). OnOk c.refused_where.result (asked_kinds a (columns c.args.output.now) (named_node c.args.expr.now).label.name (typed_of c.args.own.now) ≡ [])) (sym c.in-TruthValue.is) (on_ok c.refused_where.result c.refused_where.ensures.ok (λ e. ap (λ b. kind_where b InvalidOperation) (sym c.ne.ensures) ∙ e))

pub returns-in-TruthValue-clause-put : goal.returns-in-TruthValue-clause-put
returns-in-TruthValue-clause-put c =
    subst (λ (a : Asked). OnOk c.refused_where.result (columns c.args.output.now ≡ columns c.args.output.now ++ asked_columns a (((named_node c.args.expr.now).label.name, (typed_of c.args.own.now).type) ∷ []))) (sym c.in-TruthValue.is) (on_ok c.refused_where.result c.refused_where.ensures.ok (λ e. sym (append-nil (columns c.args.output.now))))

pub returns-in-TruthValue-clause-err : goal.returns-in-TruthValue-clause-err
returns-in-TruthValue-clause-err c =
    subst (λ (a : Asked). IfErr c.refused_where.result (IsMemoryOrOne (asked_kinds a (columns c.args.output.now) (named_node c.args.expr.now).label.name (typed_of c.args.own.now)))) (sym c.in-TruthValue.is) (refused_as c.refused_where.result _ _ (λ error h. inr (InvalidOperation, h.0, ap (λ b. kind_where b InvalidOperation) (sym c.ne.ensures) ∙ h.1)) c.refused_where.ensures.err)

pub returns-in-Order-clause-put : goal.returns-in-Order-clause-put
returns-in-Order-clause-put c =
    subst (λ (a : Asked). OnOk c.refused_where-in-Order.result (columns c.args.output.now ≡ columns c.args.output.now ++ asked_columns a (((named_node c.args.expr.now).label.name, (typed_of c.args.own.now).type) ∷ []))) (sym c.in-Order.is) (on_ok c.refused_where-in-Order.result c.refused_where-in-Order.ensures.ok (λ e. sym (append-nil (columns c.args.output.now))))
