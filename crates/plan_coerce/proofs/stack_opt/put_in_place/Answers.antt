use Rattle.std.proofs.Common.{◌∙◌, sym, subst, inl, inr}
use Rattle.std.proofs.lemmas.Bool.{false≢true}
use Rattle.plan_infer.specs.KeptTypes.{IsRight}
use Rattle.plan_infer.proofs.TableLemmas.{right_start}
use Rattle.plan_coerce.specs.Rules.{KeepsNone, KeepsNumber}
use Rattle.plan_coerce.proofs.stack_opt.put_in_place.Goals.{then-keeps_number, else-keeps_number}
use Rattle.plan_coerce.proofs.stack_opt.put_in_place.Goals as goal

pub returns-clause-right : goal.returns-clause-right
returns-clause-right c = λ registry schema right.
    let now = subst (λ l. ¬ (KeepsNumber c.args.types.now c.args.node.0) → IsRight registry schema l c.args.types.now) (sym c.replace.ensures.items) right in
    elim c.if-keeps_number.branch [
      | then-keeps_number w ↦ subst (IsRight registry schema c.replace.new.self) (sym w.types-is) (right_start registry schema c.replace.new.self w.clear.new.self w.clear.ensures)
      | else-keeps_number w ↦ subst (IsRight registry schema c.replace.new.self) (sym w.types-is) (now (λ k. false≢true (sym w.if-keeps_number.false ∙ c.keeps_number.ensures.1 k)))
    ]

pub returns-clause-kept : goal.returns-clause-kept
returns-clause-kept c = elim c.if-keeps_number.branch [
  | then-keeps_number w ↦ inr (c.keeps_number.ensures.0 w.if-keeps_number.true, subst KeepsNone (sym w.types-is) w.clear.ensures)
  | else-keeps_number w ↦ inl w.types-is
]
