use Rattle.std.proofs.Common.{[], inl, inr, refl, false, ⊎_elim}
use Rattle.plan_types.specs.Errors.{IsRefusal}
use Rattle.plan_types.proofs.ResultLemmas.{passed_on}
use Rattle.plan_dsl.specs.Literals.{literal_op, literal_type, literal_value}
use Rattle.plan_dsl.specs.Typing.{typing_rule}
use Rattle.plan_infer.specs.declared.type_table.Inferred.{Inferred}
use Rattle.plan_infer.specs.KeptTypes.{IsRuled, by_itself}
use Rattle.plan_infer.proofs.TypingLemmas.{literal_refused, literal_ruled}
use Rattle.plan_infer.proofs.TableLemmas.{over_kept, own_refused, right_kept}
use Rattle.plan_infer.proofs.typing.type_literal.Goals as goal

pub returns-in_err-dtype-clause-err : goal.returns-in_err-dtype-clause-err
returns-in_err-dtype-clause-err g c =
    let error = c.in_err-dtype.field-0.0 in
    let value = c.args.value.now in
    let op = literal_op value in
    let types = c.args.types.now in
    passed_on c.from_residual.result error _ c.from_residual.ensures.1 (λ registry schema right. own_refused registry schema c.args.arena.now types right error c.args.node.0 op [] c.requires.held tt (over_kept (λ typed. IsRefusal (typing_rule registry schema op typed) error) types [] [] refl (literal_refused registry schema (literal_type value) (literal_value value) error c.in_err-dtype.ensures.err)))

pub returns-clause-right : goal.returns-clause-right
returns-clause-right g c = λ registry schema right.
    let value = c.args.value.now in
    let op = literal_op value in
    let types = c.args.types.now in
    let own : Inferred = record { name = c.args.node; dtype = c.in_ok-dtype.dtype; many = false; operands = c.none.result } in
    let ruled = literal_ruled registry schema (literal_type value) (literal_value value) own c.in_ok-dtype.ensures.ok refl c.none.ensures in
    right_kept registry schema c.args.arena.now types c.add.new.self c.args.node.0 op [] own c.requires.held c.requires.tree tt (over_kept (λ typed. IsRuled registry schema op typed own) types [] [] refl ruled) (by_itself refl (λ names over. refl)) c.add.ensures.stays c.add.ensures.only right

pub returns-clause-only : goal.returns-clause-only
returns-clause-only g c = λ n kept. ⊎_elim
    (λ before. inl (record { own = kept.own; keeps = before }))
    (λ here. inr here.0)
    (c.add.ensures.only n kept.own kept.keeps)
