use Rattle.std.proofs.Common.{[], ◌∷◌, refl, inl, inr, ⊎_elim}
use Rattle.std.specs.List.{AllByRecursion}
use Rattle.plan_types.proofs.ResultLemmas.{passed_on}
use Rattle.plan_types.specs.Errors.{IsRefusal}
use Rattle.plan_dsl.specs.Ops.{BinaryOp}
use Rattle.plan_dsl.specs.Typing.{typing_rule}
use Rattle.plan_infer.specs.KeptTypes.{IsKept, IsRuled}
use Rattle.plan_infer.proofs.SignedLemmas.{named_over}
use Rattle.plan_infer.proofs.TableLemmas.{over_kept, own_refused, right_kept}
use Rattle.plan_infer.proofs.typing.type_operator.Goals as goal

pub binary_typing-requires-clause-inputs : goal.binary_typing-requires-clause-inputs
binary_typing-requires-clause-inputs g c = (c.requires.inputs.0, (c.requires.inputs.1, tt))

pub returns-in_err-own-clause-err : goal.returns-in_err-own-clause-err
returns-in_err-own-clause-err g c =
    let error = c.in_err-own.field-0.0 in
    let types = c.args.types.now in
    let op = BinaryOp c.args.op in
    let ns = c.args.left.0 ∷ c.args.right.0 ∷ [] in
    passed_on c.from_residual.result error _ c.from_residual.ensures.1 (λ registry schema right. own_refused registry schema c.args.arena.now types right error c.args.node.0 op ns c.requires.held (c.requires.inputs.0, (c.requires.inputs.1, tt)) (over_kept (λ typed. IsRefusal (typing_rule registry schema op typed) error) types ns ns refl (c.in_err-own.ensures.err registry schema)))

pub returns-clause-right : goal.returns-clause-right
returns-clause-right g c = λ registry schema right.
    let op = BinaryOp c.args.op in
    let types = c.args.types.now in
    let own = c.in_ok-own.own in
    let ns = c.args.left.0 ∷ c.args.right.0 ∷ [] in
    let known : AllByRecursion (IsKept types) ns = (c.requires.inputs.0, (c.requires.inputs.1, tt)) in
    let ruled = over_kept (λ typed. IsRuled registry schema op typed own) types ns ns refl (c.in_ok-own.ensures.ok registry schema) in
    let named = named_over types op c.args.node.0 0 c.args.left.0 (c.args.right.0 ∷ []) ns own.name.0 refl known c.in_ok-own.ensures.name (λ names. refl) in
    right_kept registry schema c.args.arena.now types c.add.new.self c.args.node.0 op ns own c.requires.held c.requires.tree known ruled named c.add.ensures.stays c.add.ensures.only right

pub returns-clause-only : goal.returns-clause-only
returns-clause-only g c = λ n kept. ⊎_elim
    (λ before. inl (record { own = kept.own; keeps = before }))
    (λ here. inr here.0)
    (c.add.ensures.only n kept.own kept.keeps)
