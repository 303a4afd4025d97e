use Rattle.std.proofs.Common.{[], ◌∷◌, map, ap, ◌∙◌, inl}
use Rattle.plan_types.specs.Types.{ty}
use Rattle.plan_infer.specs.declared.type_table.Inferred.{Inferred}
use Rattle.plan_infer.specs.KeptTypes.{typed_of}
use Rattle.plan_infer.proofs.TypingLemmas.{pair_says}
use Rattle.plan_infer.proofs.taken.widened.Goals as goal

pub returns-clause-ok : goal.returns-clause-ok
returns-clause-ok c =
    let common = ty c.args.common in
    let own : Inferred = record { name = c.args.left.now.name; dtype = c.args.common; many = c.either_many.result; operands = c.both.result } in
    let listed = ap (map ty) c.both.ensures ∙ ap (λ type. type ∷ type ∷ []) c.in_ok-operand.ensures.ok in
    pair_says (typed_of c.args.left.now) (typed_of c.args.right.now) own common common c.either_many.ensures (inl listed)
