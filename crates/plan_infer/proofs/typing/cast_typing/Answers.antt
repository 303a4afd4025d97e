use Rattle.std.proofs.Common.{arith, refl, sym, ap, ◌∙◌, subst, ◌∷◌, [], ◌++◌, map}
use Rattle.plan_types.proofs.ResultLemmas.{passed_on}
use Rattle.plan_types.specs.Errors.{IsRefusal}
use Rattle.plan_types.specs.Types.{ty}
use Rattle.plan_dsl.specs.Ops.{CastOp}
use Rattle.plan_dsl.specs.Typing.{types_of, typing_rule}
use Rattle.plan_arena.specs.Items.{numbers}
use Rattle.plan_infer.specs.declared.type_table.Inferred.{Inferred}
use Rattle.plan_infer.specs.KeptTypes.{AreOperands, IsKept, IsRuled, typed_of, typings_at}
use Rattle.plan_infer.proofs.TableLemmas.{all_at}
use Rattle.plan_infer.proofs.TypingLemmas.{cast_alone, cast_ruled, no_cast}
use Rattle.plan_infer.proofs.SignedLemmas.{one_typing}
use Rattle.plan_infer.proofs.typing.cast_typing.Goals as goal

pub get-from-requires : goal.get-from-requires
get-from-requires c = all_at (IsKept c.args.types.now) c.args.inputs.now 0 (record { 0 = 0 }) c.requires.inputs (omega (arith, c.requires.one))

pub returns-in_err-own-clause-err : goal.returns-in_err-own-clause-err
returns-in_err-own-clause-err c =
    let error = c.in_err-own.field-0.0 in
    let from = c.get-from.result.now in
    let typed = one_typing c.args.types.now c.args.inputs.now (record { 0 = 0 }) from c.requires.one c.get-from.ensures in
    passed_on c.from_residual.result error _ c.from_residual.ensures.1 (λ registry schema options. subst (λ ts. IsRefusal (typing_rule registry schema (CastOp (ty c.args.target.now) options) ts) error) (sym typed) (cast_alone registry schema (ty c.args.target.now) options (typed_of from) error c.in_err-own.ensures.err))

pub returns-then-not-can_cast-clause-err : goal.returns-then-not-can_cast-clause-err
returns-then-not-can_cast-clause-err c = λ registry schema options.
    let from = c.get-from.result.now in
    let typed = one_typing c.args.types.now c.args.inputs.now (record { 0 = 0 }) from c.requires.one c.get-from.ensures in
    subst (λ ts. IsRefusal (typing_rule registry schema (CastOp (ty c.args.target.now) options) ts) c.at_top.result) (sym typed) (no_cast registry schema (ty c.args.target.now) options (typed_of from) (ty c.in_ok-own.own) c.at_top.result c.in_ok-own.ensures.ok (sym c.can_cast.ensures ∙ c.if-not-can_cast.true) c.at_top.ensures)

pub returns-clause-ok : goal.returns-clause-ok
returns-clause-ok c = λ registry schema options.
    let from = c.get-from.result.now in
    let target = ty c.args.target.now in
    let own : Inferred = record { name = from.name; dtype = c.in_ok-dtype.dtype; many = from.many; operands = c.unless_own.result } in
    let typed = one_typing c.args.types.now c.args.inputs.now (record { 0 = 0 }) from c.requires.one c.get-from.ensures in
    let targets = c.in_ok-push.ensures.items ∙ ap (λ ts. ts ++ c.in_ok-own.own ∷ []) c.new-targets.ensures.items in
    let operands = subst (λ ts. AreOperands (map ty c.unless_own.result) (types_of ts) (ty c.in_ok-own.own ∷ [])) typed (subst (λ ts. AreOperands (map ty c.unless_own.result) (types_of (typings_at c.args.types.now (numbers c.args.inputs.now))) (map ty ts)) targets c.unless_own.ensures) in
    subst (λ ts. IsRuled registry schema (CastOp target options) ts own) (sym typed) (cast_ruled registry schema target options (typed_of from) (ty c.in_ok-own.own) own c.in_ok-own.ensures.ok (sym c.can_cast.ensures ∙ c.if-not-can_cast.false) c.in_ok-dtype.ensures.ok refl operands)
