use Rattle.std.proofs.Common.{map, refl, sym, ap, subst, arith, inr}
use Rattle.plan_types.specs.Types.{ty}
use Rattle.plan_dsl.specs.Ops.{AliasOp}
use Rattle.plan_dsl.specs.Typing.{aliased}
use Rattle.plan_infer.specs.declared.type_table.Inferred.{Inferred}
use Rattle.plan_infer.specs.KeptTypes.{IsKept, IsRuled, typed_of}
use Rattle.plan_infer.proofs.TableLemmas.{all_at}
use Rattle.plan_infer.proofs.SignedLemmas.{one_typing}
use Rattle.plan_infer.proofs.typing.alias_typing.Goals as goal

pub get-from-requires : goal.get-from-requires
get-from-requires c = all_at (IsKept c.args.types.now) c.args.inputs.now 0 (record { 0 = 0 }) c.requires.inputs (omega (arith, c.requires.one))

pub returns-clause-ok : goal.returns-clause-ok
returns-clause-ok c = λ registry schema name.
    let from = c.get-from.result.now in
    let own : Inferred = record { name = c.args.node; dtype = c.in_ok-dtype.dtype; many = from.many; operands = c.none.result } in
    let typed = one_typing c.args.types.now c.args.inputs.now (record { 0 = 0 }) from c.requires.one c.get-from.ensures in
    let same = c.in_ok-dtype.ensures.ok in
    subst (λ ts. IsRuled registry schema (AliasOp name) ts own) (sym typed) (record { ruling = aliased (typed_of from); rules = refl; is = λ i. record { type = sym same i; many = from.many }; operands = inr (ap (map ty) c.none.ensures, refl) })
