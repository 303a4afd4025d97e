use Rattle.std.proofs.Common.{[], ◌≡◌, subst}
use Rattle.std.proofs.lemmas.Bool.{false≢true}
use Rattle.plan_infer.specs.declared.type_table.Inferred.{Inferred}
use Rattle.plan_infer.proofs.TableLemmas.{keeps_one}
use Rattle.plan_coerce.proofs.cast_inlining.keeps_strict.Goals as goal

pub returns-in-None : goal.returns-in-None
returns-in-None c = (λ told. absurd (false≢true told), λ strict. absurd (c.in-None.ensures (record { own = strict.own; keeps = strict.keeps })))

pub returns-in-Some : goal.returns-in-Some
returns-in-Some c =
    let own = c.in-Some.own.now in
    let types = c.args.types.now in
    let n = c.args.node.0 in (
      λ told. record { own = own; keeps = c.in-Some.ensures; none = c.is_strict.ensures.0 told },
      λ strict. c.is_strict.ensures.1 (subst (λ (i : Inferred). i.operands ≡ []) (keeps_one types n strict.own own strict.keeps c.in-Some.ensures) strict.none),
    )
