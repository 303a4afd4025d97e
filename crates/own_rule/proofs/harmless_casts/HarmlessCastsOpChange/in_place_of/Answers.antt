use Rattle.std.proofs.Common.{refl, sym, ap, subst, ◌∙◌, [], ◌∷◌, Ok}
use Rattle.std.specs.List.{AllByRecursion}
use Rattle.std.proofs.lemmas.Bool.{not-false, not-true}
use Rattle.plan_types.specs.Types.{ty}
use Rattle.plan_types.specs.declared.dtype.CastOptions.TheVariants.{Strict, NonStrict}
use Rattle.plan_dsl.specs.Ops.{CastOp}
use Rattle.plan_arena.specs.declared.aexpr.AExpr.TheVariants.{Cast}
use Rattle.plan_arena.specs.Items.{expression_layer}
use Rattle.plan_arena.specs.Layers.{inputs_of, layer, op_of}
use Rattle.plan_infer.specs.KeptTypes.{IsKept, typed_of}
use Rattle.own_rule.specs.HarmlessCasts.{is_needless, relaxed_op}
use Rattle.own_rule.proofs.CastLemmas.{cast_changed, no_cast}
use Rattle.own_rule.proofs.ChangedOpLemmas.{changes_so, stays_so}
use Rattle.own_rule.proofs.harmless_casts.HarmlessCastsOpChange.in_place_of.Goals as goal

pub get-requires : goal.get-requires
get-requires c = (subst (λ l. AllByRecursion (IsKept c.args.types.now) (inputs_of l)) c.in-Some.ensures c.requires).0

pub returns-in_default-clause-ok : goal.returns-in_default-clause-ok
returns-in_default-clause-ok c = λ typed kept. no_cast (op_of (expression_layer c.args.item.now)) (Ok typed) c.in_default.ensures

pub returns-then-ne-clause-ok : goal.returns-then-ne-clause-ok
returns-then-ne-clause-ok c =
    let target = ty c.in-Some.dtype.now in
    let input = c.in-Some.input.0 in
    let own = c.get.result.now in
    stays_so is_needless relaxed_op c.args.types.now c.args.item.now (CastOp target Strict) (input ∷ []) (typed_of own ∷ []) c.in-Some.ensures (record { own = own; keeps = c.get.ensures; is = refl }, tt)
    (not-true _ (sym c.ne.ensures ∙ c.if-ne.true))

pub returns-clause-ok : goal.returns-clause-ok
returns-clause-ok c =
    let target = ty c.in-Some.dtype.now in
    let input = c.in-Some.input.0 in
    let own = c.get.result.now in
    changes_so is_needless relaxed_op c.args.types.now c.args.item.now (CastOp target Strict) (input ∷ []) (typed_of own ∷ []) c.in-Some.ensures (record { own = own; keeps = c.get.ensures; is = refl }, tt)
    (CastOp target NonStrict) (Cast c.in-Some.input c.in_ok-try_clone.field-0 NonStrict) (ap (λ t. layer (CastOp t NonStrict) (input ∷ [])) c.in_ok-try_clone.ensures.ok)
    (cast_changed target (typed_of own) (not-false _ (sym c.ne.ensures ∙ c.if-ne.false)))
