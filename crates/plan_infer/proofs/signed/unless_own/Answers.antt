use Rattle.std.proofs.Common.{◌≡◌, ◌+◌, ◌∷◌, length, inr, drop, map, sym, ap, ◌∙◌, arith}
use Rattle.std.proofs.lemmas.Bool.{not-false}
use Rattle.plan_types.proofs.ListLemmas.{drop_item}
use Rattle.plan_types.specs.Types.{ty}
use Rattle.plan_types.specs.TypeLaws.{same_type_exact}
use Rattle.plan_dsl.specs.Typing.{types_of}
use Rattle.plan_infer.specs.KeptTypes.{IsKept}
use Rattle.plan_infer.proofs.TableLemmas.{all_at}
use Rattle.plan_infer.proofs.SignedLemmas.{drop_all, none_left, typings_left}
use Rattle.plan_infer.proofs.signed.unless_own.Goals as goal

pub get-requires : goal.get-requires
get-requires c = all_at (IsKept c.args.types.now) c.args.inputs.now c.loop-index.index (record { 0 = 0 }) c.requires.inputs c.loop-index-test.true

pub loop-index-preserved : goal.loop-index-preserved
loop-index-preserved c =
    let i = c.loop-index.index in
    let left = typings_left c.args.types.now c.args.inputs.now i (i + 1) (record { 0 = 0 }) c.get.result.now c.loop-index-test.true c.get.ensures (omega arith) in
    let target = drop_item c.args.targets.items i (i + 1) c.index.result.now (omega (arith, c.loop-index-test.true, c.requires.targets)) c.index.ensures (omega arith) in
    let same = same_type_exact (ty c.get.result.now.dtype) (ty c.index.result.now) (not-false _ (sym c.if-ne.ensures)) in
    record { left = λ rest. c.loop-index.invariant.left (ap types_of left ∙ ap (λ types. ty c.get.result.now.dtype ∷ types) rest ∙ ap (λ type. type ∷ map ty (drop (i + 1) c.args.targets.items)) same ∙ sym (ap (map ty) target)) }

pub returns : goal.returns
returns c =
    let i = c.loop-index.index in
    let whole : i ≡ length c.args.inputs.now = omega (arith, c.loop-index-test.false, c.loop-index.auto.index-end) in
    let none = none_left c.args.types.now c.args.inputs.now i whole in
    inr (ap (map ty) c.none.ensures, c.loop-index.invariant.left (ap types_of none ∙ sym (ap (map ty) (drop_all c.args.targets.items i (whole ∙ sym c.requires.targets)))))
