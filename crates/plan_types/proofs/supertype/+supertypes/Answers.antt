use Rattle.std.specs.Option.{option_map}
use Rattle.std.proofs.lemmas.Bool.{not-true, not-false}
use Rattle.plan_types.specs.Types.{fields_of, ty}
use Rattle.plan_types.specs.declared.field.Field.{Field}
use Rattle.std.proofs.Common.{◌<◌, ◌+◌, suc, length, sym, ap, ◌∙◌, refl, arith}
use Rattle.plan_types.proofs.SuperFieldLemmas.{super_start, super_step, super_end, other_name, no_common, fields_apart, struct_common}
use Rattle.plan_types.proofs.supertype.+supertypes.Goals as goal

pub super_fields-returns-then-fields-others-clause-ok : goal.super_fields-returns-then-fields-others-clause-ok
super_fields-returns-then-fields-others-clause-ok t c = sym (fields_apart c.args.fields.now c.args.others.now c.if-fields-others.true)

pub super_fields-loop-index-init : goal.super_fields-loop-index-init
super_fields-loop-index-init t c = rw c.new-items.ensures.items (super_start c.args.fields.now c.args.others.now)

pub super_fields-returns-then-ne-clause-ok : goal.super_fields-returns-then-ne-clause-ok
super_fields-returns-then-ne-clause-ok t c =
    let fs = c.args.fields.now in
    let os = c.args.others.now in
    let i = c.loop-index.index in
    let x = c.index-fields-index.result in
    let y = c.index-others-index.result in
    let also : i < length os = omega (arith, c.loop-index-test.true, c.if-fields-others.false) in
    let left = c.index-fields-index.is in
    let right = c.index-others-index.is in
    sym (other_name fs os c.loop-index.items.items i (suc i) x y x c.loop-index-test.true also left right refl c.loop-index.invariant (not-true _ (sym c.if-ne.ensures)))

pub super_fields-returns-in-None-clause-ok : goal.super_fields-returns-in-None-clause-ok
super_fields-returns-in-None-clause-ok t c =
    let fs = c.args.fields.now in
    let os = c.args.others.now in
    let i = c.loop-index.index in
    let x = c.index-fields-index.result in
    let y = c.index-others-index.result in
    let also : i < length os = omega (arith, c.loop-index-test.true, c.if-fields-others.false) in
    let left = c.index-fields-index.is in
    let right = c.index-others-index.is in
    sym (no_common fs os c.loop-index.items.items i (suc i) x y x c.loop-index-test.true also left right refl c.loop-index.invariant (not-false _ (sym c.if-ne.ensures)) (sym c.in_ok-dtype.ensures.ok ∙ ap (option_map ty) c.in-None.is))

pub super_fields-loop-index-preserved : goal.super_fields-loop-index-preserved
super_fields-loop-index-preserved t c =
    let fs = c.args.fields.now in
    let os = c.args.others.now in
    let i = c.loop-index.index in
    let x = c.index-fields-index.result in
    let y = c.index-others-index.result in
    let also : i < length os = omega (arith, c.loop-index-test.true, c.if-fields-others.false) in
    let left = c.index-fields-index.is in
    let right = c.index-others-index.is in
    let z : Field = record { name = c.in_ok-name.name; dtype = c.in-Some.dtype } in
    super_step fs os c.loop-index.items.items i (i + 1) x y z c.loop-index-test.true also left right (omega arith) c.loop-index.invariant c.push.new.self.items (not-false _ (sym c.if-ne.ensures)) (sym c.in_ok-dtype.ensures.ok ∙ ap (option_map ty) c.in-Some.is) c.in_ok-name.ensures.ok c.in_ok-push-in-Some.ensures.items

pub super_fields-returns-clause-ok : goal.super_fields-returns-clause-ok
super_fields-returns-clause-ok t c =
    super_end c.args.fields.now c.args.others.now c.loop-index.items c.loop-index.index (omega (arith, c.loop-index-test.false)) (omega (arith, c.loop-index-test.false, c.if-fields-others.false)) c.loop-index.invariant

pub super_struct-returns-in-Some-clause-ok : goal.super_struct-returns-in-Some-clause-ok
super_struct-returns-in-Some-clause-ok t c =
    struct_common c.args.fields.now c.args.others.now c.as_slice-fields.result.now c.as_slice.result.now _ c.as_slice-fields.ensures.value c.as_slice.ensures.value (ap (option_map fields_of) (sym c.in-Some.is) ∙ c.in_ok-found.ensures.ok)

pub super_struct-returns-in-None-clause-ok : goal.super_struct-returns-in-None-clause-ok
super_struct-returns-in-None-clause-ok t c =
    struct_common c.args.fields.now c.args.others.now c.as_slice-fields.result.now c.as_slice.result.now _ c.as_slice-fields.ensures.value c.as_slice.ensures.value (ap (option_map fields_of) (sym c.in-None.is) ∙ c.in_ok-found.ensures.ok)
