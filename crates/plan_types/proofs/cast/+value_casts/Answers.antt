use Rattle.std.proofs.Common.{rules, ◌≡◌, ◌<◌, ◌≤◌, length, sym, ap, subst, ◌∙◌, arith}
use denote.Param.Weighed.{most, at_most}
use Rattle.plan_types.proofs.value.Value.TheLaws.{the_size}
use Rattle.plan_types.specs.Types.{ListType, ty}
use Rattle.plan_types.specs.Casts.{Gives}
use Rattle.plan_types.proofs.FieldLemmas.{struct_type}
use Rattle.plan_types.proofs.PartLemmas.{list_deeper, struct_deeper, list_of, struct_of, struct_values}
use Rattle.plan_types.proofs.ResultLemmas.{passed_on}
use Rattle.plan_types.proofs.CastPartLemmas.{items_start, item_fits, items_step, items_fail, items_end, as_many_parts, as_many_fields, parts_start, part_left, part_fits, part_known, parts_step, parts_fail, parts_end, list_known, list_items_fit, struct_known, struct_parts_fit, struct_gives, struct_fails}
use Rattle.plan_types.proofs.cast.+value_casts.Goals as goal

pub cast_items-loop-item-init : goal.cast_items-loop-item-init
cast_items-loop-item-init t c = items_start _ _ _ _ _ c.new-converted.ensures.items c.requires.fits

pub cast_items-cast_value-requires : goal.cast_items-cast_value-requires
cast_items-cast_value-requires t c =
    let items = c.args.items.now in
    let small : the_size c.item-item.result ≤ most the_size items = subst (λ x. the_size x ≤ most the_size items) (sym c.item-item.is) (at_most the_size items c.loop-item.item-index c.item-item.result c.loop-item-test.true) in
    (omega (arith, small, c.decreases), (c.requires.known, item_fits c.loop-item.invariant c.item-item.result c.loop-item-test.true c.item-item.is))

pub cast_items-returns-in_err-item-clause-err : goal.cast_items-returns-in_err-item-clause-err
cast_items-returns-in_err-item-clause-err t c =
    passed_on c.from_residual.result c.in_err-item.field-0.0 _ c.from_residual.ensures.1 (items_fail c.loop-item.invariant c.item-item.result c.loop-item-test.true c.item-item.is _ c.in_err-item.ensures.err)

pub cast_items-loop-item-preserved : goal.cast_items-loop-item-preserved
cast_items-loop-item-preserved t c =
    items_step c.loop-item.invariant c.item-item.result c.loop-item-test.true c.item-item.is _ c.in_ok-item.item c.in_ok-item.ensures.ok c.in_ok-push.ensures.items

pub cast_items-returns-clause-ok : goal.cast_items-returns-clause-ok
cast_items-returns-clause-ok t c =
    items_end c.loop-item.invariant (omega (arith, c.loop-item-test.false, c.loop-item.auto.item-index-end))

pub cast_parts-loop-index-init : goal.cast_parts-loop-index-init
cast_parts-loop-index-init t c = parts_start _ _ _ _ _ c.new-converted.ensures.items c.requires.fits c.requires.known

pub cast_parts-offset_bounds-from-index : goal.cast_parts-offset_bounds-from-index
cast_parts-offset_bounds-from-index t c =
    let also : c.loop-index.index < length c.args.from.now = omega (arith, c.loop-index-test.true, as_many_parts c.args.parts.now c.args.from.now c.requires.fits) in
    search rules

pub cast_parts-bounds-from-index : goal.cast_parts-bounds-from-index
cast_parts-bounds-from-index t c =
    omega (arith, c.loop-index-test.true, as_many_parts c.args.parts.now c.args.from.now c.requires.fits)

pub cast_parts-offset_bounds-to-index : goal.cast_parts-offset_bounds-to-index
cast_parts-offset_bounds-to-index t c =
    let third : c.loop-index.index < length c.args.to.now = omega (arith, c.loop-index-test.true, as_many_parts c.args.parts.now c.args.from.now c.requires.fits, as_many_fields c.args.from.now c.args.to.now c.requires.known) in
    search rules

pub cast_parts-bounds-to-index : goal.cast_parts-bounds-to-index
cast_parts-bounds-to-index t c =
    omega (arith, c.loop-index-test.true, as_many_parts c.args.parts.now c.args.from.now c.requires.fits, as_many_fields c.args.from.now c.args.to.now c.requires.known)

pub cast_parts-cast_value-requires : goal.cast_parts-cast_value-requires
cast_parts-cast_value-requires t c =
    let parts = c.args.parts.now in
    let left = part_left c.args.parts.now c.args.from.now c.args.to.now c.args.options c.loop-index.converted.items c.loop-index.index c.index-parts-index.result c.index-from-index.result c.index-to-index.result c.requires.fits c.requires.known c.loop-index-test.true c.index-parts-index.is c.loop-index.invariant in
    let small : the_size c.index-parts-index.result ≤ most the_size parts = subst (λ x. the_size x ≤ most the_size parts) (sym c.index-parts-index.is) (at_most the_size parts c.loop-index.index c.index-parts-index.result c.loop-index-test.true) in
    (omega (arith, small, c.decreases), (part_known left, part_fits left))

pub cast_parts-returns-in_err-part-clause-err : goal.cast_parts-returns-in_err-part-clause-err
cast_parts-returns-in_err-part-clause-err t c =
    let left = part_left c.args.parts.now c.args.from.now c.args.to.now c.args.options c.loop-index.converted.items c.loop-index.index c.index-parts-index.result c.index-from-index.result c.index-to-index.result c.requires.fits c.requires.known c.loop-index-test.true c.index-parts-index.is c.loop-index.invariant in
    passed_on c.from_residual.result c.in_err-part.field-0.0 _ c.from_residual.ensures.1 (parts_fail left _ c.in_err-part.ensures.err)

pub cast_parts-loop-index-preserved : goal.cast_parts-loop-index-preserved
cast_parts-loop-index-preserved t c =
    let left = part_left c.args.parts.now c.args.from.now c.args.to.now c.args.options c.loop-index.converted.items c.loop-index.index c.index-parts-index.result c.index-from-index.result c.index-to-index.result c.requires.fits c.requires.known c.loop-index-test.true c.index-parts-index.is c.loop-index.invariant in
    parts_step left _ c.in_ok-part.part c.in_ok-part.ensures.ok c.in_ok-push.ensures.items

pub cast_parts-returns-clause-ok : goal.cast_parts-returns-clause-ok
cast_parts-returns-clause-ok t c =
    parts_end _ _ _ _ _ _ (omega (arith, c.loop-index-test.false, c.loop-index.auto.index-end)) c.loop-index.invariant

pub cast_value-cast_items-requires : goal.cast_value-cast_items-requires
cast_value-cast_items-requires t c =
    let value = list_of c.args.value.now c.in-List.items c.as_slice.result.now c.in-List.is c.as_slice.ensures.value in
    let from : ty c.args.from.now ≡ ListType (ty c.deref.result.now) = ap ty c.in-List-List.is-0 ∙ ap (λ d. ListType (ty d)) (sym c.deref.ensures) in
    let to : ty c.args.to.now ≡ ListType (ty c.deref-in-List-List.result.now) = ap ty c.in-List-List.is-1 ∙ ap (λ d. ListType (ty d)) (sym c.deref-in-List-List.ensures) in
    (omega (arith, list_deeper c.args.value.now c.in-List.items c.as_slice.result.now c.in-List.is c.as_slice.ensures.value, c.decreases), (list_known _ _ _ _ from to c.requires.known, list_items_fit _ _ _ _ value from c.requires.fits))

pub cast_value-cast_parts-requires : goal.cast_value-cast_parts-requires
cast_value-cast_parts-requires t c =
    let value = struct_of c.args.value.now c.in-Struct.parts c.as_slice-parts.result.now c.in-Struct.is c.as_slice-parts.ensures.value in
    let from = struct_type c.args.from.now c.in-Struct-Struct.from c.as_slice-in-Struct-Struct.result.now c.in-Struct-Struct.is-0 c.as_slice-in-Struct-Struct.ensures.value in
    let to = struct_type c.args.to.now c.in-Struct-Struct.to c.as_slice-in-Struct-Struct-2.result.now c.in-Struct-Struct.is-1 c.as_slice-in-Struct-Struct-2.ensures.value in
    (omega (arith, struct_deeper c.args.value.now c.in-Struct.parts c.as_slice-parts.result.now c.in-Struct.is c.as_slice-parts.ensures.value, c.decreases), (struct_known _ _ _ _ from to c.requires.known, struct_parts_fit _ _ _ _ value from c.requires.fits))

pub cast_value-returns-in_err-parts-in-Struct-Struct-clause-err :
    goal.cast_value-returns-in_err-parts-in-Struct-Struct-clause-err
cast_value-returns-in_err-parts-in-Struct-Struct-clause-err t c =
    let value = struct_of c.args.value.now c.in-Struct.parts c.as_slice-parts.result.now c.in-Struct.is c.as_slice-parts.ensures.value in
    let from = struct_type c.args.from.now c.in-Struct-Struct.from c.as_slice-in-Struct-Struct.result.now c.in-Struct-Struct.is-0 c.as_slice-in-Struct-Struct.ensures.value in
    let to = struct_type c.args.to.now c.in-Struct-Struct.to c.as_slice-in-Struct-Struct-2.result.now c.in-Struct-Struct.is-1 c.as_slice-in-Struct-Struct-2.ensures.value in
    let r = c.from_residual-in_err-parts-in-Struct-Struct in
    passed_on r.result c.in_err-parts-in-Struct-Struct.field-0.0 _ r.ensures.1 (struct_fails _ _ _ _ _ _ c.args.options _ value from to c.in_err-parts-in-Struct-Struct.ensures.err)

pub cast_value-returns-in_ok-parts-in-Struct-Struct-clause-ok :
    goal.cast_value-returns-in_ok-parts-in-Struct-Struct-clause-ok
cast_value-returns-in_ok-parts-in-Struct-Struct-clause-ok t c =
    let value = struct_of c.args.value.now c.in-Struct.parts c.as_slice-parts.result.now c.in-Struct.is c.as_slice-parts.ensures.value in
    let from = struct_type c.args.from.now c.in-Struct-Struct.from c.as_slice-in-Struct-Struct.result.now c.in-Struct-Struct.is-0 c.as_slice-in-Struct-Struct.ensures.value in
    let to = struct_type c.args.to.now c.in-Struct-Struct.to c.as_slice-in-Struct-Struct-2.result.now c.in-Struct-Struct.is-1 c.as_slice-in-Struct-Struct-2.ensures.value in
    let made = c.in_ok-parts-in-Struct-Struct in
    struct_gives _ _ _ _ _ _ _ c.args.options value from to made.ensures.ok ∙ ap Gives (sym (struct_values made.parts))
