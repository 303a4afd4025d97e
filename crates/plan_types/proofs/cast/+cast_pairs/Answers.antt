use Rattle.std.proofs.Common.{◌+◌, ◌&&◌, drop, slice_index_or, refl, sym, ap, ◌∙◌, arith}
use Rattle.plan_types.specs.Types.{fields_in}
use Rattle.plan_types.specs.Casts.{can_cast_fields}
use Rattle.plan_types.proofs.FieldLemmas.{struct_type}
use Rattle.plan_types.proofs.CastPartLemmas.{structs_known, no_cast_apart, pair_known, all_known}
use Rattle.plan_types.proofs.cast.+cast_pairs.Goals as goal

pub can_cast-returns-in-Struct-to : goal.can_cast-returns-in-Struct-to
can_cast-returns-in-Struct-to t c =
    let from = struct_type c.args.from.now c.in-Struct.fields c.as_slice.result.now c.in-Struct.is c.as_slice.ensures.value in
    let to = struct_type c.args.to.now c.in-Struct-to.others c.as_slice-in-Struct-to.result.now c.in-Struct-to.is c.as_slice-in-Struct-to.ensures.value in
    c.can_cast_fields.ensures ∙ sym (structs_known _ _ _ _ from to)

pub can_cast_fields-returns-then-from-to : goal.can_cast_fields-returns-then-from-to
can_cast_fields-returns-then-from-to t c = no_cast_apart c.args.from.now c.args.to.now c.if-from-to.true

pub can_cast_fields-returns-then-not-can_cast : goal.can_cast_fields-returns-then-not-can_cast
can_cast_fields-returns-then-not-can_cast t c =
    let from = c.args.from.now in
    let to = c.args.to.now in
    let n = c.loop-index.index in
    sym (pair_known from to n (slice_index_or from n c.index-from-index.result) c.index-from-index.result (slice_index_or to n c.index-to-index.result) c.index-to-index.result c.can_cast.result c.loop-index-test.true c.if-from-to.false refl refl c.can_cast.ensures c.loop-index.invariant ∙ ap (λ b. b && can_cast_fields (fields_in (drop (n + 1) from)) (fields_in (drop (n + 1) to))) c.if-not-can_cast.true)

pub can_cast_fields-loop-index-preserved : goal.can_cast_fields-loop-index-preserved
can_cast_fields-loop-index-preserved t c =
    let from = c.args.from.now in
    let to = c.args.to.now in
    let n = c.loop-index.index in
    pair_known from to n (slice_index_or from n c.index-from-index.result) c.index-from-index.result (slice_index_or to n c.index-to-index.result) c.index-to-index.result c.can_cast.result c.loop-index-test.true c.if-from-to.false refl refl c.can_cast.ensures c.loop-index.invariant ∙ ap (λ b. b && can_cast_fields (fields_in (drop (n + 1) from)) (fields_in (drop (n + 1) to))) c.if-not-can_cast.false

pub can_cast_fields-returns : goal.can_cast_fields-returns
can_cast_fields-returns t c =
    all_known c.args.from.now c.args.to.now c.loop-index.index (omega (arith, c.loop-index-test.false, c.loop-index.auto.index-end)) c.if-from-to.false c.loop-index.invariant
