use Rattle.plan_json.proofs.Names.{Some, ap, arith, map, option_map, refl, sym, ◌∙◌, a_column, a_text, a_type, column_part, field_list, type_form, type_key_form, all_of, view, column_of, field_of, map-append}
use Rattle.plan_json.proofs.Lemmas.{type_by_key, struct_all, part_in, item_in, key_in, all_of-more, all_taken, depth-only_member, depth-item, depth-two_items}
use Rattle.plan_json.proofs.ReaderLemmas.{read, told}
use Rattle.plan_json.proofs.dtype.+types.Goals as goal

-- ---- a type

pub read_type-returns-in-Ok : goal.read_type-returns-in-Ok
read_type-returns-in-Ok t c =
    read (type_by_key _ _ _ (c.in-Some-find_type.word.now, c.in-Some-find_type.key) _ c.in-Some-only_member.ensures c.in-Some-find_type.ensures.row c.in-Ok.ensures.ok)

-- ---- a list of fields

pub read_fields-loop-number-preserved : goal.read_fields-loop-number-preserved
read_fields-loop-number-preserved t c =
    all_of-more column_of c.in-Some.values.now c.loop-number.number _ _ _ c.loop-number-test.true c.index-values-number.is c.loop-number.invariant c.in-Ok.ensures.ok
    ∙ ap Some (sym (ap (map field_of) c.in_ok-push-in-Ok.ensures.items ∙ map-append field_of c.loop-number.items.items _))

pub read_fields-returns-after-loop-number : goal.read_fields-returns-after-loop-number
read_fields-returns-after-loop-number t c =
    read (struct_all _ _ c.loop-number.items c.in-Some.ensures (sym (all_taken (all_of column_of) c.in-Some.values.now c.loop-number.number (omega arith)) ∙ c.loop-number.invariant))

-- ---- errors of parts

pub read_type-returns-in-Err : goal.read_type-returns-in-Err
read_type-returns-in-Err t c =
    told (c.below.ensures a_type (type_form c.in-Some-find_type.key) _ (view c.in-Some-only_member.inner.now)
    (key_in type_key_form _ _ _ _ _ c.in-Some-only_member.ensures c.in-Some-find_type.ensures.word (ap (option_map (λ r. type_form r.1)) (sym c.in-Some-find_type.ensures.row))) c.in-Err.ensures.err)

pub read_column-returns-in-Err : goal.read_column-returns-in-Err
read_column-returns-in-Err t c = told (c.below.ensures a_column a_text _ _ (part_in (column_part 0) _ _ _ c.in-Some.ensures refl) c.in-Err.ensures.err)

pub read_column-returns-in-Err-read_type : goal.read_column-returns-in-Err-read_type
read_column-returns-in-Err-read_type t c = told (c.below-in-Err-read_type.ensures a_column a_type _ _ (part_in (column_part 1) _ _ _ c.in-Some.ensures refl) c.in-Err-read_type.ensures.err)

pub read_fields-returns-in-Err : goal.read_fields-returns-in-Err
read_fields-returns-in-Err t c =
    told (c.below.ensures field_list a_column _ _
    (item_in a_column _ c.in-Some.values.now c.loop-number.number _ c.in-Some.ensures c.loop-number-test.true c.index-values-number.is) c.in-Err.ensures.err)

-- ---- parts are less deep

pub read_type-read_keyed-requires : goal.read_type-read_keyed-requires
read_type-read_keyed-requires t c =
    let below = depth-only_member (view c.args.value.now) c.in-Some-only_member.word.now (view c.in-Some-only_member.inner.now) c.in-Some-only_member.ensures in (omega (arith, c.decreases, below), tt)

pub read_fields-read_column-requires : goal.read_fields-read_column-requires
read_fields-read_column-requires t c =
    let below = depth-item (view c.args.value.now) c.in-Some.values.now c.loop-number.number c.index-values-number.result c.in-Some.ensures c.loop-number-test.true c.index-values-number.is in (omega (arith, c.decreases, below), tt)

pub read_column-read_type-requires : goal.read_column-read_type-requires
read_column-read_type-requires t c =
    let below = depth-two_items (view c.args.value.now) (view c.in-Some.name.now) (view c.in-Some.dtype.now) c.in-Some.ensures in (omega (arith, c.decreases, below), tt)
