use Rattle.plan_json.proofs.Names.{Some, ap, arith, map, refl, subst, sym, ◌<◌, ◌∙◌, asked_form, list_of, places_form, all_of, items_view, view, names_of, array, declared, expression, expression_read, place_view, read_as, IsErrorOf, map-append, tree_of}
use Rattle.plan_dsl.specs.Expressions.{selector_tree}
use Rattle.plan_json.specs.Forms.{selector, selector_read}
use Rattle.plan_json.proofs.Lemmas.{IsErrorOf-own, item_in, form_read, key_part, item_part_at, other_count, each_read, all_of-more, all_taken, depth-item}
use Rattle.plan_json.specs.Forms.{AllFit, asked_in}
use Rattle.plan_json.specs.Arguments.{args_view, items_seen}
use Rattle.plan_json.specs.declared.forms.Key.TheVariants as keys
use Rattle.plan_json.specs.declared.forms.Kind.TheVariants as kinds
use Rattle.plan_json.proofs.FitLemmas.{form_fits, list_fits, places_fit}
use Rattle.plan_json.proofs.BinLemmas.{bin_read, depth-right, left_part, op_part, right_part}
use Rattle.plan_json.proofs.ReaderLemmas.{read, told}
use Rattle.plan_json.proofs.places.+forms.Goals as goal

-- ---- what was read fits what was asked

pub read_expression_of-assemble_expression-requires : goal.read_expression_of-assemble_expression-requires
read_expression_of-assemble_expression-requires t c =
    subst (λ p. AllFit (asked_in p) (args_view c.in-Ok-read_places.args)) c.expression_places.ensures.asks (places_fit (declared c.args.tables.now) c.expression_places.result _ _ c.in-Ok-read_places.ensures.ok)

pub read_keyed-assemble-requires : goal.read_keyed-assemble-requires
read_keyed-assemble-requires t c =
    subst (λ p. AllFit (asked_in p) (args_view c.in-Ok-read_places.args)) c.places_of.ensures.asks (places_fit (declared c.args.tables.now) c.places_of.result _ _ c.in-Ok-read_places.ensures.ok)

pub read_order-listed_order-requires : goal.read_order-listed_order-requires
read_order-listed_order-requires t c =
    subst (λ p. AllFit p (items_seen c.in-Ok.items)) c.order_places.ensures.asks (list_fits (declared c.args.tables.now) c.order_places.result.now _ _ c.in-Ok.ensures.ok)

pub read_selectors-selector-requires : goal.read_selectors-selector-requires
read_selectors-selector-requires t c = form_fits (declared c.args.tables.now) kinds.Selector (view c.index-values-number.result) _ c.in-Ok.ensures.ok

-- ---- a form

pub read_form-returns-in-Ok : goal.read_form-returns-in-Ok
read_form-returns-in-Ok t c =
    read (form_read (declared c.args.tables.now) c.args.kind _ _ _ (c.in-Some-find_key.word.now, c.in-Some-find_key.key) _ c.in-Some.ensures c.in-Some-find_key.ensures.row c.in-Ok.ensures.ok)

pub read_expression-returns-in-Ok : goal.read_expression-returns-in-Ok
read_expression-returns-in-Ok t c =
    read (form_read (declared c.args.tables.now) kinds.Expression _ _ _ (c.in-Some-find_expression.word.now, keys.Expression c.in-Some-find_expression.key) _ c.in-Some.ensures c.in-Some-find_expression.ensures.row c.in-Ok.ensures.ok)

-- ---- an operator and its operands

pub read_bin-read_boxed-requires-2 : goal.read_bin-read_boxed-requires-2
read_bin-read_boxed-requires-2 t c =
    let below = depth-right (view c.args.value.now) _ _ (view c.in-Some.right.now) c.in-Some.ensures in (omega (arith, c.decreases, below), tt)

pub read_bin-returns-in-Err : goal.read_bin-returns-in-Err
read_bin-returns-in-Err t c = told (c.below.ensures _ _ _ _ (op_part (names_of (declared c.args.tables.now)) _ _ _ _ c.in-Some.ensures) c.in-Err.ensures.err)

pub read_bin-returns-in-Err-read_boxed : goal.read_bin-returns-in-Err-read_boxed
read_bin-returns-in-Err-read_boxed t c = told (c.below-in-Err-read_boxed.ensures _ _ _ _ (left_part (names_of (declared c.args.tables.now)) _ _ _ _ c.in-Some.ensures) c.in-Err-read_boxed.ensures.err)

pub read_bin-returns-in-Err-read_boxed-2 : goal.read_bin-returns-in-Err-read_boxed-2
read_bin-returns-in-Err-read_boxed-2 t c = told (c.below-in-Err-read_boxed-2.ensures _ _ _ _ (right_part (names_of (declared c.args.tables.now)) _ _ _ _ c.in-Some.ensures) c.in-Err-read_boxed-2.ensures.err)

pub read_bin-returns-in-Ok-read_boxed-2 : goal.read_bin-returns-in-Ok-read_boxed-2
read_bin-returns-in-Ok-read_boxed-2 t c =
    read (bin_read (declared c.args.tables.now) _ _ _ _ c.in-Ok.op _ _ c.in-Some.ensures c.in-Ok.ensures.ok
    c.in-Ok-read_boxed.ensures.ok c.in-Ok-read_boxed-2.ensures.ok)

-- ---- a list of exactly these

pub read_listed-returns-then-values-places : goal.read_listed-returns-then-values-places
read_listed-returns-then-values-places t c =
    told (IsErrorOf-own _ _ _ _ c.shape-then-values-places.ensures (other_count (names_of (declared c.args.tables.now)) c.args.places.now c.in-Some.values.now _ c.in-Some.ensures c.if-values-places.true))

pub read_item-read_place-requires : goal.read_item-read_place-requires
read_item-read_place-requires t c =
    let below = depth-item (array (items_view c.args.values.now)) c.args.values.now c.args.number c.index-values-number.result refl (subst (λ k. c.args.number < k) (sym c.requires) c.if-number-places.false) c.index-values-number.is in
    (omega (arith, below, c.decreases), tt)

pub read_item-returns-in-Err-clause-err : goal.read_item-returns-in-Err-clause-err
read_item-returns-in-Err-clause-err t c =
    c.below.ensures _ _ _ _ (item_part_at (names_of (declared c.args.tables.now)) c.args.places.now c.args.values.now c.args.number _ c.index-values-number.result c.requires c.if-number-places.false c.index-values-number.is) c.in-Err.ensures.err

pub read_place-returns-in-Err-read_leaves : goal.read_place-returns-in-Err-read_leaves
read_place-returns-in-Err-read_leaves t c =
    told (let names = names_of (declared c.args.tables.now) in
    subst (λ p. IsErrorOf (asked_form names (place_view p)) (view c.args.value.now) c.in-Err-read_leaves.error) (sym c.in-Leaves.is) (c.in-Err-read_leaves.ensures.err.told names))

-- ---- a list of expressions

pub read_expressions-loop-number-preserved : goal.read_expressions-loop-number-preserved
read_expressions-loop-number-preserved t c =
    let items = c.loop-number.items.items in
    all_of-more (read_as (declared c.args.tables.now) expression) c.in-Some.values.now c.loop-number.number _ _ _ c.loop-number-test.true c.index-values-number.is c.loop-number.invariant c.in-Ok.ensures.ok
    ∙ ap Some (sym (ap (λ l. map expression_read (map tree_of l)) c.in_ok-push-in-Ok.ensures.items ∙ ap (map expression_read) (map-append tree_of items _) ∙ map-append expression_read (map tree_of items) _))

pub read_expressions-returns-after-loop-number : goal.read_expressions-returns-after-loop-number
read_expressions-returns-after-loop-number t c =
    read (let tables = declared c.args.tables.now in
    each_read tables expression _ _ _ c.in-Some.ensures (sym (all_taken (all_of (read_as tables expression)) c.in-Some.values.now c.loop-number.number (omega arith)) ∙ c.loop-number.invariant))

-- ---- a list of selectors

pub read_selectors-loop-number-preserved : goal.read_selectors-loop-number-preserved
read_selectors-loop-number-preserved t c =
    let items = c.loop-number.items.items in
    all_of-more (read_as (declared c.args.tables.now) selector) c.in-Some.values.now c.loop-number.number _ _ _ c.loop-number-test.true c.index-values-number.is c.loop-number.invariant (c.in-Ok.ensures.ok ∙ ap Some c.selector.ensures ∙ ap (λ x. Some (selector_read (selector_tree x))) (sym c.into_inner.ensures))
    ∙ ap Some (sym (ap (λ l. map selector_read (map selector_tree l)) c.in_ok-push-in-Ok.ensures.items ∙ ap (map selector_read) (map-append selector_tree items _) ∙ map-append selector_read (map selector_tree items) _))

pub read_selectors-returns-after-loop-number : goal.read_selectors-returns-after-loop-number
read_selectors-returns-after-loop-number t c =
    read (let tables = declared c.args.tables.now in
    each_read tables selector _ _ _ c.in-Some.ensures (sym (all_taken (all_of (read_as tables selector)) c.in-Some.values.now c.loop-number.number (omega arith)) ∙ c.loop-number.invariant))

-- ---- errors of parts

pub read_form-returns-in-Err : goal.read_form-returns-in-Err
read_form-returns-in-Err t c =
    told (c.below.ensures _ _ _ (view c.in-Some.inner.now)
    (key_part (names_of (declared c.args.tables.now)) c.args.kind _ _ _ (c.in-Some-find_key.word.now, c.in-Some-find_key.key) c.in-Some.ensures c.in-Some-find_key.ensures.row c.in-Some-find_key.ensures.word) c.in-Err.ensures.err)

pub read_expression-returns-in-Err : goal.read_expression-returns-in-Err
read_expression-returns-in-Err t c =
    told (c.below.ensures _ _ _ (view c.in-Some.inner.now)
    (key_part (names_of (declared c.args.tables.now)) kinds.Expression _ _ _ (c.in-Some-find_expression.word.now, keys.Expression c.in-Some-find_expression.key) c.in-Some.ensures c.in-Some-find_expression.ensures.row c.in-Some-find_expression.ensures.word) c.in-Err.ensures.err)

pub read_boxed-returns-in-Ok : goal.read_boxed-returns-in-Ok
read_boxed-returns-in-Ok t c =
    read (form_read (declared c.args.tables.now) kinds.Expression _ _ _ (c.in-Some-find_expression.word.now, keys.Expression c.in-Some-find_expression.key) _ c.in-Some.ensures c.in-Some-find_expression.ensures.row c.in-Ok.ensures.ok)

pub read_boxed-returns-in-Err : goal.read_boxed-returns-in-Err
read_boxed-returns-in-Err t c =
    told (c.below.ensures _ _ _ (view c.in-Some.inner.now)
    (key_part (names_of (declared c.args.tables.now)) kinds.Expression _ _ _ (c.in-Some-find_expression.word.now, keys.Expression c.in-Some-find_expression.key) c.in-Some.ensures c.in-Some-find_expression.ensures.row c.in-Some-find_expression.ensures.word) c.in-Err.ensures.err)

pub read_expressions-returns-in-Err : goal.read_expressions-returns-in-Err
read_expressions-returns-in-Err t c =
    told (let asked = asked_form (names_of (declared c.args.tables.now)) expression in
    c.below.ensures (list_of (names_of (declared c.args.tables.now)) expression) asked _ _
    (item_in asked _ c.in-Some.values.now c.loop-number.number _ c.in-Some.ensures c.loop-number-test.true c.index-values-number.is) c.in-Err.ensures.err)

pub read_selectors-returns-in-Err : goal.read_selectors-returns-in-Err
read_selectors-returns-in-Err t c =
    told (let asked = asked_form (names_of (declared c.args.tables.now)) selector in
    c.below.ensures (list_of (names_of (declared c.args.tables.now)) selector) asked _ _
    (item_in asked _ c.in-Some.values.now c.loop-number.number _ c.in-Some.ensures c.loop-number-test.true c.index-values-number.is) c.in-Err.ensures.err)

pub read_keyed-returns-in-Err-read_places : goal.read_keyed-returns-in-Err-read_places
read_keyed-returns-in-Err-read_places t c =
    told (subst (λ p. IsErrorOf (places_form (names_of (declared c.args.tables.now)) p) (view c.args.value.now) c.in-Err-read_places.error) c.places_of.ensures.asks c.in-Err-read_places.ensures.err)

pub read_expression_of-returns-in-Err-read_places : goal.read_expression_of-returns-in-Err-read_places
read_expression_of-returns-in-Err-read_places t c =
    told (subst (λ p. IsErrorOf (places_form (names_of (declared c.args.tables.now)) p) (view c.args.value.now) c.in-Err-read_places.error) c.expression_places.ensures.asks c.in-Err-read_places.ensures.err)
