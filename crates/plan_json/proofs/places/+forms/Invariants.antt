use Rattle.plan_json.proofs.Names.{Some, map, take, ◌*◌, ◌+◌, ◌≡◌, all_of, items_view, view, array, depth, declared, expression, expression_read, read_as, tree_of}
use Rattle.plan_dsl.specs.Expressions.{selector_tree}
use Rattle.plan_json.specs.Forms.{selector, selector_read}
use Rattle.plan_json.proofs.places.+forms.Given as goal

abbrev pub decreases-read_form : goal.decreases-read_form
decreases-read_form l = 10 * depth (view l.value.now)

abbrev pub decreases-read_expression : goal.decreases-read_expression
decreases-read_expression l = 10 * depth (view l.value.now)

abbrev pub decreases-read_expression_of : goal.decreases-read_expression_of
decreases-read_expression_of l = 10 * depth (view l.value.now) + 7

abbrev pub decreases-read_expressions : goal.decreases-read_expressions
decreases-read_expressions l = 10 * depth (view l.value.now) + 1

abbrev pub decreases-read_place : goal.decreases-read_place
decreases-read_place l = 10 * depth (view l.value.now) + 5

abbrev pub decreases-read_order : goal.decreases-read_order
decreases-read_order l = 10 * depth (view l.value.now) + 4

abbrev pub decreases-read_optional : goal.decreases-read_optional
decreases-read_optional l = 10 * depth (view l.value.now) + 4

abbrev pub decreases-read_optional_selectors : goal.decreases-read_optional_selectors
decreases-read_optional_selectors l = 10 * depth (view l.value.now) + 4

abbrev pub decreases-read_listed : goal.decreases-read_listed
decreases-read_listed l = 10 * depth (view l.value.now) + 3

abbrev pub decreases-read_items : goal.decreases-read_items
decreases-read_items l = 10 * depth (array (items_view l.values.now)) + 2

abbrev pub decreases-read_two : goal.decreases-read_two
decreases-read_two l = 10 * depth (array (items_view l.values.now)) + 1

abbrev pub decreases-read_item : goal.decreases-read_item
decreases-read_item l = 10 * depth (array (items_view l.values.now))

abbrev pub decreases-read_keyed : goal.decreases-read_keyed
decreases-read_keyed l = 10 * depth (view l.value.now) + 9

abbrev pub decreases-read_boxed : goal.decreases-read_boxed
decreases-read_boxed l = 10 * depth (view l.value.now)

abbrev pub decreases-read_boxed_of : goal.decreases-read_boxed_of
decreases-read_boxed_of l = 10 * depth (view l.value.now) + 8

abbrev pub decreases-read_bin : goal.decreases-read_bin
decreases-read_bin l = 10 * depth (view l.value.now) + 6

abbrev pub decreases-read_places : goal.decreases-read_places
decreases-read_places l = 10 * depth (view l.value.now) + 6

abbrev pub invariant-read_expressions-loop-number : goal.invariant-read_expressions-loop-number
invariant-read_expressions-loop-number l =
    all_of (read_as (declared l.tables) expression) (items_view (take l.number l.values)) ≡ Some (map expression_read (map tree_of l.items.items))

abbrev pub decreases-read_selectors : goal.decreases-read_selectors
decreases-read_selectors l = 10 * depth (view l.value.now) + 1

abbrev pub invariant-read_selectors-loop-number : goal.invariant-read_selectors-loop-number
invariant-read_selectors-loop-number l =
    all_of (read_as (declared l.tables) selector) (items_view (take l.number l.values)) ≡ Some (map selector_read (map selector_tree l.items.items))
