use Rattle.plan_json.proofs.Names.{Some, map, take, ◌*◌, ◌+◌, ◌≡◌, all_of, items_view, view, depth, column_of, field_of}
use Rattle.plan_json.proofs.dtype.+types.Given as goal

abbrev pub decreases-read_type : goal.decreases-read_type
decreases-read_type l = 2 * depth (view l.value.now)

abbrev pub decreases-read_keyed : goal.decreases-read_keyed
decreases-read_keyed l = 2 * depth (view l.value.now) + 1

abbrev pub decreases-read_fields : goal.decreases-read_fields
decreases-read_fields l = 2 * depth (view l.value.now)

abbrev pub decreases-read_column : goal.decreases-read_column
decreases-read_column l = 2 * depth (view l.value.now)

abbrev pub invariant-read_fields-loop-number : goal.invariant-read_fields-loop-number
invariant-read_fields-loop-number l = all_of column_of (items_view (take l.number l.values)) ≡ Some (map field_of l.items.items)
