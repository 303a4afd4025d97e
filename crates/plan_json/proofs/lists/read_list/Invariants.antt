use Rattle.plan_json.proofs.Names.{Some, map, take, ◌≡◌, all_of, items_view, leaf_of, Declared}
use Rattle.plan_json.proofs.lists.read_list.Given as goal

abbrev pub invariant-loop-number : goal.invariant-loop-number
invariant-loop-number g l = (tables : Declared) → all_of (leaf_of tables g.T.ListItem.which) (items_view (take l.number l.values)) ≡ Some (map g.T.ListItem.seen l.list.items)
