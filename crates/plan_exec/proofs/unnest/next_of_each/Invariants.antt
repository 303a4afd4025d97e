use Rattle.std.proofs.Common.{◌≡◌, drop, map, take}
use Rattle.plan_types.specs.ValueViews.{val_of}
use Rattle.plan_dsl.specs.Aggregates.{first_value}
use Rattle.plan_exec.proofs.PartedLemmas.{parts_left}
use Rattle.plan_exec.proofs.unnest.next_of_each.Given as goal

abbrev pub invariant-loop-row : goal.invariant-loop-row
invariant-loop-row l = record {
  values : map val_of l.values.items ≡ map first_value (map parts_left (take l.row-index l.fn.rows.items));
  done : map parts_left (take l.row-index l.row-items) ≡ map (drop 1) (map parts_left (take l.row-index l.fn.rows.items));
  left : drop l.row-index l.row-items ≡ drop l.row-index l.fn.rows.items;
}
