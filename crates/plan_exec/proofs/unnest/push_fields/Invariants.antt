use Rattle.std.proofs.Common.{◌≡◌, ◌++◌, map}
use Rattle.std.specs.Vec.Iter.{into_iter_items}
use Rattle.plan_types.specs.FrameFaults.{shown, vals_of}
use Rattle.plan_types.specs.Types.{fields_in, fields_of}
use Rattle.plan_types.specs.ValueViews.{val_of}
use Rattle.plan_exec.specs.ColumnFunctions.{parted, parts_in}
use Rattle.plan_exec.proofs.unnest.push_fields.Given as goal

abbrev pub invariant-loop-field : goal.invariant-loop-field
invariant-loop-field l = record {
  can : (goal.iterator-loop-field).can_next l.field-iterator;
  finite : (goal.iterator-loop-field).is_finite l.field-iterator;
  so_far : map shown l.made.items ++ parted (fields_in (into_iter_items l.field-iterator)) (map (λ row. map val_of (into_iter_items row)) l.rows.items) ≡ map shown l.fn.made.items ++ parted (fields_of l.fn.fields) (map parts_in (vals_of l.fn.values));
}
