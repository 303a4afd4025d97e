use Rattle.std.proofs.Common.{◌≡◌, ◌++◌, map, take}
use Rattle.plan_types.specs.FrameFaults.{head_of, vals_of}
use Rattle.plan_types.specs.Types.{ty}
use Rattle.plan_types.specs.ValueViews.{val_of}
use Rattle.plan_exec.specs.ColumnFunctions.{cast_values}
use Rattle.plan_exec.proofs.unpivot.push_cast.Given as goal

abbrev pub invariant-loop-row : goal.invariant-loop-row
invariant-loop-row l = map val_of l.values.items ≡ map val_of l.fn.values.items ++ cast_values (ty l.dtype) (head_of l.column, take l.row (vals_of l.column.values))
