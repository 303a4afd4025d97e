use Rattle.std.proofs.Common.{◌≡◌, ◌++◌, map, take}
use Rattle.plan_types.specs.FrameFaults.{head_of, vals_of}
use Rattle.plan_types.specs.ValueViews.{val_of}
use Rattle.plan_exec.specs.ColumnFunctions.{name_values}
use Rattle.plan_exec.proofs.unpivot.push_names.Given as goal

abbrev pub invariant-loop : goal.invariant-loop
invariant-loop l = map val_of l.names.items ≡ map val_of l.fn.names.items ++ name_values (head_of l.column, take l.counter (vals_of l.column.values))
