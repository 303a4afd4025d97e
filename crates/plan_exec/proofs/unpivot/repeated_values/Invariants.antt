use Rattle.std.proofs.Common.{◌≡◌, map}
use Rattle.plan_types.specs.FrameFaults.{vals_of}
use Rattle.plan_types.specs.ValueViews.{val_of}
use Rattle.plan_exec.specs.ColumnFunctions.{times}
use Rattle.plan_exec.proofs.unpivot.repeated_values.Given as goal

abbrev pub invariant-loop : goal.invariant-loop
invariant-loop l = map val_of l.made.items ≡ times l.counter (vals_of l.values)
