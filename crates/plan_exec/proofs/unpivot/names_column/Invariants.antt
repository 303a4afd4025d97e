use Rattle.std.proofs.Common.{◌≡◌, map, take}
use Rattle.plan_types.specs.FrameFaults.{shown}
use Rattle.plan_types.specs.ValueViews.{val_of}
use Rattle.plan_exec.specs.ColumnFunctions.{names_below}
use Rattle.plan_exec.proofs.unpivot.names_column.Given as goal

abbrev pub invariant-loop-column : goal.invariant-loop-column
invariant-loop-column l = map val_of l.names.items ≡ names_below (map (λ column. shown column.now) (take l.column-index l.columns))
