use Rattle.std.proofs.Common.{◌≡◌, map, take}
use Rattle.plan_types.specs.FrameFaults.{shown}
use Rattle.plan_exec.specs.ColumnFunctions.{column_times}
use Rattle.plan_exec.proofs.unpivot.repeated_columns.Given as goal

abbrev pub invariant-loop-column : goal.invariant-loop-column
invariant-loop-column l = map shown l.made.items ≡ map (column_times l.count) (map (λ column. shown column.now) (take l.column-index l.columns))
