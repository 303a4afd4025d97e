use Rattle.std.proofs.Common.{◌≡◌, map}
use Rattle.std.specs.List.{flat_map}
use Rattle.plan_types.specs.FrameFaults.{shown}
use Rattle.plan_exec.specs.ColumnFunctions.{is_kept, unnested_column}
use Rattle.plan_exec.proofs.unnest.unnested_columns.Given as goal

abbrev pub invariant-loop-column : goal.invariant-loop-column
invariant-loop-column l = map shown l.made.items ≡ flat_map (unnested_column (is_kept l.fn.names.keys)) (map shown l.yielded)
