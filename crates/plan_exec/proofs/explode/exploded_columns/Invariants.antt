use Rattle.std.proofs.Common.{◌≡◌, map}
use Rattle.plan_types.specs.FrameFaults.{shown}
use Rattle.plan_exec.specs.ColumnFunctions.{exploded_column, is_kept}
use Rattle.plan_exec.proofs.explode.exploded_columns.Given as goal

abbrev pub invariant-loop-column : goal.invariant-loop-column
invariant-loop-column l = map shown l.made.items ≡ map (exploded_column (is_kept l.fn.names.keys) l.fn.counts) (map shown l.yielded)
