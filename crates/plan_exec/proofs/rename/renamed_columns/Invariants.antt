use Rattle.std.proofs.Common.{◌≡◌, map}
use Rattle.plan_types.specs.FrameFaults.{shown}
use Rattle.plan_exec.specs.ColumnFunctions.{renamed_column}
use Rattle.plan_exec.proofs.rename.renamed_columns.Given as goal

abbrev pub invariant-loop-column : goal.invariant-loop-column
invariant-loop-column l = map shown l.made.items ≡ map (renamed_column l.fn.existing l.fn.new) (map shown l.yielded)
