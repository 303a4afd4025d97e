use Rattle.std.proofs.Common.{◌≡◌, take}
use Rattle.plan_types.specs.FrameFaults.{vals_of}
use Rattle.plan_exec.specs.ColumnFunctions.{counts_in}
use Rattle.plan_exec.proofs.explode.make_as_many.Given as goal

abbrev pub invariant-loop-row : goal.invariant-loop-row
invariant-loop-row l = counts_in (take l.row (vals_of l.values)) ≡ take l.row l.counts
