use Rattle.std.proofs.Common.{◌≡◌, drop}
use Rattle.plan_types.specs.FrameFaults.{misfit}
use Rattle.plan_types.proofs.frame.check_values.Given as goal

abbrev pub invariant-loop-column : goal.invariant-loop-column
invariant-loop-column l = misfit l.columns ≡ misfit (drop l.column-index l.columns)
