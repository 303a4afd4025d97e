use Rattle.std.proofs.Common.{◌≡◌, drop}
use Rattle.plan_types.specs.FrameFaults.{other_length, height_of}
use Rattle.plan_types.proofs.frame.check_lengths.Given as goal

abbrev pub invariant-loop-column : goal.invariant-loop-column
invariant-loop-column l =
    other_length (height_of l.columns) l.columns ≡ other_length (height_of l.columns) (drop l.column-index l.columns)
