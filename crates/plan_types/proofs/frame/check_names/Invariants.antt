use Rattle.std.proofs.Common.{◌≡◌, [], drop}
use Rattle.plan_types.specs.FrameFaults.{repeated_name}
use Rattle.plan_types.proofs.FrameCallLemmas.{names_shown}
use Rattle.plan_types.proofs.frame.check_names.Given as goal

abbrev pub invariant-loop-column : goal.invariant-loop-column
invariant-loop-column l = repeated_name [] l.columns ≡ repeated_name (names_shown l.seen.keys) (drop l.column-index l.columns)
