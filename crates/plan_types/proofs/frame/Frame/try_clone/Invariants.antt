use Rattle.std.proofs.Common.{◌≡◌, map, take}
use Rattle.plan_types.specs.FrameFaults.{shown}
use Rattle.plan_types.proofs.frame.Frame.try_clone.Given as goal

abbrev pub invariant-loop-column : goal.invariant-loop-column
invariant-loop-column l = map shown l.columns.items ≡ map shown (take l.column-index l.column-items)
