use Rattle.std.proofs.Common.{◌≡◌, ◌++◌, map, take}
use Rattle.plan_types.specs.FrameFaults.{vals_of}
use Rattle.plan_types.specs.ValueViews.{val_of}
use Rattle.plan_exec.proofs.unpivot.push_copies.Given as goal

abbrev pub invariant-loop-row : goal.invariant-loop-row
invariant-loop-row l = map val_of l.made.items ≡ map val_of l.fn.made.items ++ map (λ value. value) (take l.row (vals_of l.values))
