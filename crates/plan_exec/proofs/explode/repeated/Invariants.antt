use Rattle.std.proofs.Common.{◌≡◌, map}
use Rattle.plan_types.specs.ValueViews.{val_of}
use Rattle.plan_exec.specs.ColumnFunctions.{repeated}
use Rattle.plan_exec.proofs.explode.repeated.Given as goal

abbrev pub invariant-loop-value : goal.invariant-loop-value
invariant-loop-value l = map val_of l.made.items ≡ repeated (map (λ pair. pair.1.now) l.yielded) (map (λ pair. val_of pair.0) l.yielded)
