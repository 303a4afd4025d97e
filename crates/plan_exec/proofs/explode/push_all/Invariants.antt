use Rattle.std.proofs.Common.{◌≡◌, ◌++◌, map}
use Rattle.plan_types.specs.ValueViews.{val_of}
use Rattle.plan_exec.proofs.explode.push_all.Given as goal

abbrev pub invariant-loop-value : goal.invariant-loop-value
invariant-loop-value l = map val_of l.values.items ≡ map val_of l.initial.values.items ++ map val_of l.yielded
