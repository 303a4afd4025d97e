use Rattle.std.proofs.Common.{◌≡◌, ◌++◌, map, replicate}
use Rattle.plan_types.specs.ValueViews.{val_of}
use Rattle.plan_exec.proofs.explode.push_times.Given as goal

abbrev pub invariant-loop : goal.invariant-loop
invariant-loop l = (map val_of l.values.items ≡ map val_of l.fn.values.items ++ replicate l.counter (val_of l.fn.value)) × (val_of l.value ≡ val_of l.fn.value)
