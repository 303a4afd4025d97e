use Rattle.std.proofs.Common.{◌≡◌, map}
use Rattle.plan_types.specs.ValueViews.{val_of}
use Rattle.plan_dsl.specs.Picks.{explode_values}
use Rattle.plan_exec.proofs.explode.items_of.Given as goal

abbrev pub invariant-loop-value : goal.invariant-loop-value
invariant-loop-value l = map val_of l.items.items ≡ explode_values (map val_of l.yielded)
