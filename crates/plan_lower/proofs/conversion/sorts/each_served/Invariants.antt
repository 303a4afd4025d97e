use Rattle.std.proofs.Common.{◌≡◌, ◌++◌, drop}
use Rattle.plan_dsl.specs.SortFlags.{each_served}
use Rattle.plan_lower.proofs.conversion.sorts.each_served.Given as goal

abbrev pub invariant-loop-index : goal.invariant-loop-index
invariant-loop-index l = l.served.items ++ each_served (drop l.index l.counts) (drop l.index l.flags) ≡ each_served l.counts l.flags
