use Rattle.std.proofs.Common.{◌<◌, length, map}
use Rattle.std.specs.List.{AllByRecursion}
use Rattle.plan_arena.specs.Items.{named_node}
use Rattle.checks.proofs.coercions.expressions_at.Given as goal

abbrev pub invariant-loop-number : goal.invariant-loop-number
invariant-loop-number g l = AllByRecursion (λ n. n < length l.arena) (map (λ e. (named_node e).expression) l.exprs.items)
