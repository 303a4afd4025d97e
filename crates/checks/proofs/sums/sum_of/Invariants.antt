use Rattle.std.proofs.Common.{◌≡◌}
use Rattle.std.specs.Str.{chars}
use Rattle.plan_dsl.specs.Expressions.{tree_of}
use Rattle.plan_dsl.specs.Sources.{written}
use Rattle.checks.specs.Sums.{sum_tree}
use Rattle.checks.proofs.sums.sum_of.Given as goal

abbrev pub invariant-loop : goal.invariant-loop
invariant-loop l = tree_of l.sum ≡ written (sum_tree (chars l.fn.name) l.counter)
