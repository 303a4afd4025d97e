use Rattle.std.proofs.Common.{◌≡◌, ◌++◌, drop, map}
use Rattle.plan_types.specs.Schemas.{columns}
use Rattle.plan_dsl.specs.Expressions.{tree_of}
use Rattle.plan_dsl.specs.Sources.{written}
use Rattle.plan_dsl.specs.TableCalls.{statistics}
use Rattle.plan_lower.proofs.conversion.statistics.statistics_of.Given as goal

abbrev pub invariant-loop-index : goal.invariant-loop-index
invariant-loop-index l = map tree_of l.items.items ++ map written (statistics l.statistic (drop l.index (columns l.schema))) ≡ map written (statistics l.statistic (columns l.schema))
