use Rattle.std.proofs.Common.{[], refl, arith}
use Rattle.plan_dsl.specs.Trees.{no_more, more}
use Rattle.plan_infer.specs.Samples.{a}
use Rattle.plan_lower.proofs.examples.outputs.items_of_expressions.Goals as goal

pub returns-clause-cast : goal.returns-clause-cast
returns-clause-cast c = record { operands = more a no_more; is = refl; denote = (([], (omega arith, refl), tt), tt) }
