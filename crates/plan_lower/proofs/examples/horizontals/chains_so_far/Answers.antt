use Rattle.std.proofs.Common.{[], ◌∷◌, refl, arith}
use Rattle.plan_dsl.specs.declared.operator.Operator.TheVariants.{LogicalAnd}
use Rattle.plan_dsl.specs.Ops.{BinaryOp}
use Rattle.plan_dsl.specs.Trees.{node, no_more, more}
use Rattle.plan_infer.specs.Samples.{a, b}
use Rattle.plan_lower.proofs.examples.horizontals.chains_so_far.Goals as goal

pub returns-clause-first : goal.returns-clause-first
returns-clause-first c = (a, more b no_more, a, refl, refl, ([], (omega arith, refl), tt))

pub returns-clause-second : goal.returns-clause-second
returns-clause-second c =
    (a, more b no_more, node (BinaryOp LogicalAnd) (more a (more b no_more)), refl, refl, (0 ∷ 1 ∷ [], (omega arith, refl), (([], (omega arith, refl), tt), (([], (omega arith, refl), tt), tt))))
