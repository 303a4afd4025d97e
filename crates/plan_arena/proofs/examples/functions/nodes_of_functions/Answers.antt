use Rattle.std.proofs.Common.{[], ◌∷◌, Some, refl, ap}
use Rattle.plan_dsl.specs.declared.function_expr.FunctionExpr.TheVariants.{IsNull}
use Rattle.plan_dsl.specs.Ops.{FunctionOp}
use Rattle.plan_arena.specs.Layers.{layer}
use Rattle.plan_arena.specs.Items.{numbers_named, recorded}
use Rattle.plan_arena.proofs.examples.functions.nodes_of_functions.Goals as goal

pub returns-clause-denotes : goal.returns-clause-denotes
returns-clause-denotes c = λ input is.
    (0 ∷ [], ap (λ exprs. Some (layer (FunctionOp IsNull (recorded exprs)) (numbers_named exprs))) is, (([], refl, tt), tt))
