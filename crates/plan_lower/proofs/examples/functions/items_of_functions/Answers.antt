use Rattle.std.proofs.Common.{[], refl, sym, ap, arith, subst}
use Rattle.plan_dsl.specs.declared.function_expr.FunctionExpr.TheVariants.{IsNull}
use Rattle.plan_dsl.specs.Ops.{FunctionOp}
use Rattle.plan_dsl.specs.Trees.{node, no_more, more}
use Rattle.plan_arena.specs.Denotation.{DenoteAll}
use Rattle.plan_arena.specs.Items.{HoldsFrom, numbers_named, recorded}
use Rattle.plan_infer.specs.Samples.{a, a_items}
use Rattle.plan_lower.proofs.examples.functions.items_of_functions.Goals as goal

pub returns-clause-ternary : goal.returns-clause-ternary
returns-clause-ternary c =
    record { operands = more a (more a (more a no_more)); is = refl; denote = (([], (omega arith, refl), tt), (([], (omega arith, refl), tt), (([], (omega arith, refl), tt), tt))) }

pub returns-clause-function : goal.returns-clause-function
returns-clause-function c = λ input is. record {
  operands = more a no_more;
  is = ap (λ exprs. node (FunctionOp IsNull (recorded exprs)) (more a no_more)) (sym is);
  denote = subst (λ exprs. DenoteAll (HoldsFrom 0 a_items) (numbers_named exprs) (more a no_more)) (sym is) (([], (omega arith, refl), tt), tt);
}
