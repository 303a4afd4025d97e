use Rattle.plan_dsl.specs.Expressions.{plain_tree}
use Rattle.plan_dsl.specs.Names.{alias_label}
use Rattle.plan_lower.proofs.HorizontalLemmas.{alias_as, called_alone, called_as}
use Rattle.plan_lower.proofs.conversion.expr_to_ir.+first_alias.Goals as goal

pub returns-in-Some : goal.returns-in-Some
returns-in-Some t c =
    let kind = c.in-Function in
    let named = called_as c.args.expr.now c.in-Some.first.now kind.input kind.function kind.is c.in-Some.ensures.1 in
    alias_as (λ n. alias_label n.now) (plain_tree c.args.expr.now) (plain_tree c.in-Some.first.now) c.first_alias-in-Some.result named c.first_alias-in-Some.ensures

pub returns-in-None : goal.returns-in-None
returns-in-None t c = called_alone c.args.expr.now c.in-Function.input c.in-Function.function c.in-Function.is c.in-None.ensures
