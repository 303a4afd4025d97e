use Rattle.std.proofs.Common.{◌&&◌, nat_lt, ap, sym, ◌∙◌}
use Rattle.plan_lower.proofs.HorizontalLemmas.{function_chained}
use Rattle.plan_lower.proofs.conversion.horizontals.is_chain.Goals as goal

pub returns-in-Some : goal.returns-in-Some
returns-in-Some c =
    let kind = c.in-Function in
    sym (function_chained c.args.expr.now kind.input kind.function c.args.count kind.is ∙ ap (λ b. b && nat_lt 2 c.args.count) c.in-Some.ensures.1.out)

pub returns-in-None : goal.returns-in-None
returns-in-None c =
    let kind = c.in-Function in
    sym (function_chained c.args.expr.now kind.input kind.function c.args.count kind.is ∙ ap (λ b. b && nat_lt 2 c.args.count) c.in-None.ensures)
