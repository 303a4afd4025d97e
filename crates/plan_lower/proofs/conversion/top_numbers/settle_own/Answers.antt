use Rattle.plan_lower.proofs.TopNumberLemmas.{own_item}
use Rattle.plan_lower.proofs.conversion.top_numbers.settle_own.Goals as goal

pub returns-in_default-clause-settled : goal.returns-in_default-clause-settled
returns-in_default-clause-settled c = own_item c.args.expr.now c.in_default.not-Literal
