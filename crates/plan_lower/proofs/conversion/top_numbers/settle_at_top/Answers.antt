use Rattle.std.proofs.Common.{sym, ◌∙◌}
use Rattle.plan_lower.proofs.TopNumberLemmas.{at_top}
use Rattle.plan_lower.proofs.conversion.top_numbers.settle_at_top.Goals as goal

pub returns-in_default-clause-settled : goal.returns-in_default-clause-settled
returns-in_default-clause-settled c = c.settle_own-in_default.ensures.settled ∙ sym (at_top c.args.expr.now c.in_default.not-Alias).1
