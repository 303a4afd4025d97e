use Rattle.std.proofs.Common.{◌∙◌, sym}
use Rattle.plan_lower.proofs.TopNumberLemmas.{at_top}
use Rattle.plan_lower.proofs.conversion.top_numbers.+settle.Goals as goal

pub returns-in_default-clause-settled : goal.returns-in_default-clause-settled
returns-in_default-clause-settled t c = c.settle_own.ensures.settled ∙ sym (at_top c.args.expr.now c.in_default.not-Alias).2
