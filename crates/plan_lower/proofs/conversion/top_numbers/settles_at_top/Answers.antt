use Rattle.std.proofs.Common.{sym, ◌∙◌}
use Rattle.plan_lower.proofs.TopNumberLemmas.{at_top}
use Rattle.plan_lower.proofs.conversion.top_numbers.settles_at_top.Goals as goal

pub returns-in_default : goal.returns-in_default
returns-in_default c = c.settles_own-in_default.ensures ∙ sym (at_top c.args.expr.now c.in_default.not-Alias).0
