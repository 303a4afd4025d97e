use Rattle.std.proofs.Common.{sym, ap, ◌∙◌}
use Rattle.plan_dsl.specs.Properties.{asks_literal}
use Rattle.plan_properties.specs.Asking.{literals_at}
use Rattle.plan_properties.proofs.AskingLemmas.{second_asked}
use Rattle.plan_properties.proofs.asked.asks_literal.Goals as goal

pub returns-then-len-gt1 : goal.returns-then-len-gt1
returns-then-len-gt1 c =
    let ns = c.args.inputs.now in
    c.is_literal.ensures ∙ second_asked c.args.arena.now ns c.at.result.0 c.at.ensures ∙ ap (λ f. asks_literal f (literals_at c.args.arena.now ns)) (sym c.in-IsIn.is)
