use Rattle.std.proofs.Common.{sym, ◌∙◌}
use Rattle.plan_lower.proofs.conversion.projection.add_typed.Goals as goal

pub returns-in_ok-expr_ir-in-Ok-clause-name : goal.returns-in_ok-expr_ir-in-Ok-clause-name
returns-in_ok-expr_ir-in-Ok-clause-name c = c.in_ok-expr_ir-in-Ok.ensures.name ∙ sym c.in-Ok.ensures.ok.1
