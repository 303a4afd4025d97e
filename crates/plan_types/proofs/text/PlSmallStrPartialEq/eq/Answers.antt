use Rattle.std.proofs.Common.{◌∙◌}
use Rattle.plan_types.proofs.TextLemmas.{eq_by_chars}
use Rattle.plan_types.proofs.text.PlSmallStrPartialEq.eq.Goals as goal

pub returns : goal.returns
returns c =
    rw (← c.as_str.ensures, ← c.as_str-2.ensures) (c.eq.ensures ∙ eq_by_chars _ _ c.as_str.utf8 c.as_str-2.utf8)
