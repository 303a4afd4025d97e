use Rattle.std.proofs.Common.{◌++◌, ap, ◌∙◌}
use Rattle.std.specs.Str.{chars}
use Rattle.std.proofs.lemmas.Str.{chars-append}
use Rattle.plan_expand.proofs.expr_expansion.joined.Goals as goal

pub returns-clause-ok : goal.returns-clause-ok
returns-clause-ok c =
    let first = c.as_str.result.now in
    let second = c.as_str-2.result.now in
    c.in_ok-copy.ensures.ok
    ∙ ap chars (c.as_str-3.ensures.value ∙ c.in_ok-push_str.ensures.bytes ∙ ap (λ l. l ++ second) c.in_ok-text.ensures.ok)
    ∙ chars-append first second c.as_str.utf8 ∙ (λ i. c.as_str.ensures i ++ c.as_str-2.ensures i)
