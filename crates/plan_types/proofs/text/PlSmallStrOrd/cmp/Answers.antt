use Rattle.std.proofs.Common.{◌≡◌, refl, ap, ◌∙◌}
use Rattle.std.specs.Ordering.{nat_cmp}
use Rattle.std.specs.Str.Iter.{chars_rest}
use Rattle.std.proofs.lemmas.Iterator.{YieldsList-from_chars}
use Rattle.std.proofs.lemmas.Iterator.Search.{cmp_from_yields_List}
use Rattle.plan_types.proofs.text.PlSmallStrOrd.cmp.Goals as goal

pub returns : goal.returns
returns c =
    rw (← c.as_str.ensures, ← c.as_str-2.ensures)
    (cmp_from_yields_List (λ x y. y ≡ x) c.chars-2.result nat_cmp c.cmp.result c.cmp.ensures.ran (YieldsList-from_chars c.as_str.result.now c.as_str.utf8 c.chars.ensures.rest) (λ it e. YieldsList-from_chars c.as_str-2.result.now c.as_str-2.utf8 (ap chars_rest e ∙ c.chars-2.ensures.rest)) (λ x y. refl))
