use Rattle.plan_json.proofs.Names.{sym, ◌∙◌, a_counted_type}
use Rattle.plan_json.proofs.Lemmas.{IsErrorOf-own, other_kind}
use Rattle.plan_json.proofs.ReaderLemmas.{told}
use Rattle.plan_json.proofs.literal.read_counted.Goals as goal

pub returns-then-not-is_counted : goal.returns-then-not-is_counted
returns-then-not-is_counted c =
    told (IsErrorOf-own a_counted_type _ _ _ c.shape.ensures (other_kind _ _ c.in-Ok.ensures.ok (sym c.is_counted.ensures ∙ c.if-not-is_counted.true)))
