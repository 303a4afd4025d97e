use Rattle.std.proofs.lemmas.Str.{encodes-chars}
use Rattle.plan_types.proofs.text.PlSmallStrHash.hash.Goals as goal

pub returns : goal.returns
returns g c = rw (← c.as_str.ensures, encodes-chars c.as_str.result.now c.as_str.utf8) c.hash.ensures
