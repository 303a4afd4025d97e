use Rattle.plan_coerce.proofs.KindLemmas.{written_becomes}
use Rattle.plan_coerce.proofs.laws.coercion_laws.Goals as goal

pub returns : goal.returns
returns c = record { kinds = written_becomes }
