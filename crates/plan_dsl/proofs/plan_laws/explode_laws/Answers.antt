use Rattle.plan_dsl.proofs.ExplodeLemmas.{explodes_have_the_items, one_column_explodes}
use Rattle.plan_dsl.proofs.plan_laws.explode_laws.Goals as goal

pub returns : goal.returns
returns c = record { items = explodes_have_the_items; one_column = one_column_explodes }
