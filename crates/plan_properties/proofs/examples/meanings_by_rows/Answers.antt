use Rattle.std.proofs.Common.{[], ◌∷◌}
use Rattle.plan_properties.proofs.examples.meanings_by_rows.Goals as goal

pub returns-clause-no_rows : goal.returns-clause-no_rows
returns-clause-no_rows c = λ h. let two = h 0 (1 ∷ []) in cc

pub returns-clause-many_values : goal.returns-clause-many_values
returns-clause-many_values c = λ h. let two = h (1 ∷ []) [] in cc
