use Rattle.std.proofs.Common.{[], ◌∷◌, map, is_some, unwrap_or, slice_get, IsTrue, false, ap, subst}
use Rattle.plan_lower.specs.Lowering.{recorded_in}
use Rattle.plan_lower.proofs.examples.plans.recorded_schemas.Goals as goal

pub returns-clause-recorded : goal.returns-clause-recorded
returns-clause-recorded c = λ plans is. ap (λ layers. map (λ n. recorded_in (slice_get layers n)) (0 ∷ 1 ∷ 2 ∷ 3 ∷ [])) is

pub returns-clause-columns : goal.returns-clause-columns
returns-clause-columns c = λ plans is. ap (λ layers. map (λ n. unwrap_or (recorded_in (slice_get layers n)) []) (0 ∷ 1 ∷ [])) is

pub returns-clause-of_no_columns : goal.returns-clause-of_no_columns
returns-clause-of_no_columns c = λ plans is. ap (λ layers. is_some (recorded_in (slice_get layers 0))) is

pub returns-clause-none : goal.returns-clause-none
returns-clause-none c = λ plans is records.
    let never : IsTrue false = subst (λ layers. IsTrue (is_some (recorded_in (slice_get layers 0)))) is records in cc
