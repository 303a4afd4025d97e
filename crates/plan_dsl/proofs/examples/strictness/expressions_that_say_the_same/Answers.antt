use Rattle.std.proofs.Common.{◌≡◌, [], ◌∷◌, pos, ap}
use Rattle.plan_types.specs.Values.{NullValue, IntValue}
use Rattle.plan_types.specs.Outcomes.{Done, Fault}
use Rattle.plan_dsl.proofs.examples.strictness.expressions_that_say_the_same.Goals as goal

-- on a row of 200 the strict cast is a fault, and the other gives null
pub returns-clause-other_meaning : goal.returns-clause-other_meaning
returns-clause-other_meaning c = λ same.
    let row = NullValue ∷ IntValue (pos 200) ∷ NullValue ∷ [] in
    let on_row : Done (NullValue ∷ []) ≡ Fault = ap (λ means. means (0 ∷ [])) (same.meaning (row ∷ [])) in
    cc
