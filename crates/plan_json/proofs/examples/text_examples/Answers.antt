use Rattle.plan_json.proofs.Names.{[], refl, ◌∷◌, number}
use Rattle.plan_json.specs.Samples.{to}
use Rattle.plan_json.proofs.OnLiterals.{values_on_literals}
use Rattle.plan_json.proofs.TextTests.{each_written, each_refused}
use Rattle.plan_json.proofs.examples.text_examples.Goals as goal

pub returns-clause-written : goal.returns-clause-written
unfolding values_on_literals
returns-clause-written c = each_written _ refl refl

pub returns-clause-refused : goal.returns-clause-refused
unfolding values_on_literals
returns-clause-refused c =
    let scan = to "plan" (to "scan" []) in
    each_refused _ (to "plan" [] ∷ to "plan" (to "empty" (number 0 ∷ number 1 ∷ to "Datetime" [])) ∷ scan ∷ to "plan" (to "filter" (number 1 ∷ to "lit" [])) ∷ scan ∷ scan ∷ to "plan" (to "filter" (number 1 ∷ to "exclude" (number 1 ∷ number 0 ∷ to "name" []))) ∷ to "plan" (to "filter" (number 1 ∷ to "over" (number 2 ∷ number 2 ∷ []))) ∷ scan ∷ scan ∷ [])
    ((refl, refl, refl), ((refl, refl, refl), ((refl, refl, refl), ((refl, refl, refl), ((refl, refl, refl), ((refl, refl, refl), ((refl, refl, refl), ((refl, refl, refl), ((refl, refl, refl), ((refl, refl, refl), tt))))))))))
