use Rattle.std.proofs.Common.{◌≡◌, ◌∙◌, ℕ, List, [], ◌∷◌, Some, map, refl, sym, ap, subst}
use Rattle.std.specs.List.{AllByRecursion}
use Rattle.plan_types.specs.Values.{Val}
use Rattle.plan_types.specs.Frames.{Row}
use Rattle.plan_types.specs.Outcomes.{Done}
use Rattle.plan_dsl.specs.Groups.{Group, groups}
use Rattle.plan_dsl.specs.WindowLaws.{HaveWhatIsGiven, of_each}
use Rattle.plan_dsl.specs.Windows.{Spot, spots_from}
use Rattle.plan_dsl.specs.Samples.{no, null, number, spot, yes}
use Rattle.plan_dsl.proofs.examples.windows.values_that_rows_are_given.Goals as goal

pub returns-clause-each : goal.returns-clause-each
returns-clause-each c = record { values = number 7 ∷ number 5 ∷ []; given = refl; placed = refl }

pub returns-clause-one : goal.returns-clause-one
returns-clause-one c = record { values = yes ∷ yes ∷ []; given = refl; placed = refl }

pub returns-clause-in_order : goal.returns-clause-in_order
returns-clause-in_order c = λ h.
    let given : Done (number 7 ∷ number 5 ∷ []) ≡ Done h.values = h.given in
    let values : number 7 ∷ number 5 ∷ [] ≡ h.values = cc in
    let placed : Some (number 5) ∷ Some (number 7) ∷ [] ≡ Some (number 7) ∷ Some (number 5) ∷ [] = h.placed ∙ ap (map Some) (sym values) in
    cc

pub returns-clause-too_few : goal.returns-clause-too_few
returns-clause-too_few c = λ h.
    let given : Done (number 7 ∷ number 5 ∷ []) ≡ Done h.values = h.given in
    let values : number 7 ∷ number 5 ∷ [] ≡ h.values = cc in
    let placed = h.placed ∙ ap (map Some) (sym values) in
    cc

pub returns-clause-wrong_number : goal.returns-clause-wrong_number
returns-clause-wrong_number c = λ h. let given = h.given in cc

-- the second row of the first group has what stands there for another group
pub returns-clause-by_groups : goal.returns-clause-by_groups
returns-clause-by_groups c = λ h.
    let found : List Val = number 7 ∷ number 6 ∷ number 5 ∷ [] in
    let rows : List ℕ = 7 ∷ 5 ∷ 6 ∷ [] in
    let orders : List Val = null ∷ null ∷ null ∷ [] in
    let keys : List Row = (yes ∷ []) ∷ (no ∷ []) ∷ (yes ∷ []) ∷ [] in
    let All : List Row → List Val → Type 0 = λ keys orders. AllByRecursion (λ (group : Group Spot). HaveWhatIsGiven (of_each number) group.items found) (groups keys (spots_from 0 rows orders)) in
    let keys_given : Done keys ≡ Done h.keys_of_rows = h.keys_are in
    let orders_given : Done orders ≡ Done h.order_of_rows = h.order_is in
    let keys_are : keys ≡ h.keys_of_rows = cc in
    let orders_are : orders ≡ h.order_of_rows = cc in
    let groups_have : All keys orders = subst (λ k. All k orders) (sym keys_are) (subst (λ o. All h.keys_of_rows o) (sym orders_are) h.in_groups) in
    let first : HaveWhatIsGiven (of_each number) (spot 0 7 null ∷ spot 2 6 null ∷ []) found = groups_have.0 in
    let given : Done (number 7 ∷ number 6 ∷ []) ≡ Done first.values = first.given in
    let values : number 7 ∷ number 6 ∷ [] ≡ first.values = cc in
    let placed : Some (number 7) ∷ Some (number 5) ∷ [] ≡ Some (number 7) ∷ Some (number 6) ∷ [] = first.placed ∙ ap (map Some) (sym values) in
    cc
