use Rattle.std.proofs.Common.{◌≡◌, ◌∙◌, Bool, true, cond, List, [], ◌∷◌, map, refl, ap}
use Rattle.std.specs.List.{AllByRecursion, list_any}
use Rattle.plan_types.specs.Frames.{Row}
use Rattle.plan_dsl.specs.Groups.{same_keys}
use Rattle.plan_dsl.specs.Samples.{no, number, rising, yes}
use Rattle.plan_dsl.specs.SortLaws.{IsInOrder}
use Rattle.plan_dsl.specs.Sorting.{keys_before}
use Rattle.plan_dsl.proofs.SortLemmas.{permuted_each}
use Rattle.plan_dsl.proofs.examples.frame_rows.rows_of_the_laws.Goals as goal

abbrev before : Row × Row → Row × Row → Bool
before left right = keys_before (rising ∷ []) left.1 right.1

-- the keys beside a row
abbrev key_of : Row → Row
key_of row = cond (same_keys row (yes ∷ [])) (number 2 ∷ []) (number 1 ∷ [])

unsorted : (beside : List (Row × Row)) → (yes ∷ []) ∷ (no ∷ []) ∷ [] ≡ map (λ row. row.0) beside → AllByRecursion (λ (row : Row × Row). row.1 ≡ key_of row.0) beside → IsInOrder before beside → ⊥
unsorted [] found own order = cc
unsorted (first ∷ []) found own order = cc
unsorted (first ∷ second ∷ []) found own order =
    let first_row : first.0 ≡ yes ∷ [] = cc in
    let second_row : second.0 ≡ no ∷ [] = cc in
    let first_key = own.0 ∙ ap key_of first_row in
    let second_key = own.1.0 ∙ ap key_of second_row in
    let turned : keys_before (rising ∷ []) second.1 first.1 ≡ true = ap (λ key. keys_before (rising ∷ []) key first.1) second_key ∙ ap (keys_before (rising ∷ []) (number 1 ∷ [])) first_key in
    let straight = order.0.0 in
    cc
unsorted (first ∷ second ∷ third ∷ rest) found own order = cc

pub returns-clause-out_of_order : goal.returns-clause-out_of_order
returns-clause-out_of_order c = λ sort. unsorted sort.beside sort.found_is (permuted_each (λ (row : Row × Row). row.1 ≡ key_of row.0) ((yes ∷ [], number 2 ∷ []) ∷ (no ∷ [], number 1 ∷ []) ∷ []) sort.beside sort.sorted.same (refl, (refl, tt))) sort.sorted.in_order

none_there : (beside : List (Row × Row)) → [] ≡ map (λ row. row.1) beside → list_any (λ other. same_keys other (yes ∷ [])) (map (λ row. row.0) beside) ≡ true → ⊥
none_there [] found there = cc
none_there (row ∷ rows) found there = cc

pub returns-clause-too_few : goal.returns-clause-too_few
returns-clause-too_few c = λ once. none_there once.beside once.found_is once.all.0

one_there : (beside : List (Row × Row)) → (no ∷ []) ∷ [] ≡ map (λ row. row.1) beside → map (λ row. row.0) beside ≡ [] → ⊥
one_there [] found none = cc
one_there (row ∷ rows) found none = cc

pub returns-clause-too_many : goal.returns-clause-too_many
returns-clause-too_many c = λ once. one_there once.beside once.found_is once.in_order
