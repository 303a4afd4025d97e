use Rattle.std.proofs.Common.{◌≡◌, ◌∙◌, ℕ, false, List, [], ◌∷◌, map, refl, sym, ap}
use Rattle.plan_types.specs.Frames.{Row}
use Rattle.plan_types.specs.Outcomes.{Done, Fault}
use Rattle.plan_types.specs.Values.{Val}
use Rattle.plan_dsl.specs.Kernels.{key_rows}
use Rattle.plan_dsl.specs.Samples.{int8, number, rising}
use Rattle.plan_dsl.specs.Sorting.{sorted_rows}
use Rattle.plan_dsl.proofs.OrderLemmas.{sorts_by_keys}
use Rattle.plan_dsl.proofs.examples.sorts.items_in_order.Goals as goal

abbrev seconds : List (ℕ × ℕ) → List ℕ
seconds pairs = map (λ pair. pair.1) pairs

turned : (straight other : List ℕ) → straight ≡ 5 ∷ 6 ∷ [] → other ≡ 6 ∷ 5 ∷ [] → other ≡ straight → ⊥
turned straight other h k same = cc

pub returns-clause-unstable : goal.returns-clause-unstable
returns-clause-unstable c sorted = turned (5 ∷ 6 ∷ []) (6 ∷ 5 ∷ []) refl refl (ap seconds (sorted.stable (1, 5) refl))

abbrev values : List Val
values = number 7 ∷ number 8 ∷ []

abbrev keys : List (List Val)
keys = (number 2 ∷ number 1 ∷ []) ∷ []

abbrev sorted_values : List Row → List Val
sorted_values rows = map (λ row. row.0) (sorted_rows (rising ∷ []) rows values)

pub returns-clause-by_keys : goal.returns-clause-by_keys
returns-clause-by_keys c = sorts_by_keys (false ∷ []) (false ∷ []) (int8 ∷ []) values keys (number 8 ∷ number 7 ∷ []) refl refl

apart : (rows : List Row) → key_rows 2 keys ≡ Done rows → values ≡ sorted_values rows → ⊥
apart rows beside found =
    let same : ((number 2 ∷ []) ∷ (number 1 ∷ []) ∷ []) ≡ rows = cc in
    let other : values ≡ number 8 ∷ number 7 ∷ [] = found ∙ ap sorted_values (sym same) in
    cc

pub returns-clause-by_no_keys : goal.returns-clause-by_no_keys
returns-clause-by_no_keys c sort = apart sort.rows sort.beside sort.found_is

none : (rows : List Row) → Fault ≡ Done rows → ⊥
none rows beside = cc

pub returns-clause-by_long_keys : goal.returns-clause-by_long_keys
returns-clause-by_long_keys c found sort = none sort.rows sort.beside
