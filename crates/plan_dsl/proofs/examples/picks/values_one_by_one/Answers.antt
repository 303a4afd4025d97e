use Rattle.std.proofs.Common.{◌≡◌, List, [], ◌∷◌, Some, map, refl, ap}
use Rattle.plan_types.specs.Outcomes.{Done, Fault}
use Rattle.plan_types.specs.Values.{Val}
use Rattle.plan_dsl.specs.Samples.{no, null}
use Rattle.plan_dsl.proofs.examples.picks.values_one_by_one.Goals as goal

pub returns-clause-each : goal.returns-clause-each
returns-clause-each c = record {
  found = λ values h. let is : no ∷ null ∷ [] ≡ values = cc in ap (map Done) is;
  gives = found;
}
  where
    found : (values : List Val) → Done no ∷ Done null ∷ [] ≡ map Done values → Done (no ∷ null ∷ []) ≡ Done values
    found [] h = cc
    found (value ∷ []) h = cc
    found (first ∷ second ∷ third ∷ rest) h = cc
    found (first ∷ second ∷ []) h = cc

pub returns-clause-too_few : goal.returns-clause-too_few
returns-clause-too_few c = λ h. let found : Done no ∷ Done null ∷ [] ≡ Done no ∷ [] = h.found (no ∷ []) refl in cc

pub returns-clause-with_a_fault : goal.returns-clause-with_a_fault
returns-clause-with_a_fault c = λ h. let found : Done no ∷ Fault ∷ [] ≡ Done no ∷ Done null ∷ [] = h.found (no ∷ null ∷ []) refl in cc

pub returns-clause-rows : goal.returns-clause-rows
returns-clause-rows c = λ h. let second : Some no ∷ Some no ∷ [] ≡ Some no ∷ Some null ∷ [] = h.each 1 (no ∷ null ∷ []) refl in cc
