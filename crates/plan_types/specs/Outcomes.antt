-- Outcomes.
-- What is asked of a frame comes to something, is a data fault, or is stuck: there is no way to go on.
pub data Outcome (A : Type 0) : Type 0 where
  Done : (found : A) → Outcome A
  Fault : Outcome A
  Stuck : Outcome A

-- goes on with what was found
abbrev pub then_do : {A B : Type 0} → Outcome A → (A → Outcome B) → Outcome B
then_do (Done found) next = next found
then_do Fault next = Fault
then_do Stuck next = Stuck

-- it isn't stuck, and what was found has the property
abbrev pub Meets : {A : Type 0} → (A → Type 0) → Outcome A → Type 0
Meets P (Done found) = P found
Meets P Fault = Unit {0}
Meets P Stuck = ⊥
