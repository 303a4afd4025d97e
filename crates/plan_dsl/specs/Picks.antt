-- Values that are picked out of a column.
-- Exploding a list gives its values, and a null in place of none. Gathering gives the value at each index: one below 0
-- counts from the end, null gives null, and one outside is a data fault. A filter keeps what stands beside a true value.
use Rattle.std.specs.Prelude.{ℤ, pos, negsuc, List, [], ◌∷◌, length, Option, Some, None, Bool, false, slice_get, flat_map, if◌then◌else◌}
use Rattle.plan_types.specs.Values.{Val, Vals, no_value, with_value, NullValue, TruthValue, IntValue, ListValue}
use Rattle.plan_types.specs.Outcomes.{Outcome, Done, Fault, then_do}
use Rattle.plan_dsl.specs.Slices.{slice_start}

-- ---- out of lists

-- the values of a list
abbrev pub items_in : Vals → List Val
items_in no_value = []
items_in (with_value first rest) = first ∷ items_in rest

-- values, or a null in place of none
abbrev pub or_null : List Val → List Val
or_null [] = NullValue ∷ []
or_null (value ∷ values) = value ∷ values

-- what a value explodes to: a list to its values, and any other value, a null among them, to itself
abbrev pub exploded : Val → List Val
exploded (ListValue items) = or_null (items_in items)
exploded value = value ∷ []

abbrev pub explode_values : List Val → List Val
explode_values values = flat_map exploded values

-- ---- at indices

-- a value that was found, else a fault
abbrev pub or_fault : Option Val → Outcome Val
or_fault None = Fault
or_fault (Some value) = Done value

-- the value at a place, which may lie in front of the first
abbrev pub at_place : List Val → ℤ → Outcome Val
at_place values (pos place) = or_fault (slice_get values place)
at_place values (negsuc before) = Fault

-- the value at an index
abbrev pub gathered : List Val → Val → Outcome Val
gathered values (IntValue index) = at_place values (slice_start index (length values))
gathered values index = Done NullValue

-- the value at each index
abbrev pub gather_values : List Val → List Val → Outcome (List Val)
gather_values values [] = Done []
gather_values values (index ∷ indices) = then_do (gathered values index) (λ value. then_do (gather_values values indices) (λ rest. Done (value ∷ rest)))

-- ---- where it is true

abbrev pub is_true : Val → Bool
is_true (TruthValue truth) = truth
is_true value = false

-- what stands beside a true value
abbrev pub where_true : {A : Type 0} → List Val → List A → List A
where_true [] items = []
where_true (truth ∷ truths) [] = []
where_true (truth ∷ truths) (item ∷ items) = if is_true truth then item ∷ where_true truths items else where_true truths items
