-- Slices.
-- A slice has the values from a place on, so many of them. Either end may lie outside: what is there is given.
use Rattle.std.specs.Prelude.{ℕ, ℤ, pos, negsuc, ◌+ℤ◌, List, [], ◌∷◌, length, take, drop}
use Rattle.plan_types.specs.Values.{Val, IntValue}
use Rattle.plan_types.specs.Outcomes.{Outcome, Done, Stuck}

-- the place at which a slice of so many values starts: an offset below 0 counts from the end, maybe past the front
abbrev pub slice_start : ℤ → ℕ → ℤ
slice_start (pos offset) count = pos offset
slice_start (negsuc before) count = pos count +ℤ negsuc before

-- how many values stand in front of a place: none of one past the front
abbrev pub in_front_of : ℤ → ℕ
in_front_of (pos place) = place
in_front_of (negsuc before) = 0

-- the values from a place on that stand in front of another
abbrev pub between_places : {A : Type 0} → ℤ → ℤ → List A → List A
between_places start stop values = drop (in_front_of start) (take (in_front_of stop) values)

-- the offset that a value says, which is 0 of null
abbrev pub offset_of : Val → ℤ
offset_of (IntValue number) = number
offset_of value = pos 0

-- so many values from a place on, which are all of null
abbrev pub sliced : ℤ → Val → List Val → List Val
sliced start (IntValue count) values = between_places start (start +ℤ count) values
sliced start count values = drop (in_front_of start) values

-- a slice of a column, of one offset and one length
abbrev pub slice_values : List Val → List Val → List Val → Outcome (List Val)
slice_values values (offset ∷ []) (count ∷ []) = Done (sliced (slice_start (offset_of offset) (length values)) count values)
slice_values values offsets counts = Stuck
