-- Columns side by side.
-- Columns are brought to a common length: one of one value is repeated, and other unequal lengths are a data fault. Then
-- there is a row for each of so many values.
use Rattle.std.specs.Prelude.{ℕ, List, [], ◌∷◌, map, length, replicate, Option, Some, None, ◌==◌, ◌||◌, if◌then◌else◌}
use Rattle.plan_types.specs.Values.{Val}
use Rattle.plan_types.specs.Outcomes.{Outcome, Done, Fault, then_do}
use Rattle.plan_types.specs.Casts.{Converted, Gives, Fails}
use Rattle.plan_types.specs.Frames.{Row}

-- the length to which two columns are brought
abbrev pub common_length : ℕ → ℕ → Option ℕ
common_length left right =
    if left == right then Some left else (if left == 1 then Some right else (if right == 1 then Some left else None))

-- a column brought to that length
abbrev pub stretched : ℕ → List Val → List Val
stretched count [] = []
stretched count (value ∷ []) = replicate count value
stretched count (first ∷ second ∷ rest) = first ∷ second ∷ rest

-- values for that many rows: one for each, or a single one that is repeated
abbrev pub for_rows : ℕ → List Val → Outcome (List Val)
for_rows count values = if length values == count || length values == 1 then Done (stretched count values) else Fault

-- a value in front of each row
abbrev pub in_front : List Val → List Row → List Row
in_front [] rows = []
in_front (value ∷ values) [] = []
in_front (value ∷ values) (row ∷ rows) = (value ∷ row) ∷ in_front values rows

-- what is made at the common length, which is a fault where there is none
abbrev pub at_length : {A : Type 0} → Option ℕ → (ℕ → A) → Outcome A
at_length None make = Fault
at_length (Some count) make = Done (make count)

-- the keys beside each of so many values: a column of keys has as many, or a single one that is repeated
abbrev pub key_rows : ℕ → List (List Val) → Outcome (List Row)
key_rows count [] = Done (replicate count [])
key_rows count (key ∷ keys) = then_do (for_rows count key) (λ column. then_do (key_rows count keys) (λ rows. Done (in_front column rows)))

-- one more value in front
abbrev pub value_before : Converted → Outcome (List Val) → Outcome (List Val)
value_before Fails rest = Fault
value_before (Gives value) rest = then_do rest (λ values. Done (value ∷ values))

-- ---- any number of columns

-- the length to which columns of these are brought: one, where there is no column
abbrev pub length_beside : ℕ → Option ℕ → Option ℕ
length_beside count None = None
length_beside count (Some other) = common_length count other

abbrev pub length_of_all : List ℕ → Option ℕ
length_of_all [] = Some 1
length_of_all (count ∷ counts) = length_beside count (length_of_all counts)

abbrev pub rows_of : Option ℕ → List (List Val) → Outcome (List Row)
rows_of None columns = Fault
rows_of (Some count) columns = key_rows count columns

-- columns, row by row
abbrev pub side_by_side : List (List Val) → Outcome (List Row)
side_by_side columns = rows_of (length_of_all (map length columns)) columns

-- what a function gives of each row, which may be a fault
abbrev pub each_row : (Row → Converted) → List Row → Outcome (List Val)
each_row f [] = Done []
each_row f (row ∷ rows) = value_before (f row) (each_row f rows)

abbrev pub by_row : (Row → Converted) → List (List Val) → Outcome (List Val)
by_row f columns = then_do (side_by_side columns) (each_row f)
