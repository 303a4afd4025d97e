-- Laws of properties of expressions.
use Rattle.std.specs.Prelude.{◌≡◌, ℕ, Bool, true, false, List, [], ◌∷◌, ◌++◌, length, Ok, if◌then◌else◌}
use Rattle.plan_types.specs.Frames.{Frame, IsFrame, Row, row_at}
use Rattle.plan_types.specs.Schemas.{Columns}
use Rattle.plan_types.specs.Outcomes.{Outcome, Done, Fault, Stuck, Meets, then_do}
use Rattle.plan_types.specs.Values.{Val}
use Rattle.plan_dsl.specs.Properties.{is_elementwise, is_scalar, permits_pushdown}
use Rattle.plan_dsl.specs.Registry.{Registry}
use Rattle.plan_dsl.specs.Ops.{Expression}
use Rattle.plan_dsl.specs.Typing.{Typed, typing}
use Rattle.plan_dsl.specs.Kernels.{Meaning}
use Rattle.plan_dsl.specs.Meaning.{meaning}

-- a column that a scalar expression gives has one value, whatever the rows
abbrev pub ScalarsHaveOneValue : Type 0
ScalarsHaveOneValue =
    (registry : Registry) (frame : Frame) (tree : Expression) (typed : Typed) → IsFrame frame → typing registry frame.schema tree ≡ Ok typed → is_scalar tree ≡ true
    → (rows : List ℕ) → Meets (λ (values : List Val). length values ≡ 1) (meaning registry frame tree rows)

-- there are so many values, or a fault where there may be one
abbrev pub HasValuesOr : Type 0 → ℕ → Outcome (List Val) → Type 0
HasValuesOr Allowed count (Done values) = length values ≡ count
HasValuesOr Allowed count Fault = Allowed
HasValuesOr Allowed count Stuck = ⊥

-- there are so many, and no fault
abbrev pub HasValues : ℕ → Outcome (List Val) → Type 0
HasValues count outcome = HasValuesOr ⊥ count outcome

-- one for each row, or one
abbrev pub row_count : Bool → ℕ → ℕ
row_count many rows = if many then rows else 1

-- an expression that a filter may come before has no fault, and a value for each row, or one
abbrev pub PushdownsHaveNoFault : Type 0
PushdownsHaveNoFault =
    (registry : Registry) (frame : Frame) (tree : Expression) (typed : Typed) → typing registry frame.schema tree ≡ Ok typed → permits_pushdown tree ≡ true
    → (rows : List ℕ) → HasValues (row_count typed.many (length rows)) (meaning registry frame tree rows)

-- columns one behind the other. A fault of the first comes first
abbrev pub joined : Outcome (List Val) → Outcome (List Val) → Outcome (List Val)
joined first second = then_do first (λ values. then_do second (λ others. Done (values ++ others)))

-- what each row gives by itself
abbrev pub by_rows : Meaning → List ℕ → Outcome (List Val)
by_rows means [] = Done []
by_rows means (row ∷ rows) = joined (means (row ∷ [])) (by_rows means rows)

-- on rows, of which there is one, it gives what each row gives by itself, with a fault where some row has one; and where it
-- has one value, that is the same on any rows
abbrev pub GoesByRows : Bool → Meaning → Type 0
GoesByRows true means = (row : ℕ) (rows : List ℕ) → means (row ∷ rows) ≡ by_rows means (row ∷ rows)
GoesByRows false means = (rows others : List ℕ) → means rows ≡ means others

abbrev pub ElementwiseGoesByRows : Type 0
ElementwiseGoesByRows =
    (registry : Registry) (frame : Frame) (tree : Expression) (typed : Typed) → typing registry frame.schema tree ≡ Ok typed → is_elementwise tree ≡ true
    → GoesByRows typed.many (meaning registry frame tree)

-- and what a row gives hangs on that row alone: frames of one schema that have the same row give the same there
abbrev pub RowsDecide : Type 0
RowsDecide =
    (registry : Registry) (schema : Columns) (rows others : List Row) (tree : Expression) → is_elementwise tree ≡ true → (row other : ℕ)
    → row_at (record { schema = schema; rows = rows }) row ≡ row_at (record { schema = schema; rows = others }) other
    → meaning registry (record { schema = schema; rows = rows }) tree (row ∷ []) ≡ meaning registry (record { schema = schema; rows = others }) tree (other ∷ [])
