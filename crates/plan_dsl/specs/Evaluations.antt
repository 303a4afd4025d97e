-- Expressions as a plan's node sees them on a frame, and the columns that they give.
use Rattle.std.specs.Prelude.{ℕ, List, [], ◌∷◌, map, Result, Ok, Err}
use Rattle.plan_types.specs.Types.{Ty}
use Rattle.plan_types.specs.Schemas.{Name, Columns}
use Rattle.plan_types.specs.Values.{Val}
use Rattle.plan_types.specs.Outcomes.{Outcome, Done, Stuck, then_do}
use Rattle.plan_types.specs.Frames.{Frame}
use Rattle.plan_types.specs.declared.error.ErrorKind.{ErrorKind}
use Rattle.plan_dsl.specs.Ops.{Expression}
use Rattle.plan_dsl.specs.Plans.{Named}
use Rattle.plan_dsl.specs.Typing.{Typed}
use Rattle.plan_dsl.specs.Kernels.{Meaning}

-- an expression as a node sees it on a frame: its name, its typing, and what it gives
pub record Evaluated : Type 0 where
  pub name : Name
  pub typing : Result Typed ErrorKind
  pub gives : Meaning

-- how expressions are evaluated on a frame
abbrev pub Evaluation : Type 0
Evaluation = Frame → Named Expression → Evaluated

-- a column of a frame to be: its name, type and values
pub record Series : Type 0 where
  pub name : Name
  pub type : Ty
  pub values : List Val

-- what is given of that type
abbrev pub series_typed : Name → Result Typed ErrorKind → Outcome (List Val) → Outcome Series
series_typed name (Err kind) given = Stuck
series_typed name (Ok typed) given = then_do given (λ values. Done (record { name = name; type = typed.type; values = values }))

abbrev pub series_on : List ℕ → Evaluated → Outcome Series
series_on rows e = series_typed e.name e.typing (e.gives rows)

-- what each gives. The first that gives nothing is the answer
abbrev pub all_series : List ℕ → List Evaluated → Outcome (List Series)
all_series rows [] = Done []
all_series rows (e ∷ es) = then_do (series_on rows e) (λ s. then_do (all_series rows es) (λ ss. Done (s ∷ ss)))

abbrev pub series_columns : List Series → Columns
series_columns ss = map (λ s. (s.name, s.type)) ss
