-- What each node over one input owes: on a frame of its input's schema it gives a frame of its own schema, whatever its
-- expressions give, as long as that is of their types.
use Rattle.std.specs.Prelude.{◌≡◌, ℕ, List, [], ◌∷◌, map, true, false, Ok}
use Rattle.std.specs.List.{flat_map}
use Rattle.plan_types.specs.Schemas.{Name, Columns}
use Rattle.plan_types.specs.Outcomes.{Meets}
use Rattle.plan_types.specs.Frames.{Frame, IsFrameOf}
use Rattle.plan_types.specs.declared.error.ErrorKind.{ErrorKind}
use Rattle.plan_dsl.specs.Plans.{Work}
use Rattle.plan_dsl.specs.PlanRules.{TypedOutput, type_kinds, work_kinds, work_schema}
use Rattle.plan_dsl.specs.Evaluations.{Evaluated}
use Rattle.plan_dsl.specs.PlanKernels.{gives_nothing, work_frame}
use Rattle.plan_dsl.specs.Laws.{AreOf}

-- what an expression is on a frame: under its name, of its type
pub record IsGiven (output : TypedOutput) (e : Evaluated) : Type 0 where
  pub name : e.name ≡ output.name
  pub typing : e.typing ≡ Ok output.typed
  pub gives : (rows : List ℕ) → Meets (AreOf output.typed) (e.gives rows)

-- so are expressions one by one, and lists of them
abbrev pub AreGiven : List TypedOutput → List Evaluated → Type 0
AreGiven [] [] = Unit {0}
AreGiven (output ∷ outputs) (e ∷ es) = IsGiven output e × AreGiven outputs es
AreGiven [] (e ∷ es) = ⊥
AreGiven (output ∷ outputs) [] = ⊥

abbrev pub ListsAreGiven : List (List TypedOutput) → List (List Evaluated) → Type 0
ListsAreGiven [] [] = Unit {0}
ListsAreGiven (outputs ∷ lists) (es ∷ answers) = AreGiven outputs es × ListsAreGiven lists answers
ListsAreGiven [] (es ∷ answers) = ⊥
ListsAreGiven (outputs ∷ lists) [] = ⊥

abbrev pub output_names : List TypedOutput → List Name
output_names outputs = map (λ output. output.name) outputs

-- the kinds that typed expressions break by their types
abbrev pub kinds_of_types : Work → List (List TypedOutput) → List ErrorKind
kinds_of_types work lists = flat_map (flat_map (λ output. type_kinds work output.typed)) lists

-- where it breaks no rule, and something is given, its frame is one of its schema, or there is a data fault
abbrev pub KeepsFrames : Work → Type 0
KeepsFrames work = (schema : Columns) (frame : Frame) (lists : List (List TypedOutput)) (answers : List (List Evaluated)) → IsFrameOf schema frame → ListsAreGiven lists answers → kinds_of_types work lists ≡ [] → work_kinds work schema (map output_names lists) ≡ [] → gives_nothing work (map output_names lists) ≡ false → Meets (IsFrameOf (work_schema work schema lists)) (work_frame work answers frame)

-- where nothing is given it has no columns
abbrev pub NothingHasNoColumns : Work → Type 0
NothingHasNoColumns work = (schema : Columns) (lists : List (List TypedOutput)) → gives_nothing work (map output_names lists) ≡ true → work_schema work schema lists ≡ []
