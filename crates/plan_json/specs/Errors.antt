-- Errors, and the faults that they tell.
use Rattle.std.specs.Prelude.{◌≡◌, ℕ, ◌==◌, List, [], ◌∷◌, ◌++◌, decimal, string_bytes, if◌then◌else◌}
use Rattle.serde_json.specs.Data.{Data}
use Rattle.plan_types.specs.Schemas.{Name as Text}
use Rattle.plan_json.specs.Faults.{FaultKind, BadShape, BadFloat, BadName, Step, key, number, Path, Form, IsBadAt, list_of}
use Rattle.plan_json.specs.Forms.{leaf}
use Rattle.plan_json.specs.declared.forms.Leaf.{Leaf}
use Rattle.plan_json.specs.declared.error.JsonError.{JsonError}
use Rattle.plan_json.specs.declared.error.JsonError.TheVariants.{NotJson, Shape, Float, Name, NoMemory}
use Rattle.plan_json.specs.declared.error.Step.{Step as CodeStep}
use Rattle.plan_json.specs.declared.error.Step.TheVariants as steps

-- the step that the code takes
abbrev pub step_of : CodeStep → Step
step_of (steps.Key word) = key word.now
step_of (steps.Item n) = number n

-- ---- JSON pointers (RFC 6901)

-- `~` is written `~0`, and `/` is written `~1`
abbrev pub escaped : List ℕ → List ℕ
escaped [] = []
escaped (c ∷ cs) = if c == 126 then 126 ∷ 48 ∷ escaped cs else (if c == 47 then 126 ∷ 49 ∷ escaped cs else c ∷ escaped cs)

abbrev pub step_text : Step → List ℕ
step_text (key word) = 47 ∷ escaped word
step_text (number n) = 47 ∷ decimal n

-- the pointer that follows the path
abbrev pub pointer_text : Path → List ℕ
pointer_text [] = []
pointer_text (step ∷ path) = step_text step ++ pointer_text path

-- a step of a word that needs no escape
abbrev pub IsPlain : Step → Type 0
IsPlain (key word) = escaped word ≡ word
IsPlain (number n) = Unit {0}

-- ---- what an error tells

-- the value at the end of the pointer breaks what its place asks for, in this way
abbrev pub IsBadAtPointer : Form → Data → FaultKind → List ℕ → Type 0
IsBadAtPointer form d kind text = (path : Path) × (text ≡ pointer_text path) × IsBadAt form d kind path

-- The error tells a fault of a value that is to be of the form. Out of memory may come always.
abbrev pub IsErrorOf : Form → Data → JsonError → Type 0
IsErrorOf form d NotJson = ⊥
IsErrorOf form d (Shape path) = IsBadAtPointer form d BadShape (string_bytes path)
IsErrorOf form d (Float path) = IsBadAtPointer form d BadFloat (string_bytes path)
IsErrorOf form d (Name path) = IsBadAtPointer form d BadName (string_bytes path)
IsErrorOf form d NoMemory = Unit {0}

-- it tells a fault of a value that is to be a list of these, whatever tables there are
pub record IsListErrorOf (which : Leaf) (d : Data) (error : JsonError) : Type 0 where
  pub told : (names : List Text) → IsErrorOf (list_of names (leaf which)) d error

-- the error tells that the value itself is at fault in this way
abbrev pub IsOwn : FaultKind → JsonError → Type 0
IsOwn BadShape (Shape path) = string_bytes path ≡ []
IsOwn BadFloat (Float path) = string_bytes path ≡ []
IsOwn BadName (Name path) = string_bytes path ≡ []
IsOwn _ _ = ⊥

-- the error of a part, told with the step to the part, or out of memory
abbrev pub IsBelow : Step → JsonError → JsonError → Type 0
IsBelow step NotJson NotJson = Unit {0}
IsBelow step (Shape path) (Shape longer) = string_bytes longer ≡ step_text step ++ string_bytes path
IsBelow step (Float path) (Float longer) = string_bytes longer ≡ step_text step ++ string_bytes path
IsBelow step (Name path) (Name longer) = string_bytes longer ≡ step_text step ++ string_bytes path
IsBelow step inner NoMemory = Unit {0}
IsBelow step _ _ = ⊥
