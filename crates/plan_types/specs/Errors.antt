-- Refusals.
use Rattle.std.specs.Prelude.{◌≡◌, ◌⊎◌, [], Result, Err}
use Rattle.plan_types.specs.declared.error.PlanError.{PlanError}
use Rattle.plan_types.specs.declared.error.ErrorKind.{ErrorKind}
use Rattle.plan_types.specs.declared.error.ErrorKind.TheVariants.{NoMemory}

-- a refusal at the top
abbrev pub at_top : ErrorKind → PlanError
at_top kind = record { kind = kind; place = [] }

-- the refusal as out of memory, which names no place
abbrev pub no_memory : PlanError
no_memory = at_top NoMemory

-- the refusal is out of memory, or that kind at the top, which comes only where the rule is broken
abbrev pub IsMemoryOr : ErrorKind → Type 0 → PlanError → Type 0
IsMemoryOr kind Broken error = (error ≡ no_memory) ⊎ ((error ≡ at_top kind) × Broken)

-- the refusal is out of memory, or the one that a rule gives
pub data IsRefusal {A : Type 0} (answer : Result A ErrorKind) (error : PlanError) : Type 0 where
  no_room : error ≡ no_memory → IsRefusal answer error
  broken : (kind : ErrorKind) → error ≡ at_top kind → answer ≡ Err kind → IsRefusal answer error
