-- Why something isn't expanded.
use Rattle.std.specs.Prelude.{◌≡◌, List, Result, Err}
use Rattle.std.specs.List.{Contains}
use Rattle.plan_types.specs.Errors.{at_top, no_memory}
use Rattle.plan_types.specs.declared.error.ErrorKind.{ErrorKind}
use Rattle.plan_types.specs.declared.error.PlanError.{PlanError}

-- the refusal is out of memory, or of one of the kinds for which there is no answer
pub data IsUnexpanded {A : Type 0} (answer : Result A (List ErrorKind)) (error : PlanError) : Type 0 where
  no_room : error ≡ no_memory → IsUnexpanded answer error
  unexpanded : (kinds : List ErrorKind) (kind : ErrorKind) → error ≡ at_top kind → answer ≡ Err kinds → Contains kinds kind → IsUnexpanded answer error
