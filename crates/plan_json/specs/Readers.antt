-- What readers answer.
use Rattle.std.specs.Prelude.{◌≡◌, List, Option, Some, false, Result, IfOk, IfErr, option_and_then}
use Rattle.serde_json.specs.Data.{Data}
use Rattle.plan_types.specs.Schemas.{names_of}
use Rattle.plan_dsl.specs.Plans.{plan_tree}
use Rattle.plan_dsl.specs.declared.plan.DslPlan.{DslPlan}
use Rattle.plan_json.specs.Errors.{IsErrorOf}
use Rattle.plan_json.specs.Faults.{Form, asked_form, places_form}
use Rattle.plan_json.specs.Forms.{Asked, Read, asks, plan_says, says}
use Rattle.plan_json.specs.Queries.{has_flags, places_as, read_as}
use Rattle.plan_json.specs.Tables.{Declared}
use Rattle.plan_json.specs.declared.error.JsonError.{JsonError}
use Rattle.plan_json.specs.declared.forms.Key.{Key}
use Rattle.plan_json.specs.declared.forms.PlanKey.{PlanKey}

-- what the value means, as it is seen, or an error that tells a fault of a value that is to be of the form
pub record IsReading {A B : Type 0} (meaning : Data → Option B) (form : Form) (d : Data) (result : Result A JsonError) (seen : A → B) : Type 0 where
  pub ok : IfOk result (λ x. meaning d ≡ Some (seen x))
  pub err : IfErr result (IsErrorOf form d)

-- where a place asks for this
abbrev pub IsReadAs : {A : Type 0} → Declared → Asked → Data → Result A JsonError → (A → Read) → Type 0
IsReadAs tables asked = IsReading (read_as tables asked) (asked_form (names_of tables) asked)

-- where it is the value of a key
abbrev pub IsReadBy : {A : Type 0} → Declared → Key → Data → Result A JsonError → (A → Read) → Type 0
IsReadBy tables key = IsReading (λ d. option_and_then (says key) (places_as tables (asks key) d)) (places_form (names_of tables) (asks key))

-- the plan that a key says of what was read, without flags
pub record IsPlanOf (key : PlanKey) (found : List Read) (built : DslPlan) : Type 0 where
  pub says : plan_says key found ≡ Some (plan_tree built)
  pub flags : has_flags built ≡ false
