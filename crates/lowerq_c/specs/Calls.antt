-- What a call from C leaves of a text in its caller's memory, and what the number that it answers says of the query.
use Rattle.std.specs.Prelude.{◌≡◌, ℕ, List, [], ◌++◌, length, take, drop, Option, Some}
use Rattle.plan_types.specs.declared.error.PlanError.{PlanError}
use Rattle.plan_dsl.specs.Registry.{Registry}
use Rattle.plan_json.specs.declared.error.JsonError.{JsonError}
use Rattle.plan_arena.specs.declared.plan.IRPlan.{IRPlan}
use Rattle.query_run.specs.Answers.{Ended, right_words, status_number}
use Rattle.query_run.specs.Endings.{IsFault, SaysLowered, SaysRefused, SaysBadQuery, SaysTooLong}
use Rattle.query_run.specs.declared.status.Done.{Done}
use Rattle.query_run.specs.declared.status.Status.{Status}

-- ---- what is handed to the caller

-- a buffer into which the front of a text was put, as much as fits: the rest of the buffer is as it was
abbrev pub overwritten : List ℕ → List ℕ → List ℕ
overwritten text before = take (length before) text ++ drop (length text) before

-- the length of the whole text was told, and its front was put into the buffer
pub record IsHanded (text before after : List ℕ) (told : ℕ) : Type 0 where
  pub whole : told ≡ length text
  pub front : after ≡ overwritten text before

-- a text of which that holds was handed to the caller
abbrev pub Hands : (List ℕ → Type 0) → List ℕ → List ℕ → ℕ → Type 0
Hands P before after told = (text : List ℕ) × (IsHanded text before after told × P text)

-- ---- what the number says

-- the registry of a call has no function
abbrev pub no_functions : Registry
no_functions = []

-- a run over the query, with the word `lower`, ended with that number and wrote that text, without a fault
pub record IsCallEnd (query : List ℕ) (number : ℕ) (text : List ℕ) : Type 0 where
  pub done : Done
  pub ended : Ended no_functions right_words (Some query) (Some []) (Some text) done
  pub no_fault : ¬ (IsFault done.status)
  pub numbered : number ≡ status_number done.status

-- the text is the report of the query's lowering
abbrev pub IsReport : List ℕ → List ℕ → Type 0
IsReport query text = (plan : Option IRPlan) × SaysLowered no_functions right_words (Some query) (Some []) (Some text) plan

-- the text tells the kind and the place of a rule that the query's plan breaks
abbrev pub IsRefusal : List ℕ → List ℕ → Type 0
IsRefusal query text = (error : PlanError) × SaysRefused no_functions right_words (Some query) (Some []) (Some text) error

-- the text tells why the bytes are no query
abbrev pub IsComplaint : List ℕ → List ℕ → Type 0
IsComplaint query text = (error : JsonError) × SaysBadQuery right_words (Some query) (Some []) (Some text) error

-- the text tells that the query is longer than the limit
abbrev pub IsLimitText : List ℕ → List ℕ → Type 0
IsLimitText query text = SaysTooLong right_words (Some query) (Some []) (Some text)

-- the number is that of a status of which that holds
abbrev pub IsNumberWhere : (Status → Type 0) → ℕ → Type 0
IsNumberWhere P number = (ending : Status) × (P ending × (number ≡ status_number ending))
