-- What the status of a run says of the words, the input, the plan and the bytes written; and which status
-- words and an input call for, where memory doesn't run out and no read or write fails.
use Rattle.std.specs.Prelude.{◌≡◌, ◌⊎◌, ℕ, ◌+◌, ◌<◌, ◌≤◌, List, length, take, Option, Some, IfSome}
use Rattle.std.specs.Io.KnownBytes.{Appends, IsAtEnd}
use Rattle.byte_streams.specs.Reading.{Took}
use Rattle.byte_streams.specs.declared.stream.TheConstants.{INPUT_LIMIT}
use Rattle.plan_types.specs.Schemas.{Name}
use Rattle.plan_types.specs.declared.error.ErrorKind.TheVariants as kinds
use Rattle.plan_types.specs.declared.error.PlanError.{PlanError}
use Rattle.plan_dsl.specs.Plans.{Plan}
use Rattle.plan_dsl.specs.PlanRules.{IsWellFormed, Breaks}
use Rattle.plan_dsl.specs.Registry.{Registry}
use Rattle.plan_dsl.specs.Resolving.{resolved}
use Rattle.plan_arena.specs.declared.plan.IRPlan.{IRPlan}
use Rattle.plan_lower.specs.Lowering.{IsLoweringOf}
use Rattle.plan_json.specs.Bytes.{WritesQuery, IsRefusalOf}
use Rattle.plan_json.specs.Queries.{QueryModel}
use Rattle.plan_json.specs.declared.error.JsonError.{JsonError}
use Rattle.plan_report.specs.Report.{report_text, refusal_text}
use Rattle.query_run.specs.Answers.{IsAnswer, right_words, usage_text, too_long_text, bad_query_text}
use Rattle.query_run.specs.declared.status.Done.{Done}
use Rattle.query_run.specs.declared.status.Status.{Status}
use Rattle.query_run.specs.declared.status.Status.TheVariants as status

-- ---- what a status says

-- the words are right, and the bytes are the whole input, which is no longer than the limit
pub record IsInput (words : List Name) (input : Option (List ℕ)) (bytes : List ℕ) : Type 0 where
  pub right : words ≡ right_words
  pub whole : IfSome input (λ all. bytes ≡ all)
  pub within : length bytes ≤ INPUT_LIMIT

-- the input is a query, the plan that is handed out is its lowering, and the report of it was written
pub record SaysLowered (registry : Registry) (words : List Name) (input before after : Option (List ℕ)) (plan : Option IRPlan) : Type 0 where
  pub bytes : List ℕ
  pub read : IsInput words input bytes
  pub query : QueryModel
  pub writes : WritesQuery bytes query
  pub lowering : IRPlan
  pub handed_out : plan ≡ Some lowering
  pub tree : Plan
  pub lowered : IsLoweringOf registry (resolved registry query.plan) lowering tree
  pub written : Appends before after (report_text registry tree)

-- the input is a query, in whose plan a rule of that kind is broken at that place
pub record SaysRefused (registry : Registry) (words : List Name) (input before after : Option (List ℕ)) (error : PlanError) : Type 0 where
  pub bytes : List ℕ
  pub read : IsInput words input bytes
  pub query : QueryModel
  pub writes : WritesQuery bytes query
  pub broken : Breaks registry error.kind error.place (resolved registry query.plan)
  pub ill_formed : ¬ (IsWellFormed registry (resolved registry query.plan))
  pub other : ¬ (error.kind ≡ kinds.NoMemory)
  pub written : Appends before after (refusal_text error.kind error.place)

-- the words ask for nothing
pub record SaysUsage (words : List Name) (before after : Option (List ℕ)) : Type 0 where
  pub wrong : ¬ (words ≡ right_words)
  pub written : Appends before after usage_text

-- the input is no query, for that reason
pub record SaysBadQuery (words : List Name) (input before after : Option (List ℕ)) (error : JsonError) : Type 0 where
  pub bytes : List ℕ
  pub read : IsInput words input bytes
  pub refusal : IsRefusalOf bytes error
  pub text : List ℕ
  pub told : bad_query_text error ≡ Some text
  pub written : Appends before after text

-- the input is longer than the limit
pub record SaysTooLong (words : List Name) (input before after : Option (List ℕ)) : Type 0 where
  pub right : words ≡ right_words
  pub long : IfSome input (λ all. INPUT_LIMIT < length all)
  pub written : Appends before after too_long_text

-- the status is that of an input that was read
abbrev pub IsOfInput : Status → Type 0
IsOfInput status.Lowered = Unit {0}
IsOfInput (status.Refused error) = Unit {0}
IsOfInput (status.BadQuery error) = Unit {0}
IsOfInput status.Usage = ⊥
IsOfInput status.ReadFault = ⊥
IsOfInput status.WriteFault = ⊥
IsOfInput status.NoMemory = ⊥
IsOfInput status.TooLong = ⊥

-- the bytes taken from a source are one more than the limit
abbrev pub TookTooMany : Option (List ℕ) → Option (List ℕ) → Type 0
TookTooMany before after = Took before after (λ taken. length taken ≡ INPUT_LIMIT + 1)

-- they are no more than the limit
abbrev pub TookWithin : Option (List ℕ) → Option (List ℕ) → Type 0
TookWithin before after = Took before after (λ taken. length taken ≤ INPUT_LIMIT)

-- the status is a fault of reading or writing
abbrev pub IsFault : Status → Type 0
IsFault status.ReadFault = Unit {0}
IsFault status.WriteFault = Unit {0}
IsFault status.Lowered = ⊥
IsFault (status.Refused error) = ⊥
IsFault status.Usage = ⊥
IsFault (status.BadQuery error) = ⊥
IsFault status.NoMemory = ⊥
IsFault status.TooLong = ⊥

-- a front of the text was written that another end would have written whole, and as much of the input was
-- read as for that end
pub record SaysWriteFault (registry : Registry) (words : List Name) (input rest before after : Option (List ℕ)) : Type 0 where
  pub other : Done
  pub text : List ℕ
  pub answers : IsAnswer registry words input other text
  pub no_fault : ¬ (IsFault other.status)
  pub at_end : IsOfInput other.status → IsAtEnd rest
  pub past : other.status ≡ status.TooLong → TookTooMany input rest
  pub count : ℕ
  pub short : count < length text
  pub written : Appends before after (take count text)

-- ---- which status is called for

-- a status that may stand in place of any other
abbrev pub IsExcused : Status → Type 0
IsExcused status.NoMemory = Unit {0}
IsExcused status.ReadFault = Unit {0}
IsExcused status.WriteFault = Unit {0}
IsExcused status.Lowered = ⊥
IsExcused (status.Refused error) = ⊥
IsExcused status.Usage = ⊥
IsExcused (status.BadQuery error) = ⊥
IsExcused status.TooLong = ⊥

abbrev pub Ends : (Status → Type 0) → Status → Type 0
Ends P ending = P ending ⊎ IsExcused ending

abbrev pub IsRefused : Status → Type 0
IsRefused ending = (error : PlanError) × (ending ≡ status.Refused error)

abbrev pub IsBadQuery : Status → Type 0
IsBadQuery ending = (error : JsonError) × (ending ≡ status.BadQuery error)

-- other words than the right ones call for the usage
abbrev pub UsageCalledFor : List Name → Status → Type 0
UsageCalledFor words ending = ¬ (words ≡ right_words) → Ends (λ e. e ≡ status.Usage) ending

-- an input past the limit calls for that
abbrev pub TooLongCalledFor : List Name → Option (List ℕ) → Status → Type 0
TooLongCalledFor words input ending =
    (bytes : List ℕ) → words ≡ right_words → input ≡ Some bytes → INPUT_LIMIT < length bytes → Ends (λ e. e ≡ status.TooLong) ending

-- an input that is no query calls for the reason
abbrev pub BadQueryCalledFor : List Name → Option (List ℕ) → Status → Type 0
BadQueryCalledFor words input ending =
    (bytes : List ℕ) → words ≡ right_words → input ≡ Some bytes → length bytes ≤ INPUT_LIMIT → ((query : QueryModel) → ¬ (WritesQuery bytes query)) → Ends IsBadQuery ending

-- a query that isn't well formed calls for a refusal
abbrev pub RefusalCalledFor : Registry → List Name → Option (List ℕ) → Status → Type 0
RefusalCalledFor registry words input ending =
    (bytes : List ℕ) (query : QueryModel) → words ≡ right_words → input ≡ Some bytes → length bytes ≤ INPUT_LIMIT → WritesQuery bytes query → ¬ (IsWellFormed registry (resolved registry query.plan)) → Ends IsRefused ending

-- a well-formed query calls for its lowering
abbrev pub LoweringCalledFor : Registry → List Name → Option (List ℕ) → Status → Type 0
LoweringCalledFor registry words input ending =
    (bytes : List ℕ) (query : QueryModel) → words ≡ right_words → input ≡ Some bytes → length bytes ≤ INPUT_LIMIT → WritesQuery bytes query → IsWellFormed registry (resolved registry query.plan) → Ends (λ e. e ≡ status.Lowered) ending

-- a well-formed query is lowered, unless memory runs out
abbrev pub IsComplete : Registry → List Name → Option (List ℕ) → Status → Type 0
IsComplete registry words input ending =
    (bytes : List ℕ) (query : QueryModel) → words ≡ right_words → input ≡ Some bytes → length bytes ≤ INPUT_LIMIT → WritesQuery bytes query → IsWellFormed registry (resolved registry query.plan) → (ending ≡ status.Lowered) ⊎ (ending ≡ status.NoMemory)
