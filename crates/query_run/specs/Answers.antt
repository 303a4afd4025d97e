-- What is answered to words and to an input, and what is written of it.
use Rattle.std.specs.Prelude.{◌≡◌, ℕ, ◌<◌, ◌≤◌, List, [], ◌∷◌, ◌++◌, length, take, Option, Some, None, IfSome, codes, string_bytes}
use Rattle.std.specs.Io.KnownBytes.{Appends}
use Rattle.byte_streams.specs.declared.stream.TheConstants.{INPUT_LIMIT}
use Rattle.plan_types.specs.Schemas.{Name}
use Rattle.plan_types.specs.declared.error.ErrorKind.TheVariants as kinds
use Rattle.plan_types.specs.declared.error.PlanError.{PlanError}
use Rattle.plan_dsl.specs.Plans.{Plan}
use Rattle.plan_dsl.specs.Registry.{Registry}
use Rattle.plan_dsl.specs.Resolving.{resolved}
use Rattle.plan_arena.specs.declared.plan.IRPlan.{IRPlan}
use Rattle.plan_lower.specs.Lowering.{IsLoweringOf, IsPlanRefusal}
use Rattle.plan_json.specs.Bytes.{WritesQuery, IsRefusalOf}
use Rattle.plan_json.specs.Queries.{QueryModel}
use Rattle.plan_json.specs.declared.error.JsonError.{JsonError}
use Rattle.plan_json.specs.declared.error.JsonError.TheVariants as json
use Rattle.plan_report.specs.Report.{report_text, refusal_text}
use Rattle.query_run.specs.declared.status.Done.{Done}
use Rattle.query_run.specs.declared.status.Status.{Status}
use Rattle.query_run.specs.declared.status.Status.TheVariants as status

-- the only words that ask for something
abbrev pub right_words : List Name
right_words = codes "lower" ∷ []

-- the number of a status
abbrev pub status_number : Status → ℕ
status_number status.Lowered = 0
status_number (status.Refused error) = 1
status_number status.Usage = 2
status_number (status.BadQuery error) = 3
status_number status.ReadFault = 4
status_number status.WriteFault = 5
status_number status.NoMemory = 6
status_number status.TooLong = 7

abbrev pub usage_text : List ℕ
usage_text = codes "usage: lowerq lower, schema or gen N\n"

abbrev pub too_long_text : List ℕ
too_long_text = codes "too long\n"

-- the text of bytes that are no query
abbrev pub bad_query_text : JsonError → Option (List ℕ)
bad_query_text json.NotJson = Some (codes "bad query NotJson\n")
bad_query_text (json.Shape path) = Some (codes "bad query Shape " ++ string_bytes path ++ codes "\n")
bad_query_text (json.Float path) = Some (codes "bad query Float " ++ string_bytes path ++ codes "\n")
bad_query_text (json.Name path) = Some (codes "bad query Name " ++ string_bytes path ++ codes "\n")
bad_query_text json.NoMemory = None

-- an end without a plan
abbrev pub without_plan : Status → Done
without_plan ending = record { status = ending; plan = None }

-- the answer to a plan: the report of a plan that is its lowering, or a refusal
pub data IsPlanAnswer (registry : Registry) (plan : Plan) : Done → List ℕ → Type 0 where
  lowered : (lowering : IRPlan) (tree : Plan) → IsLoweringOf registry plan lowering tree → IsPlanAnswer registry plan (record { status = status.Lowered; plan = Some lowering }) (report_text registry tree)
  refused : (error : PlanError) → IsPlanRefusal registry plan error → ¬ (error.kind ≡ kinds.NoMemory) → IsPlanAnswer registry plan (without_plan (status.Refused error)) (refusal_text error.kind error.place)

-- the answer to the bytes of an input: that to the plan of the query that they write, or why they write none
pub data IsQueryAnswer (registry : Registry) (bytes : List ℕ) : Done → List ℕ → Type 0 where
  planned : (query : QueryModel) (done : Done) (text : List ℕ) → WritesQuery bytes query → IsPlanAnswer registry (resolved registry query.plan) done text → IsQueryAnswer registry bytes done text
  bad : (error : JsonError) (text : List ℕ) → IsRefusalOf bytes error → bad_query_text error ≡ Some text → IsQueryAnswer registry bytes (without_plan (status.BadQuery error)) text

-- the answer to words, and to an input where it is known
pub data IsAnswer (registry : Registry) (words : List Name) (input : Option (List ℕ)) : Done → List ℕ → Type 0 where
  usage : ¬ (words ≡ right_words) → IsAnswer registry words input (without_plan status.Usage) usage_text
  read : (bytes : List ℕ) (done : Done) (text : List ℕ) → words ≡ right_words → IfSome input (λ all. bytes ≡ all) → length bytes ≤ INPUT_LIMIT → IsQueryAnswer registry bytes done text → IsAnswer registry words input done text
  too_long : words ≡ right_words → IfSome input (λ all. INPUT_LIMIT < length all) → IsAnswer registry words input (without_plan status.TooLong) too_long_text
  read_fault : words ≡ right_words → IsAnswer registry words input (without_plan status.ReadFault) []
  no_memory : IsAnswer registry words input (without_plan status.NoMemory) []

-- a run ended: its answer's text was appended to what the sink has, or a write failed behind a part of it
pub data Ended (registry : Registry) (words : List Name) (input before after : Option (List ℕ)) : Done → Type 0 where
  written : (done : Done) (text : List ℕ) → IsAnswer registry words input done text → Appends before after text → Ended registry words input before after done
  cut : (done : Done) (text : List ℕ) (count : ℕ) → IsAnswer registry words input done text → count < length text → Appends before after (take count text) → Ended registry words input before after (without_plan status.WriteFault)
