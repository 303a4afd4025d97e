-- What a user of the library may rest on, and what is said of a text.
use Rattle.std.specs.Prelude.{◌≡◌, ℕ, List, ◌++◌, Option, Some, None, codes, decimal, flat_map, string_bytes}
use Rattle.std.specs.Option.{option_map}
use Rattle.plan_types.specs.declared.error.ErrorKind.{ErrorKind}
use Rattle.plan_types.specs.declared.error.ErrorKind.TheVariants.{ColumnNotFound, Duplicate, SchemaMismatch, InvalidOperation, ComputeError, NoMemory}
use Rattle.plan_types.specs.declared.error.PlanError.{PlanError}
use Rattle.plan_dsl.specs.Plans.{Plan}
use Rattle.plan_dsl.specs.PlanRules.{IsWellFormed, Breaks}
use Rattle.plan_dsl.specs.Registry.{Registry}
use Rattle.plan_dsl.specs.Resolving.{resolved}
use Rattle.plan_arena.specs.Items.{DenotesPlan}
use Rattle.plan_arena.specs.declared.plan.IRPlan.{IRPlan}
use Rattle.plan_json.specs.Bytes.{WritesQuery, IsRefusalOf}
use Rattle.plan_json.specs.Queries.{QueryModel}
use Rattle.plan_json.specs.declared.error.JsonError.{JsonError}
use Rattle.plan_json.specs.declared.error.JsonError.TheVariants as json
use Rattle.plan_lower.specs.Lowering.{IsPlanRefusal, IsTyped, IsSound, GivesSameFrame}
use Rattle.plan_report.specs.Report.{report_text}
use Rattle.explain.specs.declared.answers.Refusal.{Refusal}
use Rattle.explain.specs.declared.answers.Refusal.TheVariants.{Text, Plan as BrokenPlan}
use Rattle.explain.specs.declared.answers.Verdict.{Verdict}
use Rattle.explain.specs.declared.answers.Verdict.TheVariants.{Typed, Broken}

-- the text writes a query, whose plan is well formed and which the typed one stands for: it is accepted and strict, on fitting tables
-- it is never stuck, and it gives the frame that the query means
pub record StandsForText (registry : Registry) (text : List ℕ) (lowering : IRPlan) : Type 0 where
  pub query : QueryModel
  pub writes : WritesQuery text query
  pub well_formed : IsWellFormed registry (resolved registry query.plan)
  pub typed : IsTyped registry (resolved registry query.plan) lowering
  pub sound : IsSound registry (resolved registry query.plan) lowering
  pub same_frame : GivesSameFrame registry (resolved registry query.plan) lowering

-- the text writes a query, whose plan breaks the rule that is told, or memory ran out
pub record WritesBroken (registry : Registry) (text : List ℕ) (error : PlanError) : Type 0 where
  pub query : QueryModel
  pub writes : WritesQuery text query
  pub refusal : IsPlanRefusal registry (resolved registry query.plan) error

-- why a text has no typed plan
abbrev pub RefusesText : Registry → List ℕ → Refusal → Type 0
RefusesText registry text (Text error) = IsRefusalOf text error
RefusesText registry text (BrokenPlan error) = WritesBroken registry text error

-- ---- in words

-- a rule that is broken. Out of memory is none
abbrev pub rule_words : ErrorKind → Option (List ℕ)
rule_words ColumnNotFound = Some (codes "a column is missing")
rule_words Duplicate = Some (codes "a name stands twice")
rule_words SchemaMismatch = Some (codes "types don't match")
rule_words InvalidOperation = Some (codes "an operation doesn't fit what it is given")
rule_words ComputeError = Some (codes "what is asked for can't be made")
rule_words NoMemory = None

-- how to come to a place from the top
abbrev pub step_words : ℕ → List ℕ
step_words step = codes "'s input " ++ decimal step

abbrev pub place_words : List ℕ → List ℕ
place_words place = codes "the top" ++ flat_map step_words place

-- which rule is broken, and where
abbrev pub plan_words : ErrorKind → List ℕ → Option (List ℕ)
plan_words kind place = option_map (λ rule. rule ++ codes " at " ++ place_words place ++ codes "\n") (rule_words kind)

-- why a text is no query, with the path of the value at fault. Out of memory is no reason
abbrev pub text_words : JsonError → Option (List ℕ)
text_words json.NotJson = Some (codes "this is no JSON\n")
text_words (json.Shape path) = Some (codes "a value is wrong at \"" ++ string_bytes path ++ codes "\"\n")
text_words (json.Float path) = Some (codes "a number is wrong at \"" ++ string_bytes path ++ codes "\"\n")
text_words (json.Name path) = Some (codes "a table's name is wrong at \"" ++ string_bytes path ++ codes "\"\n")
text_words json.NoMemory = None

-- why a text has no typed plan
abbrev pub refusal_words : Refusal → Option (List ℕ)
refusal_words (Text error) = text_words error
refusal_words (BrokenPlan error) = plan_words error.kind error.place

-- ---- verdicts

-- the text has a typed plan, and this is the report of what its top denotes: a line for each node, with its schema
pub record TellsSchemas (registry : Registry) (text said : List ℕ) : Type 0 where
  pub lowering : IRPlan
  pub stands : StandsForText registry text lowering
  pub tree : Plan
  pub denotes : DenotesPlan lowering tree
  pub lines : said ≡ report_text registry tree

-- the text writes a query, in whose plan the node at the place breaks a rule of the kind
pub record BreaksAt (registry : Registry) (text : List ℕ) (kind : ErrorKind) (place : List ℕ) : Type 0 where
  pub query : QueryModel
  pub writes : WritesQuery text query
  pub breaks : Breaks registry kind place (resolved registry query.plan)
  pub ill_formed : ¬ (IsWellFormed registry (resolved registry query.plan))

-- these are the words of what is wrong with the text
pub data TellsFault (registry : Registry) (text said : List ℕ) : Type 0 where
  no_query : (error : JsonError) → IsRefusalOf text error → text_words error ≡ Some said → TellsFault registry text said
  broken : (kind : ErrorKind) (place : List ℕ) → BreaksAt registry text kind place → plan_words kind place ≡ Some said → TellsFault registry text said

-- of the notes on nodes and of the detail of a fault nothing is said
abbrev pub IsVerdict : Registry → List ℕ → Verdict → Type 0
IsVerdict registry text (Typed report notes) = TellsSchemas registry text (string_bytes report)
IsVerdict registry text (Broken words detail) = TellsFault registry text (string_bytes words)
