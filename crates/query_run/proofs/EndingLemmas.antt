-- What the status of an answer says, and which answer is called for.
use Rattle.std.proofs.Common.{◌≡◌, ◌⊎◌, ℕ, ◌<◌, ◌≤◌, List, [], length, Option, Some, None, inl, inr, ⊎_elim, refl, sym, ap, ◌∙◌, subst, arith}
use Rattle.std.specs.Option.{IfSome}
use Rattle.std.specs.Io.KnownBytes.{Appends}
use Rattle.byte_streams.specs.declared.stream.TheConstants.{INPUT_LIMIT}
use Rattle.plan_types.specs.Schemas.{Name}
use Rattle.plan_types.specs.declared.error.ErrorKind.TheVariants as kinds
use Rattle.plan_types.specs.declared.error.PlanError.{PlanError}
use Rattle.plan_dsl.specs.Plans.{Plan}
use Rattle.plan_dsl.specs.PlanRules.{IsWellFormed}
use Rattle.plan_dsl.specs.Registry.{Registry}
use Rattle.plan_dsl.specs.Resolving.{resolved}
use Rattle.plan_report.specs.Report.{refusal_text}
use Rattle.plan_arena.specs.declared.plan.IRPlan.{IRPlan}
use Rattle.plan_lower.specs.Lowering.{IsPlanRefusal, out_of_memory, broken}
use Rattle.plan_json.specs.Bytes.{WritesQuery}
use Rattle.plan_json.specs.Queries.{QueryModel}
use Rattle.plan_json.specs.declared.error.JsonError.{JsonError}
use Rattle.plan_json.specs.declared.error.JsonError.TheVariants as json
use Rattle.plan_json.proofs.NoFaults.{writes_one_query, refused_query_is_memory}
use Rattle.query_run.specs.Answers.{IsAnswer, IsQueryAnswer, IsPlanAnswer, lowered, refused, planned, bad, usage, read, too_long, read_fault, no_memory, right_words, bad_query_text}
use Rattle.query_run.specs.Endings.{IsInput, SaysLowered, SaysRefused, SaysUsage, SaysBadQuery, SaysTooLong, IsFault, IsExcused, Ends, IsRefused, IsBadQuery, UsageCalledFor, TooLongCalledFor, BadQueryCalledFor, RefusalCalledFor, LoweringCalledFor, IsComplete, IsOfInput}
use Rattle.query_run.specs.declared.status.Done.{Done}
use Rattle.query_run.specs.declared.status.Status.{Status}
use Rattle.query_run.specs.declared.status.Status.TheVariants as status

module _ (registry : Registry) (words : List Name) (input before after : Option (List ℕ)) where
  -- what a status says of a run that handed out such a plan, and wrote its text
  abbrev pub Says : Option IRPlan → Status → Type 0
  Says plan status.Lowered = SaysLowered registry words input before after plan
  Says plan (status.Refused error) = SaysRefused registry words input before after error × (plan ≡ None)
  Says plan status.Usage = SaysUsage words before after × (plan ≡ None)
  Says plan (status.BadQuery error) = SaysBadQuery words input before after error × (plan ≡ None)
  Says plan status.ReadFault = Appends before after [] × (plan ≡ None)
  Says plan status.WriteFault = ⊥
  Says plan status.NoMemory = Appends before after [] × (plan ≡ None)
  Says plan status.TooLong = SaysTooLong words input before after × (plan ≡ None)

  refusal_says : (bytes : List ℕ) (query : QueryModel) (error : PlanError) → IsInput words input bytes → WritesQuery bytes query → IsPlanRefusal registry (resolved registry query.plan) error → ¬ (error.kind ≡ kinds.NoMemory) → Appends before after (refusal_text error.kind error.place) → SaysRefused registry words input before after error
  refusal_says bytes query error r writes (out_of_memory e) other w = absurd (other (ap (λ (x : PlanError). x.kind) e))
  refusal_says bytes query error r writes (broken breaks ill) other w =
      record { bytes = bytes; read = r; query = query; writes = writes; broken = breaks; ill_formed = ill; other = other; written = w }

  plan_says : (bytes : List ℕ) (query : QueryModel) (done : Done) (text : List ℕ) → IsInput words input bytes → WritesQuery bytes query → IsPlanAnswer registry (resolved registry query.plan) done text → Appends before after text → Says done.plan done.status
  plan_says bytes query done text r writes (lowered lowering tree is) w =
      record { bytes = bytes; read = r; query = query; writes = writes; lowering = lowering; handed_out = refl; tree = tree; lowered = is; written = w }
  plan_says bytes query done text r writes (refused error refusal other) w = (refusal_says bytes query error r writes refusal other w, refl)

  query_says : (bytes : List ℕ) (done : Done) (text : List ℕ) → IsInput words input bytes → IsQueryAnswer registry bytes done text → Appends before after text → Says done.plan done.status
  query_says bytes done text r (planned query done' text' writes answers) w = plan_says bytes query done' text' r writes answers w
  query_says bytes done text r (bad error text' refusal told) w =
      (record { bytes = bytes; read = r; refusal = refusal; text = text'; told = told; written = w }, refl)

  answer_says : (done : Done) (text : List ℕ) → IsAnswer registry words input done text → Appends before after text → Says done.plan done.status
  answer_says done text (usage wrong) w = (record { wrong = wrong; written = w }, refl)
  answer_says done text (read bytes done' text' right whole within answers) w =
      query_says bytes done' text' (record { right = right; whole = whole; within = within }) answers w
  answer_says done text (too_long right long) w = (record { right = right; long = long; written = w }, refl)
  answer_says done text (read_fault right) w = (w, refl)
  answer_says done text no_memory w = (w, refl)

  module _ (done : Done) (text : List ℕ) (answers : IsAnswer registry words input done text) (w : Appends before after text) where
    -- what an answer of that status says
    pub says : (ending : Status) → done.status ≡ ending → Says done.plan ending
    says ending e = subst (Says done.plan) e (answer_says done text answers w)

    silent_from : (ending : Status) → Says done.plan ending → (ending ≡ status.ReadFault) ⊎ (ending ≡ status.NoMemory) → Appends before after []
    silent_from status.ReadFault said one = said.0
    silent_from status.NoMemory said one = said.0
    silent_from status.Lowered said one = absurd (⊎_elim (λ e. cc) (λ e. cc) one)
    silent_from (status.Refused error) said one = absurd (⊎_elim (λ e. cc) (λ e. cc) one)
    silent_from status.Usage said one = absurd (⊎_elim (λ e. cc) (λ e. cc) one)
    silent_from (status.BadQuery error) said one = absurd (⊎_elim (λ e. cc) (λ e. cc) one)
    silent_from status.WriteFault said one = absurd said
    silent_from status.TooLong said one = absurd (⊎_elim (λ e. cc) (λ e. cc) one)

    pub silent : (done.status ≡ status.ReadFault) ⊎ (done.status ≡ status.NoMemory) → Appends before after []
    silent one = silent_from done.status (answer_says done text answers w) one

    planless_from : (ending : Status) → Says done.plan ending → ¬ (ending ≡ status.Lowered) → done.plan ≡ None
    planless_from status.Lowered said other = absurd (other refl)
    planless_from (status.Refused error) said other = said.1
    planless_from status.Usage said other = said.1
    planless_from (status.BadQuery error) said other = said.1
    planless_from status.ReadFault said other = said.1
    planless_from status.WriteFault said other = absurd said
    planless_from status.NoMemory said other = said.1
    planless_from status.TooLong said other = said.1

    pub planless : ¬ (done.status ≡ status.Lowered) → done.plan ≡ None
    planless other = planless_from done.status (answer_says done text answers w) other

-- an answer that is a fault has no text
plan_no_fault : (registry : Registry) (plan : Plan) (done : Done) (text : List ℕ) → IsPlanAnswer registry plan done text → ¬ (IsFault done.status)
plan_no_fault registry plan done text (lowered lowering tree is) f = f
plan_no_fault registry plan done text (refused error refusal other) f = f

query_no_fault : (registry : Registry) (bytes : List ℕ) (done : Done) (text : List ℕ) → IsQueryAnswer registry bytes done text → ¬ (IsFault done.status)
query_no_fault registry bytes done text (planned query done' text' writes answers) f = plan_no_fault registry (resolved registry query.plan) done' text' answers f
query_no_fault registry bytes done text (bad error text' refusal told) f = f

pub fault_is_silent : (registry : Registry) (words : List Name) (input : Option (List ℕ)) (done : Done) (text : List ℕ) (count : ℕ) → IsAnswer registry words input done text → count < length text → ¬ (IsFault done.status)
fault_is_silent registry words input done text count (usage wrong) short f = f
fault_is_silent registry words input done text count (read bytes done' text' right whole within answers) short f = query_no_fault registry bytes done' text' answers f
fault_is_silent registry words input done text count (too_long right long) short f = f
fault_is_silent registry words input done text count (read_fault right) short f = omega (arith, short)
fault_is_silent registry words input done text count no_memory short f = f

-- the answer to an input is no other end
plan_of_input : (registry : Registry) (plan : Plan) (done : Done) (text : List ℕ) → IsPlanAnswer registry plan done text → IsOfInput done.status
plan_of_input registry plan done text (lowered lowering tree is) = tt
plan_of_input registry plan done text (refused error refusal other) = tt

query_of_input : (registry : Registry) (bytes : List ℕ) (done : Done) (text : List ℕ) → IsQueryAnswer registry bytes done text → IsOfInput done.status
query_of_input registry bytes done text (planned query done' text' writes answers) = plan_of_input registry (resolved registry query.plan) done' text' answers
query_of_input registry bytes done text (bad error text' refusal told) = tt

pub query_not_too_long : (registry : Registry) (bytes : List ℕ) (done : Done) (text : List ℕ) → IsQueryAnswer registry bytes done text → ¬ (done.status ≡ status.TooLong)
query_not_too_long registry bytes done text answers e = subst IsOfInput e (query_of_input registry bytes done text answers)

pub query_not_read_fault : (registry : Registry) (bytes : List ℕ) (done : Done) (text : List ℕ) → IsQueryAnswer registry bytes done text → ¬ (done.status ≡ status.ReadFault)
query_not_read_fault registry bytes done text answers e = subst IsOfInput e (query_of_input registry bytes done text answers)

-- ---- the answer that is called for

-- the bytes read are those of an input that is told
told_bytes : (input : Option (List ℕ)) (bytes all : List ℕ) → IfSome input (λ whole. bytes ≡ whole) → input ≡ Some all → bytes ≡ all
told_bytes input bytes all whole e = subst (λ i. IfSome i (λ w. bytes ≡ w)) e whole

-- a reason that has a text isn't out of memory
told_reason : (error : JsonError) (text : List ℕ) → bad_query_text error ≡ Some text → ¬ (error ≡ json.NoMemory)
told_reason error text told e =
    let none : bad_query_text json.NoMemory ≡ Some text = ap bad_query_text (sym e) ∙ told in cc

module _ (registry : Registry) (words : List Name) (input : Option (List ℕ)) where
  pub usage_called : (done : Done) (text : List ℕ) → IsAnswer registry words input done text → UsageCalledFor words done.status
  usage_called done text (usage wrong) other = inl refl
  usage_called done text (read bytes done' text' right whole within answers) other = absurd (other right)
  usage_called done text (too_long right long) other = inl (absurd (other right))
  usage_called done text (read_fault right) other = inr tt
  usage_called done text no_memory other = inr tt

  pub too_long_called : (done : Done) (text : List ℕ) → IsAnswer registry words input done text → TooLongCalledFor words input done.status
  too_long_called done text (usage wrong) all right told long = absurd (wrong right)
  too_long_called done text (read bytes done' text' right' whole within answers) all right told long =
      absurd (omega (arith, within, long, ap length (told_bytes input bytes all whole told)))
  too_long_called done text (too_long right' long') all right told long = inl refl
  too_long_called done text (read_fault right') all right told long = inr tt
  too_long_called done text no_memory all right told long = inr tt

  not_too_long : (all : List ℕ) → input ≡ Some all → length all ≤ INPUT_LIMIT → IfSome input (λ whole. INPUT_LIMIT < length whole) → ⊥
  not_too_long all told within long =
      let past : INPUT_LIMIT < length all = subst (λ i. IfSome i (λ w. INPUT_LIMIT < length w)) told long in omega (arith, past, within)

  -- what the answer to the whole of an input says that is no longer than the limit
  pub called : (P : Status → Type 0) (all : List ℕ) → words ≡ right_words → input ≡ Some all → length all ≤ INPUT_LIMIT → ((done : Done) (text : List ℕ) → IsQueryAnswer registry all done text → Ends P done.status) → (done : Done) (text : List ℕ) → IsAnswer registry words input done text → Ends P done.status
  called P all right told short query done text (usage wrong) = absurd (wrong right)
  called P all right told short query done text (read bytes done' text' right' whole within answers) =
      query done' text' (subst (λ b. IsQueryAnswer registry b done' text') (told_bytes input bytes all whole told) answers)
  called P all right told short query done text (too_long right' long) = absurd (not_too_long all told short long)
  called P all right told short query done text (read_fault right') = inr tt
  called P all right told short query done text no_memory = inr tt

  bad_query_answer : (all : List ℕ) → ((query : QueryModel) → ¬ (WritesQuery all query)) → (done : Done) (text : List ℕ) → IsQueryAnswer registry all done text → Ends IsBadQuery done.status
  bad_query_answer all none done text (planned query done' text' writes answers) = absurd (none query writes)
  bad_query_answer all none done text (bad error text' refusal told) = inl (error, refl)

  pub bad_query_called : (done : Done) (text : List ℕ) → IsAnswer registry words input done text → BadQueryCalledFor words input done.status
  bad_query_called done text answers all right told short none =
      called IsBadQuery all right told short (bad_query_answer all none) done text answers

  -- the answer to the bytes of a query is one to its plan
  module _ (P : Status → Type 0) (all : List ℕ) (query : QueryModel) (writes : WritesQuery all query) (plan : (done : Done) (text : List ℕ) → IsPlanAnswer registry (resolved registry query.plan) done text → Ends P done.status) where
    query_answer : (done : Done) (text : List ℕ) → IsQueryAnswer registry all done text → Ends P done.status
    query_answer done text (planned other done' text' written answers) =
        plan done' text' (subst (λ (q : QueryModel). IsPlanAnswer registry (resolved registry q.plan) done' text') (writes_one_query all other query written writes) answers)
    query_answer done text (bad error text' refusal told) =
        absurd (told_reason error text' told (refused_query_is_memory all query error writes refusal))

  refused_answer : (plan : Plan) → ¬ (IsWellFormed registry plan) → (done : Done) (text : List ℕ) → IsPlanAnswer registry plan done text → Ends IsRefused done.status
  refused_answer plan ill done text (lowered lowering tree is) = absurd (ill is.well_formed)
  refused_answer plan ill done text (refused error refusal other) = inl (error, refl)

  pub refused_called : (done : Done) (text : List ℕ) → IsAnswer registry words input done text → RefusalCalledFor registry words input done.status
  refused_called done text answers all query right told short writes ill =
      called IsRefused all right told short (query_answer IsRefused all query writes (refused_answer (resolved registry query.plan) ill)) done text answers

  no_refusal : (plan : Plan) (error : PlanError) → IsWellFormed registry plan → ¬ (error.kind ≡ kinds.NoMemory) → IsPlanRefusal registry plan error → ⊥
  no_refusal plan error well other (out_of_memory e) = other (ap (λ (x : PlanError). x.kind) e)
  no_refusal plan error well other (broken breaks ill) = ill well

  lowered_answer : (plan : Plan) → IsWellFormed registry plan → (done : Done) (text : List ℕ) → IsPlanAnswer registry plan done text → Ends (λ e. e ≡ status.Lowered) done.status
  lowered_answer plan well done text (lowered lowering tree is) = inl refl
  lowered_answer plan well done text (refused error refusal other) = absurd (no_refusal plan error well other refusal)

  pub lowered_called : (done : Done) (text : List ℕ) → IsAnswer registry words input done text → LoweringCalledFor registry words input done.status
  lowered_called done text answers all query right told short writes well =
      called (λ e. e ≡ status.Lowered) all right told short (query_answer (λ e. e ≡ status.Lowered) all query writes (lowered_answer (resolved registry query.plan) well)) done text answers

-- where no fault comes, only memory can lack
excused_memory : (ending : Status) → IsExcused ending → ¬ (ending ≡ status.ReadFault) → ¬ (ending ≡ status.WriteFault) → ending ≡ status.NoMemory
excused_memory status.NoMemory excused no_read no_write = refl
excused_memory status.ReadFault excused no_read no_write = absurd (no_read refl)
excused_memory status.WriteFault excused no_read no_write = absurd (no_write refl)
excused_memory status.Lowered excused no_read no_write = absurd excused
excused_memory (status.Refused error) excused no_read no_write = absurd excused
excused_memory status.Usage excused no_read no_write = absurd excused
excused_memory (status.BadQuery error) excused no_read no_write = absurd excused
excused_memory status.TooLong excused no_read no_write = absurd excused

pub complete : (registry : Registry) (words : List Name) (input : Option (List ℕ)) (ending : Status) → LoweringCalledFor registry words input ending → ¬ (ending ≡ status.ReadFault) → ¬ (ending ≡ status.WriteFault) → IsComplete registry words input ending
complete registry words input ending called no_read no_write all query right told short writes well =
    ⊎_elim (λ e. inl e) (λ x. inr (excused_memory ending x no_read no_write)) (called all query right told short writes well)
