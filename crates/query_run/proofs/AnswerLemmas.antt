-- Answers from what their parts say.
use Rattle.std.proofs.Common.{sym, ap, subst, ◌∙◌, ◌≡◌, ◌↔◌, ℕ, zero, suc, ◌<◌, List, [], ◌∷◌, Bool, true, false, IsTrue, Option, Some, length, get_or, codes, string_bytes, String, arith}
use Rattle.std.specs.Global.{Global}
use Rattle.std.specs.Str.{chars, IsUtf8, bytes_eq}
use Rattle.std.specs.Str.{IsAscii}
use Rattle.std.proofs.lemmas.Str.{IsUtf8-from_ascii, chars-IsAscii}
use Rattle.std.proofs.lemmas.Str.Ascii.{IsAscii-from_all}
use Rattle.std.proofs.lemmas.Slice.Eq.{bytes_eq-Decides}
use Rattle.plan_types.specs.Schemas.{Name}
use Rattle.plan_types.proofs.TextLemmas.{eq_by_chars}
use Rattle.plan_dsl.specs.Plans.{Plan}
use Rattle.plan_dsl.specs.Registry.{Registry}
use Rattle.plan_dsl.specs.Resolving.{resolved}
use Rattle.plan_arena.specs.Items.{DenotesPlan}
use Rattle.plan_arena.specs.declared.plan.IRPlan.{IRPlan}
use Rattle.plan_lower.specs.Lowering.{IsTyped, HasLoweredTop, HasBoundedTop, IsSplit, IsSound, GivesSameFrame, IsLoweringOf}
use Rattle.plan_lower.proofs.PlanLemmas.{top_wide}
use Rattle.plan_dsl.specs.PlanRules.{IsWellFormed}
use Rattle.plan_arena.specs.Runs.{IsAccepted}
use Rattle.plan_report.specs.Report.{report_text}
use Rattle.query_run.specs.Answers.{IsAnswer, IsQueryAnswer, IsPlanAnswer, lowered, refused, planned, bad, usage, read, too_long, read_fault, no_memory, right_words, without_plan}
use Rattle.query_run.specs.declared.answer.Answer.{Answer}
use Rattle.query_run.specs.declared.status.Done.{Done}
use Rattle.query_run.specs.declared.status.Status.{Status}
use Rattle.query_run.specs.declared.status.Status.TheVariants as status

-- what holds of a status and a text holds of the answer that was made of them
pub of_answer : (P : Done → List ℕ → Type 0) (answer : Answer) (ending : Status) (text : String Global) (bytes : List ℕ) → answer ≡ record { done = without_plan ending; text = text } → string_bytes text ≡ bytes → P (without_plan ending) bytes → P answer.done (string_bytes answer.text)
of_answer P answer ending text bytes made told p =
    subst (λ a. P a.done (string_bytes a.text)) (sym made) (subst (λ b. P (without_plan ending) b) (sym told) p)

-- a report of what was lowered
pub reported : (registry : Registry) (plan : Plan) (lowering : IRPlan) (text : List ℕ) → IsWellFormed registry plan → (t : IsTyped registry plan lowering) → IsSplit lowering → IsSound registry plan lowering → GivesSameFrame registry plan lowering → HasLoweredTop registry lowering → HasBoundedTop registry plan lowering → ((r : Registry) (tree : Plan) → DenotesPlan lowering tree → IsAccepted r tree → text ≡ report_text r tree) → IsPlanAnswer registry plan (record { status = status.Lowered; plan = Some lowering }) text
reported registry plan lowering text well_formed t split sound same_frame top bounds tells =
    let is : IsLoweringOf registry plan lowering t.tree = record {
      well_formed = well_formed;
      denotes = t.denotes;
      accepted = t.accepted;
      strict = t.strict;
      names = t.names;
      split = split t.tree t.denotes;
      schema = t.schema;
      sound = sound t.tree t.denotes;
      same_frame = same_frame t.tree t.denotes;
      wide = top_wide registry lowering top t.tree t.denotes;
      bounds = bounds t.tree t.denotes;
    } in
    subst (λ b. IsPlanAnswer registry plan (record { status = status.Lowered; plan = Some lowering }) b) (sym (tells registry t.tree t.denotes t.accepted)) (lowered lowering t.tree is)

-- the only word of some words
one_word : (words : List Name) (word : Name) → length words ≡ 1 → word ≡ get_or words 0 word → words ≡ word ∷ []
one_word [] word long is = absurd (omega (arith, long))
one_word (w ∷ []) word long is = ap (λ x. x ∷ []) (sym is)
one_word (w ∷ v ∷ words) word long is = absurd (omega (arith, long))

-- the first of some words, of which there is one at least
abbrev first_word : List Name → Name
first_word [] = []
first_word (w ∷ words) = w

lower_small : (k d : ℕ) → k < 5 → get_or (codes "lower") k d < 128
lower_small zero d lt = omega arith
lower_small (suc zero) d lt = omega arith
lower_small (suc (suc zero)) d lt = omega arith
lower_small (suc (suc (suc zero))) d lt = omega arith
lower_small (suc (suc (suc (suc zero)))) d lt = omega arith
lower_small (suc (suc (suc (suc (suc k))))) d lt = absurd (omega (arith, lt))

lower_ascii : IsAscii (codes "lower")
lower_ascii = IsAscii-from_all (codes "lower") lower_small

-- the characters of the word
pub lower_word : chars (codes "lower") ≡ codes "lower"
lower_word = chars-IsAscii (codes "lower") lower_ascii

-- comparing the bytes of the only word tells whether the words are right
pub right_by_bytes : (words : List Name) (word : Name) (bytes : List ℕ) (equal : Bool) → length words ≡ 1 → word ≡ get_or words 0 word → chars bytes ≡ word → IsUtf8 bytes → equal ≡ bytes_eq bytes (codes "lower") → IsTrue equal ↔ (words ≡ right_words)
right_by_bytes words word bytes equal long is seen of_text compared =
    let by_chars : equal ≡ bytes_eq word (codes "lower") = compared ∙ eq_by_chars bytes (codes "lower") of_text (IsUtf8-from_ascii (codes "lower") lower_ascii) ∙ ap (bytes_eq (chars bytes)) (chars-IsAscii (codes "lower") lower_ascii) ∙ ap (λ w. bytes_eq w (codes "lower")) seen in
    let decides = bytes_eq-Decides word (codes "lower") in
    let only = one_word words word long is in
    (λ t. only ∙ ap (λ w. w ∷ []) (decides.0 (subst IsTrue by_chars t)), λ e. subst IsTrue (sym by_chars) (decides.1 (ap first_word (sym only ∙ e))))

-- ---- no answer is a failed write

NoWriteFault : Status → Type 0
NoWriteFault status.Lowered = Unit {0}
NoWriteFault (status.Refused error) = Unit {0}
NoWriteFault status.Usage = Unit {0}
NoWriteFault (status.BadQuery error) = Unit {0}
NoWriteFault status.ReadFault = Unit {0}
NoWriteFault status.WriteFault = ⊥
NoWriteFault status.NoMemory = Unit {0}
NoWriteFault status.TooLong = Unit {0}

plan_writes : (registry : Registry) (plan : Plan) (done : Done) (text : List ℕ) → IsPlanAnswer registry plan done text → NoWriteFault done.status
unfolding NoWriteFault
plan_writes registry plan done text (lowered lowering tree is) = tt
plan_writes registry plan done text (refused error refuses other) = tt

query_writes : (registry : Registry) (bytes : List ℕ) (done : Done) (text : List ℕ) → IsQueryAnswer registry bytes done text → NoWriteFault done.status
unfolding NoWriteFault
query_writes registry bytes done text (planned query ending told writes answers) = plan_writes registry (resolved registry query.plan) ending told answers
query_writes registry bytes done text (bad error told refuses tells) = tt

answer_writes : (registry : Registry) (words : List Name) (input : Option (List ℕ)) (done : Done) (text : List ℕ) → IsAnswer registry words input done text → NoWriteFault done.status
unfolding NoWriteFault
answer_writes registry words input done text (usage wrong) = tt
answer_writes registry words input done text (read bytes ending told right whole fits answers) = query_writes registry bytes ending told answers
answer_writes registry words input done text (too_long right long) = tt
answer_writes registry words input done text (read_fault right) = tt
answer_writes registry words input done text no_memory = tt

pub never_write_fault : (registry : Registry) (words : List Name) (input : Option (List ℕ)) (done : Done) (text : List ℕ) → IsAnswer registry words input done text → done.status ≡ status.WriteFault → ⊥
unfolding NoWriteFault
never_write_fault registry words input done text answers is = subst NoWriteFault is (answer_writes registry words input done text answers)

-- ---- truth values

Off : Bool → Type 0
Off true = ⊥
Off false = Unit {0}

-- what a test denies doesn't hold
pub denied : {P : Type 0} → (IsTrue false ↔ P) → ¬ P
unfolding Off
denied both p = subst Off (both.1 p) tt
