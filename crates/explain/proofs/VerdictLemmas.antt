-- What is said of what lowering answers.
use Rattle.std.proofs.Common.{◌≡◌, ℕ, List, Some, None, Result, Ok, Err, IfOk, IfErr, MatchResult, IsErrAnd, sym, ap, subst, ◌∙◌}
use Rattle.plan_types.specs.declared.error.PlanError.{PlanError}
use Rattle.plan_dsl.specs.Registry.{Registry}
use Rattle.plan_dsl.specs.Resolving.{resolved}
use Rattle.plan_json.specs.Bytes.{WritesQuery}
use Rattle.plan_json.specs.Queries.{QueryModel}
use Rattle.plan_arena.specs.declared.plan.IRPlan.{IRPlan}
use Rattle.plan_lower.specs.Lowering.{Answers, IsPlanRefusal, IsTyped, IsSound, GivesSameFrame, out_of_memory, broken}
use Rattle.explain.specs.Verdicts.{RefusesText, StandsForText, TellsFault, no_query, broken as breaks_rule, plan_words, refusal_words}
use Rattle.explain.specs.declared.answers.Refusal.{Refusal}
use Rattle.explain.specs.declared.answers.Refusal.TheVariants.{Text, Plan as BrokenPlan}

module _ (registry : Registry) (text said : List ℕ) where
  no_words : None ≡ Some said → ⊥
  no_words e = cc

  broken_told : (query : QueryModel) (error : PlanError) → WritesQuery text query → IsPlanRefusal registry (resolved registry query.plan) error → plan_words error.kind error.place ≡ Some said → TellsFault registry text said
  broken_told query error writes (out_of_memory e) told = absurd (no_words (sym (ap (λ (x : PlanError). plan_words x.kind x.place) e) ∙ told))
  broken_told query error writes (broken breaks ill) told =
      breaks_rule error.kind error.place (record { query = query; writes = writes; breaks = breaks; ill_formed = ill }) told

  -- the words of a refusal: out of memory has none
  pub refusal_told : (refusal : Refusal) → RefusesText registry text refusal → refusal_words refusal ≡ Some said → TellsFault registry text said
  refusal_told (Text error) is told = no_query error is told
  refusal_told (BrokenPlan error) is told = broken_told is.query error is.writes is.refusal told

-- what lowering answers of a query that a text writes, with the error as a refusal
module _ (registry : Registry) (text : List ℕ) (query : QueryModel) (writes : WritesQuery text query) (as_refusal : PlanError → Refusal → Type 0) where
  pub answer_stands : (answer : Result IRPlan PlanError) (result : Result IRPlan Refusal) → MatchResult answer (λ plan. result ≡ Ok plan) (λ error. IsErrAnd result (as_refusal error)) → Answers registry (resolved registry query.plan) answer → IfOk answer (IsTyped registry (resolved registry query.plan)) → IfOk answer (IsSound registry (resolved registry query.plan)) → IfOk answer (GivesSameFrame registry (resolved registry query.plan)) → IfOk result (StandsForText registry text)
  answer_stands (Ok plan) result is answers typed sound same_frame =
      subst (λ (r : Result IRPlan Refusal). IfOk r (StandsForText registry text)) (sym is)
      (record { query = query; writes = writes; well_formed = answers; typed = typed; sound = sound; same_frame = same_frame })
  answer_stands (Err error) (Ok plan) is answers typed sound same_frame = absurd is
  answer_stands (Err error) (Err refusal) is answers typed sound same_frame = tt

  pub answer_refuses : (answer : Result IRPlan PlanError) (result : Result IRPlan Refusal) → MatchResult answer (λ plan. result ≡ Ok plan) (λ error. IsErrAnd result (as_refusal error)) → Answers registry (resolved registry query.plan) answer → ((error : PlanError) (refusal : Refusal) → as_refusal error refusal → refusal ≡ BrokenPlan error) → IfErr result (RefusesText registry text)
  answer_refuses (Ok plan) result is answers gives = subst (λ (r : Result IRPlan Refusal). IfErr r (RefusesText registry text)) (sym is) tt
  answer_refuses (Err error) (Ok plan) is answers gives = absurd is
  answer_refuses (Err error) (Err refusal) is answers gives =
      subst (RefusesText registry text) (sym (gives error refusal is)) (record { query = query; writes = writes; refusal = answers })

-- what holds of a value that was read, where an error would have been turned into a refusal
pub read_one : {T E : Type 0} (P : T → Type 0) (answer : Result T E) (value : T) → (let read : Result T Refusal = Ok value in MatchResult answer (λ other. read ≡ Ok other) (λ error. ⊥)) → IfOk answer P → P value
read_one P (Ok other) value is holds = let same : other ≡ value = cc in subst P same holds
read_one P (Err error) value is holds = absurd is
