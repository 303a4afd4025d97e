-- What is handed out, and statuses by their numbers.
use Rattle.std.proofs.Common.{◌≡◌, ℕ, zero, suc, List, [], ◌∷◌, length, Contains, refl, subst, arith}
use Rattle.plan_types.specs.declared.error.PlanError.{PlanError}
use Rattle.plan_json.specs.declared.error.JsonError.{JsonError}
use Rattle.query_run.specs.Answers.{status_number}
use Rattle.query_run.specs.Endings.{IsFault}
use Rattle.query_run.specs.declared.status.Status.{Status}
use Rattle.query_run.specs.declared.status.Status.TheVariants as status
use Rattle.lowerq_c.specs.Calls.{overwritten, Hands}

-- a text was handed out, of which that holds
pub handed : (P : List ℕ → Type 0) (text before after : List ℕ) (told : ℕ) → told ≡ length text → after ≡ overwritten text before → P text → Hands P before after told
handed P text before after told whole front p = (text, (record { whole = whole; front = front }, p))

-- what a number tells of a status
abbrev Tells : ℕ → Status → Type 0
Tells zero ending = ending ≡ status.Lowered
Tells (suc zero) ending = (error : PlanError) × (ending ≡ status.Refused error)
Tells (suc (suc (suc zero))) ending = (error : JsonError) × (ending ≡ status.BadQuery error)
Tells _ ending = Unit {0}

own_number : (ending : Status) → Tells (status_number ending) ending
own_number status.Lowered = refl
own_number (status.Refused error) = (error, refl)
own_number status.Usage = tt
own_number (status.BadQuery error) = (error, refl)
own_number status.ReadFault = tt
own_number status.WriteFault = tt
own_number status.NoMemory = tt
own_number status.TooLong = tt

pub is_lowered : (ending : Status) → status_number ending ≡ 0 → ending ≡ status.Lowered
is_lowered ending e = subst (λ n. Tells n ending) e (own_number ending)

pub is_refused : (ending : Status) → status_number ending ≡ 1 → (error : PlanError) × (ending ≡ status.Refused error)
is_refused ending e = subst (λ n. Tells n ending) e (own_number ending)

pub is_bad_query : (ending : Status) → status_number ending ≡ 3 → (error : JsonError) × (ending ≡ status.BadQuery error)
is_bad_query ending e = subst (λ n. Tells n ending) e (own_number ending)

-- the numbers of statuses that are neither a fault nor the usage
abbrev numbers : List ℕ
numbers = 0 ∷ 1 ∷ 3 ∷ 6 ∷ 7 ∷ []

pub listed : (ending : Status) → ¬ (IsFault ending) → ¬ (ending ≡ status.Usage) → Contains numbers (status_number ending)
listed status.Lowered sound other = (0, omega arith, refl)
listed (status.Refused error) sound other = (1, omega arith, refl)
listed (status.BadQuery error) sound other = (2, omega arith, refl)
listed status.NoMemory sound other = (3, omega arith, refl)
listed status.TooLong sound other = (4, omega arith, refl)
listed status.Usage sound other = absurd (other refl)
listed status.ReadFault sound other = absurd (sound tt)
listed status.WriteFault sound other = absurd (sound tt)
