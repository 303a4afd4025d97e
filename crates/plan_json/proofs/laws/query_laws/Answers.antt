use Rattle.std.proofs.Common.{◌⊎◌, inl, inr}
use Rattle.plan_json.proofs.Names.{Data, IsErrorOf, IsRefusalOf, IsTextOf, JsonError, List, NoMemory, NotJson, a_query, refl, same_Some, subst, sym, ℕ, ◌∙◌, ◌≡◌}
use Rattle.plan_json.proofs.NoFaults.{refused_query_is_memory}
use Rattle.plan_json.proofs.laws.query_laws.Goals as goal

pub returns-clause-refused : goal.returns-clause-refused
returns-clause-refused c = refused_query_is_memory

told : (bytes : List ℕ) (d : Data) (error : JsonError) → IsTextOf bytes d → IsRefusalOf bytes error → IsErrorOf a_query d error
told bytes d NotJson text none = absurd (none d text)
told bytes d NoMemory text refused = tt
told bytes d error text (e, written, bad) = subst (λ x. IsErrorOf a_query x error) (same_Some e d (sym written.1 ∙ text.1)) bad

pub returns-clause-told : goal.returns-clause-told
returns-clause-told c = told

pub returns-clause-not_json : goal.returns-clause-not_json
returns-clause-not_json c = λ bytes d text none. none d text

no_text : (bytes : List ℕ) (error : JsonError) → ((d : Data) → ¬ IsTextOf bytes d) → IsRefusalOf bytes error → (error ≡ NotJson) ⊎ (error ≡ NoMemory)
no_text bytes NotJson none refused = inl refl
no_text bytes NoMemory none refused = inr refl
no_text bytes _ none (d, text, bad) = absurd (none d text)

pub returns-clause-no_text : goal.returns-clause-no_text
returns-clause-no_text c = no_text
