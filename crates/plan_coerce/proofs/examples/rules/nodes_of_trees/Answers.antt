use Rattle.std.proofs.Common.{◌≡◌, ℕ, List, [], ◌∷◌, refl, inl, ⊎_elim, arith}
use Rattle.plan_coerce.proofs.examples.rules.nodes_of_trees.Goals as goal

pub returns-clause-listed : goal.returns-clause-listed
returns-clause-listed c =
    (0 ∷ 1 ∷ [], 0 ∷ 1 ∷ [], refl, refl, (0 ∷ [], 1 ∷ [], refl, ([], [], refl, refl, refl), (1 ∷ [], [], refl, ([], [], refl, refl, refl), refl)))

pub returns-clause-twice : goal.returns-clause-twice
returns-clause-twice c =
    (0 ∷ 0 ∷ [], 0 ∷ 0 ∷ [], refl, refl, (0 ∷ [], 0 ∷ [], refl, ([], [], refl, refl, refl), (0 ∷ [], [], refl, ([], [], refl, refl, refl), refl)))

first_same : (a b : ℕ) (xs ys : List ℕ) → a ∷ xs ≡ b ∷ ys → a ≡ b
first_same a b xs ys e = cc

pub returns-clause-other_node : goal.returns-clause-other_node
returns-clause-other_node c = λ h.
    let e = first_same 1 2 [] h.1 h.3 in
    absurd (omega (arith, e))

pub returns-clause-once : goal.returns-clause-once
returns-clause-once c = (
  λ a. ⊎_elim (λ e. absurd (omega (arith, e))) (λ b. ⊎_elim (λ e. absurd (omega (arith, e))) (λ n. absurd n) b) a,
  (λ a. ⊎_elim (λ e. absurd (omega (arith, e))) (λ n. absurd n) a, ((λ a. a), tt)),
)

pub returns-clause-not_once : goal.returns-clause-not_once
returns-clause-not_once c = λ h. h.1.0 (inl refl)
