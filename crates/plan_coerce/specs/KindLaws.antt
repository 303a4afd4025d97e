-- Replacements by coercion go on, at any depth.
use Rattle.std.specs.Prelude.{◌≡◌, ℕ, zero, suc}
use Rattle.std.proofs.Common.{refl, ap, subst, inl, inr}
use Rattle.plan_types.specs.Schemas.{Columns}
use Rattle.plan_dsl.specs.Registry.{Registry}
use Rattle.plan_dsl.specs.Ops.{Op, Expression}
use Rattle.plan_dsl.specs.Trees.{Trees, node, no_more, more, AllRelated}
use Rattle.plan_coerce.specs.Kinds.{AreSteps, Becomes, IsStep, IsStepAmong}

module _ (registry : Registry) (schema : Columns) where
  -- ---- replacements one after another

  pub becomes_itself : (t : Expression) → Becomes registry schema t t
  becomes_itself t = record { count = 0; steps = refl }

  steps_then : (n : ℕ) (t u w : Expression) → AreSteps registry schema n t u → Becomes registry schema u w → Becomes registry schema t w
  steps_then zero t u w a b = subst (λ v. Becomes registry schema v w) a b
  steps_then (suc n) t u w a b = let rest = steps_then n a.0 u w a.2 b in record { count = suc rest.count; steps = (a.0, a.1, rest.steps) }

  pub becomes_then : (t u w : Expression) → Becomes registry schema t u → Becomes registry schema u w → Becomes registry schema t w
  becomes_then t u w a b = steps_then a.count t u w a.steps b

  pub becomes_one : (t u : Expression) → IsStep registry schema t u → Becomes registry schema t u
  becomes_one t u s = record { count = 1; steps = (u, s, refl) }

  -- ---- of one of several, and at any depth

  abbrev StepsAmong : ℕ → Trees Op → Trees Op → Type 0
  StepsAmong zero ts us = us ≡ ts
  StepsAmong (suc n) ts us = (between : Trees Op) × IsStepAmong registry schema ts between × StepsAmong n between us

  among_first : (n : ℕ) (t u : Expression) (ts : Trees Op) → AreSteps registry schema n t u → StepsAmong n (more t ts) (more u ts)
  among_first zero t u ts a = ap (λ x. more x ts) a
  among_first (suc n) t u ts a = (more a.0 ts, inl (a.1, refl), among_first n a.0 u ts a.2)

  among_rest : (n : ℕ) (t : Expression) (ts us : Trees Op) → StepsAmong n ts us → StepsAmong n (more t ts) (more t us)
  among_rest zero t ts us a = ap (more t) a
  among_rest (suc n) t ts us a = (more t a.0, inr (refl, a.1), among_rest n t a.0 us a.2)

  among_then : (n : ℕ) (ts us ws : Trees Op) → StepsAmong n ts us → ((m : ℕ) × StepsAmong m us ws) → (m : ℕ) × StepsAmong m ts ws
  among_then zero ts us ws a b = subst (λ v. (m : ℕ) × StepsAmong m v ws) a b
  among_then (suc n) ts us ws a b = let rest = among_then n a.0 us ws a.2 b in (suc rest.0, (a.0, a.1, rest.1))

  all_among : (ts us : Trees Op) → AllRelated (Becomes registry schema) ts us → (n : ℕ) × StepsAmong n ts us
  all_among no_more no_more h = (0, refl)
  all_among (more t ts) (more u us) h =
      let rest = all_among ts us h.1 in
      among_then h.0.count (more t ts) (more u ts) (more u us) (among_first h.0.count t u ts h.0.steps) (rest.0, among_rest rest.0 u ts us rest.1)
  all_among no_more (more u us) h = absurd h
  all_among (more t ts) no_more h = absurd h

  steps_over : (n : ℕ) (op : Op) (ts us : Trees Op) → StepsAmong n ts us → AreSteps registry schema n (node op ts) (node op us)
  steps_over zero op ts us a = ap (node op) a
  steps_over (suc n) op ts us a = (node op a.0, inr (a.0, refl, a.1), steps_over n op a.0 us a.2)

  pub becomes_over : (op : Op) (ts us : Trees Op) → AllRelated (Becomes registry schema) ts us → Becomes registry schema (node op ts) (node op us)
  becomes_over op ts us h = let all = all_among ts us h in record { count = all.0; steps = steps_over all.0 op ts us all.1 }
