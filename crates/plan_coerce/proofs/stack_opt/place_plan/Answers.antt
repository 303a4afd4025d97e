use Rattle.std.proofs.Common.{◌≡◌, ◌≢◌, ℕ, zero, suc, List, [], ◌∷◌, Option, None, Some, set, slice_get, refl, ap, ◌∙◌}
use Rattle.plan_coerce.proofs.stack_opt.place_plan.Goals as goal

some_none : {T : Type 0} (answer : Option T) (x : T) → answer ≡ Some x → answer ≡ None → ⊥
some_none answer x a b = cc

-- a write changes no other item
other_kept : {T : Type 0} (xs : List T) (at n : ℕ) (x : T) → n ≢ at → slice_get (set xs at x) n ≡ slice_get xs n
other_kept [] at n x other = refl
other_kept (y ∷ xs) zero zero x other = absurd (other refl)
other_kept (y ∷ xs) zero (suc n) x other = refl
other_kept (y ∷ xs) (suc at) zero x other = refl
other_kept (y ∷ xs) (suc at) (suc n) x other = other_kept xs at n x (λ e. other (ap suc e))

pub returns-in-Some-clause-plans : goal.returns-in-Some-clause-plans
returns-in-Some-clause-plans g c = λ n other. ap (λ l. slice_get l n) c.replace.ensures.items ∙ other_kept _ c.args.node.0 n c.in-Some.item other

-- a settled node has no answer
pub returns-in-Some-clause-plan_stays : goal.returns-in-Some-clause-plan_stays
returns-in-Some-clause-plan_stays g c = λ kind over stands settled. absurd (some_none c.in_ok-optimize_plan.field-0 c.in-Some.item c.in-Some.is (c.in_ok-optimize_plan.ensures.stays kind over stands settled))

-- a rule that puts nothing in place of plans' nodes has none either
pub returns-in-Some-clause-plan_same : goal.returns-in-Some-clause-plan_same
returns-in-Some-clause-plan_same g c = λ never. absurd (some_none c.in_ok-optimize_plan.field-0 c.in-Some.item c.in-Some.is (c.in_ok-optimize_plan.ensures.none never))
