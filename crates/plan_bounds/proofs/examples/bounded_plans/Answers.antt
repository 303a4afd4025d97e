use Rattle.std.proofs.Common.{◌≡◌, true, false, [], ◌∷◌, refl, arith}
use Rattle.plan_dsl.specs.declared.operator.Operator.TheVariants.{Plus}
use Rattle.plan_dsl.specs.Counts.{cast_count}
use Rattle.plan_dsl.specs.Plans.{Plan}
use Rattle.plan_dsl.specs.Samples.{scan, schema_ab, select}
use Rattle.plan_infer.specs.Samples.{a, b, binary, cast_to, int32, int8, sum}
use Rattle.plan_coerce.specs.Samples.{strict_sum}
use Rattle.plan_bounds.specs.PlanCounts.{plan_idle, plan_most, plan_needs, plan_size}
use Rattle.plan_bounds.proofs.BoundLemmas.{scan_bounded}
use Rattle.plan_bounds.proofs.examples.bounded_plans.Goals as goal

abbrev source : Plan
source = select (sum ∷ []) (scan schema_ab)

needs : plan_needs true [] source ≡ 1
needs = refl

size : plan_most [] source ≡ 5
size = refl

pub returns-clause-itself : goal.returns-clause-itself
returns-clause-itself c = scan_bounded [] _ schema_ab

pub returns-clause-sum : goal.returns-clause-sum
returns-clause-sum c =
    let lowered : Plan = select (strict_sum ∷ []) (scan schema_ab) in
    let casts : cast_count lowered ≡ 1 = refl in
    let idle : plan_idle false [] lowered ≡ 0 = refl in
    let nodes : plan_size lowered ≡ 5 = refl in
    record { casts = omega (arith, casts, needs); idle = omega (arith, idle); size = omega (arith, nodes, size) }

pub returns-clause-smaller : goal.returns-clause-smaller
returns-clause-smaller c =
    let lowered : Plan = select (a ∷ []) (scan schema_ab) in
    let casts : cast_count lowered ≡ 0 = refl in
    let idle : plan_idle false [] lowered ≡ 0 = refl in
    let nodes : plan_size lowered ≡ 3 = refl in
    record { casts = omega (arith, casts); idle = omega (arith, idle); size = omega (arith, nodes, size) }

pub returns-clause-both_casts : goal.returns-clause-both_casts
returns-clause-both_casts c = λ bounded.
    let casts : cast_count (select (binary Plus (cast_to int32 a) (cast_to int32 b) ∷ []) (scan schema_ab)) ≡ 2 = refl in
    let most = bounded.casts in
    absurd (omega (arith, most, casts, needs))

pub returns-clause-idle_cast : goal.returns-clause-idle_cast
returns-clause-idle_cast c = λ bounded.
    let own : plan_idle false [] (select (cast_to int8 a ∷ []) (scan schema_ab)) ≡ 1 = refl in
    let none : plan_idle true [] source ≡ 0 = refl in
    let most = bounded.idle in
    absurd (omega (arith, most, own, none))

pub returns-clause-further_node : goal.returns-clause-further_node
returns-clause-further_node c = λ bounded.
    let own : plan_size (select (a ∷ []) (scan schema_ab)) ≡ 3 = refl in
    let one : plan_most [] (scan schema_ab) ≡ 1 = refl in
    let most = bounded.size in
    absurd (omega (arith, most, own, one))
