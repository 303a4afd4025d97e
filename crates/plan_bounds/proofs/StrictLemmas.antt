-- What is strict has the casts that it needs.
use Rattle.std.proofs.Common.{◌≡◌, ℕ, zero, false, cond, List, [], ◌∷◌, Option, Some, None, refl, sym, ap, ◌∙◌, arith}
use Rattle.std.specs.Prelude.{sum, sum_by}
use Rattle.std.specs.List.{AllByRecursion}
use Rattle.std.proofs.lemmas.Bool.{and_parts}
use Rattle.std.proofs.lemmas.List.Sums.{sum_by-cons}
use Rattle.plan_types.specs.Types.{Ty}
use Rattle.plan_types.specs.TypeLaws.{same_type_own}
use Rattle.plan_types.specs.Schemas.{Columns}
use Rattle.plan_dsl.specs.Counts.{expression_casts, outputs_casts, plan_op_casts, cast_count}
use Rattle.plan_dsl.specs.Ops.{Op, Expression}
use Rattle.plan_dsl.specs.PlanRules.{input_schema, schemas_of}
use Rattle.plan_dsl.specs.Plans.{Named, OverInput, PlanOp, Plan, expressions_of}
use Rattle.plan_dsl.specs.Registry.{Registry}
use Rattle.plan_dsl.specs.Strictness.{AllStrict, IsStrict, is_strict, is_strict_over, are_strict}
use Rattle.plan_dsl.specs.Trees.{Trees, node, no_more, more, fold_all}
use Rattle.plan_dsl.specs.Typing.{types_of, typing_all}
use Rattle.plan_dsl.proofs.LiteralLemmas.{strict_settled}
use Rattle.plan_dsl.proofs.StrictLemmas.{strict_parts}
use Rattle.plan_arena.specs.Runs.{IsStrictCore, AreStrictOver, AreStrict, IsStrictPlan, AllStrictPlans}
use Rattle.plan_bounds.specs.Counts.{changed_casts, operands_casts, ruled_casts, node_casts, implicit_casts, all_implicit_casts, needed_casts}
use Rattle.plan_bounds.specs.PlanCounts.{over_schema, over_inputs, settled_needs, own_needs, own_where, plan_needs, in_plans}
use Rattle.plan_bounds.specs.Laws.{in_all}

-- operands that are taken to their own types need none
own_casts : (types : List Ty) → operands_casts types types ≡ zero
own_casts [] = refl
own_casts (type ∷ types) =
    let own = ap (λ b. cond b zero (changed_casts type type)) (same_type_own type) in
    let below = own_casts types in
    omega (arith, own, below)

module _ (registry : Registry) where
  mutual
    strict_implicit : (schema : Columns) (tree : Expression) → IsStrict registry schema tree → implicit_casts false registry schema tree ≡ zero
    strict_implicit schema (node op children) strict =
        let parts = and_parts (is_strict_over registry schema op (typing_all registry schema children)) (are_strict registry schema children) strict in
        let p = strict_parts registry schema op children parts.0 in
        let own = ap (node_casts false registry schema op) p.types ∙ ap (ruled_casts (types_of p.typed)) p.rules ∙ ap (operands_casts (types_of p.typed)) (sym p.kept) ∙ own_casts (types_of p.typed) in
        let below = all_strict_implicit schema children parts.1 in
        omega (arith, own, below)

    all_strict_implicit : (schema : Columns) (trees : Trees Op) → AllStrict registry schema trees → all_implicit_casts false registry schema trees ≡ zero
    all_strict_implicit schema no_more strict = refl
    all_strict_implicit schema (more tree trees) strict =
        let parts = and_parts (is_strict registry schema tree) (are_strict registry schema trees) strict in
        let own = strict_implicit schema tree parts.0 in
        let below = all_strict_implicit schema trees parts.1 in
        omega (arith, own, below)

  strict_needs : (schema : Columns) (tree : Expression) → IsStrict registry schema tree → settled_needs false registry schema tree ≡ expression_casts tree
  strict_needs schema tree strict =
      let none = strict_implicit schema tree strict in
      let own = ap (needed_casts false registry schema) (strict_settled registry schema tree strict) in
      omega (arith, none, own)

  outputs_need : (schema : Columns) (outputs : List (Named Expression)) → AllByRecursion (λ output. IsStrictCore registry schema output.expression) outputs → in_all (settled_needs false registry schema) outputs ≡ outputs_casts outputs
  outputs_need schema [] strict = refl
  outputs_need schema (output ∷ outputs) strict =
      let left = sum_by-cons (λ (x : Named Expression). settled_needs false registry schema x.expression) output outputs in
      let right = sum_by-cons (λ (x : Named Expression). expression_casts x.expression) output outputs in
      let own = strict_needs schema output.expression strict.0.1 in
      let below = outputs_need schema outputs strict.1 in
      omega (arith, left, right, own, below)

  over_need : (schema : Option Columns) (outputs : List (Named Expression)) → AreStrictOver registry schema outputs → over_schema (settled_needs false) registry schema outputs ≡ outputs_casts outputs
  over_need None outputs strict = absurd strict
  over_need (Some schema) outputs strict = outputs_need schema outputs strict

  node_needs : (inputs : List (Option Columns)) (es : List (OverInput (Named Expression))) → AreStrict registry inputs es → over_inputs (settled_needs false) registry inputs es ≡ sum_by (λ (e : OverInput (Named Expression)). outputs_casts e.outputs) es
  node_needs inputs [] strict = refl
  node_needs inputs (e ∷ es) strict =
      let left = sum_by-cons (λ (x : OverInput (Named Expression)). over_schema (settled_needs false) registry (input_schema inputs x.input) x.outputs) e es in
      let right = sum_by-cons (λ (x : OverInput (Named Expression)). outputs_casts x.outputs) e es in
      let own = over_need (input_schema inputs e.input) e.outputs strict.0 in
      let below = node_needs inputs es strict.1 in
      omega (arith, left, right, own, below)

  mutual
    pub strict_plan_needs : (plan : Plan) → IsStrictPlan registry plan → plan_needs false registry plan ≡ cast_count plan
    strict_plan_needs (node op inputs) strict =
        let own = node_needs (schemas_of registry inputs) (expressions_of op.kind) strict.0 in
        let below = strict_plans_need inputs strict.1 in
        omega (arith, own, below)

    strict_plans_need : (plans : Trees (PlanOp (Named Expression))) → AllStrictPlans registry plans → in_plans (settled_needs false) (own_where false own_needs) registry plans ≡ sum (fold_all plan_op_casts plans)
    strict_plans_need no_more strict = refl
    strict_plans_need (more plan plans) strict =
        let whole = sum_by-cons (λ (x : ℕ). x) (cast_count plan) (fold_all plan_op_casts plans) in
        let own = strict_plan_needs plan strict.0 in
        let below = strict_plans_need plans strict.1 in
        omega (arith, whole, own, below)
