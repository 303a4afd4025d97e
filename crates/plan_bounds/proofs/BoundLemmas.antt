-- What a plan's node has no more of than the query's: over what stands for its expressions, over the empty table, and of a
-- filter that is split.
use Rattle.std.proofs.Common.{◌≡◌, ℕ, ◌+◌, ◌≤◌, Bool, true, false, IsTrue, List, [], ◌∷◌, length, Option, Some, Ok, refl, sym, ap, ◌∙◌, arith}
use Rattle.std.specs.Prelude.{sum_by}
use Rattle.std.specs.List.{AllByRecursion}
use Rattle.std.proofs.lemmas.List.Sums.{sum_by-cons}
use Rattle.plan_types.specs.Schemas.{Columns}
use Rattle.plan_dsl.specs.Aliases.{core, spelled}
use Rattle.plan_dsl.specs.Counts.{expression_casts, outputs_casts, cast_count}
use Rattle.plan_dsl.specs.InlinedCasts.{written_out}
use Rattle.plan_dsl.specs.Literals.{settled}
use Rattle.plan_dsl.specs.Ops.{Expression}
use Rattle.plan_dsl.specs.PlanRules.{input_schema, plan_rule, schema_of}
use Rattle.plan_dsl.specs.Plans.{Named, OverInput, PlanOp, Plan, named, over_input, expressions_of, scan_op, filter_op, empty_table}
use Rattle.plan_dsl.specs.Registry.{Registry}
use Rattle.plan_dsl.specs.Trees.{node, no_more, more}
use Rattle.plan_dsl.specs.Typing.{Typed, typing}
use Rattle.plan_dsl.proofs.LiteralLemmas.{strict_settled}
use Rattle.plan_dsl.proofs.RuleLemmas.{filter_schema}
use Rattle.plan_properties.specs.Splitting.{IsCondition, filters_over, split_predicate}
use Rattle.plan_properties.proofs.FilterLemmas.{IsPredicate}
use Rattle.plan_bounds.specs.Bounds.{IsBounded}
use Rattle.plan_bounds.specs.Counts.{other_nodes, idle_casts}
use Rattle.plan_bounds.specs.Laws.{in_all}
use Rattle.plan_bounds.specs.LoweredPlans.{has_wide_horizontals}
use Rattle.plan_bounds.specs.PlanCounts.{over_schema, over_inputs, settled_needs, nodes_in, plan_idle, plan_most, plan_size}
use Rattle.plan_bounds.proofs.CountLemmas.{written_casts, written_others, written_idle, settled_others, settled_idle}
use Rattle.plan_bounds.proofs.SpelledLemmas.{settled_typed, spelled_within}
use Rattle.plan_bounds.proofs.PartLemmas.{split_casts, split_idle, split_size}
use Rattle.plan_bounds.proofs.WideLemmas.{unwritten_wide}

one_alone : {A : Type 0} (f : A → ℕ) (x : A) → sum_by f (x ∷ []) ≡ f x
one_alone f x = let whole = sum_by-cons f x [] in omega (arith, whole)

-- a plan has a node
pub one_node : (registry : Registry) (plan : Plan) → 1 ≤ plan_most registry plan
one_node registry (node op inputs) = omega arith

module _ (registry : Registry) where
  -- ---- expressions over a schema

  pub record AreWithin (schema : Columns) (before after : List (Named Expression)) : Type 0 where
    pub casts : outputs_casts after ≤ in_all (settled_needs true registry schema) before
    pub idle : in_all (idle_casts false registry schema) after ≤ in_all (idle_casts true registry schema) before
    pub nodes : in_all (other_nodes false) after ≤ in_all (other_nodes true) before

  pub none_within : (schema : Columns) → AreWithin schema [] []
  none_within schema = record { casts = omega arith; idle = omega arith; nodes = omega arith }

  -- one more that has its horizontals and every cast written out
  pub more_within : (schema : Columns) (tree : Expression) (after : Named Expression) (typed : Typed) (befores afters : List (Named Expression)) → typing registry schema (settled (core tree)) ≡ Ok typed → IsTrue (has_wide_horizontals after.expression) → after.expression ≡ written_out registry schema (settled (spelled tree)) → AreWithin schema befores afters → AreWithin schema (named tree ∷ befores) (after ∷ afters)
  more_within schema tree after typed befores afters h wide is rest =
      let out = settled (spelled tree) in
      let out_typed = settled_typed registry schema tree typed h in
      let whole = spelled_within registry schema tree typed h (unwritten_wide registry schema out typed out_typed (sym (ap has_wide_horizontals is) ∙ wide)) in
      record {
        casts =
            let left = sum_by-cons (λ (x : Named Expression). expression_casts x.expression) after afters in
            let right = sum_by-cons (λ (x : Named Expression). settled_needs true registry schema x.expression) (named tree) befores in
            let own = ap expression_casts is in
            let casts = written_casts registry schema out typed out_typed in
            let most = whole.casts in
            let below = rest.casts in
            omega (arith, left, right, own, casts, most, below);
        idle =
            let left = sum_by-cons (λ (x : Named Expression). idle_casts false registry schema x.expression) after afters in
            let right = sum_by-cons (λ (x : Named Expression). idle_casts true registry schema x.expression) (named tree) befores in
            let own = ap (idle_casts false registry schema) is in
            let idle = written_idle registry schema out typed out_typed in
            let most = whole.idle in
            let same = settled_idle registry schema true (core tree) in
            let below = rest.idle in
            omega (arith, left, right, own, idle, most, same, below);
        nodes =
            let left = sum_by-cons (λ (x : Named Expression). other_nodes false x.expression) after afters in
            let right = sum_by-cons (λ (x : Named Expression). other_nodes true x.expression) (named tree) befores in
            let own = ap (other_nodes false) is in
            let nodes = written_others registry schema out typed out_typed in
            let most = whole.nodes in
            let same = settled_others registry schema true (core tree) in
            let below = rest.nodes in
            omega (arith, left, right, own, nodes, most, same, below);
      }

  -- ---- all expressions of a node over an input of the schema

  abbrev casts_in : List (OverInput (Named Expression)) → ℕ
  casts_in es = sum_by (λ (e : OverInput (Named Expression)). outputs_casts e.outputs) es

  pub record AllWithin (schema : Columns) (before after : List (OverInput (Named Expression))) : Type 0 where
    pub casts : casts_in after ≤ over_inputs (settled_needs true) registry (Some schema ∷ []) before
    pub idle : over_inputs (idle_casts false) registry (Some schema ∷ []) after ≤ over_inputs (idle_casts true) registry (Some schema ∷ []) before
    pub nodes : nodes_in false after ≤ nodes_in true before

  pub nothing_within : (schema : Columns) → AllWithin schema [] []
  nothing_within schema = record { casts = omega arith; idle = omega arith; nodes = omega arith }

  over_more : (count : Registry → Columns → Expression → ℕ) (schema : Columns) (outputs : List (Named Expression)) (es : List (OverInput (Named Expression))) → over_inputs count registry (Some schema ∷ []) (over_input 0 outputs ∷ es) ≡ in_all (count registry schema) outputs + over_inputs count registry (Some schema ∷ []) es
  over_more count schema outputs es =
      sum_by-cons (λ (e : OverInput (Named Expression)). over_schema count registry (input_schema (Some schema ∷ []) e.input) e.outputs) (over_input 0 outputs) es

  pub all_within : (schema : Columns) (befores afters : List (Named Expression)) (before after : List (OverInput (Named Expression))) → AreWithin schema befores afters → AllWithin schema before after → AllWithin schema (over_input 0 befores ∷ before) (over_input 0 afters ∷ after)
  all_within schema befores afters before after own rest =
      record {
        casts =
            let left = sum_by-cons (λ (e : OverInput (Named Expression)). outputs_casts e.outputs) (over_input 0 afters) after in
            let right = over_more (settled_needs true) schema befores before in
            let here = own.casts in
            let below = rest.casts in
            omega (arith, left, right, here, below);
        idle =
            let left = over_more (idle_casts false) schema afters after in
            let right = over_more (idle_casts true) schema befores before in
            let here = own.idle in
            let below = rest.idle in
            omega (arith, left, right, here, below);
        nodes =
            let left = sum_by-cons (λ (e : OverInput (Named Expression)). in_all (other_nodes false) e.outputs) (over_input 0 afters) after in
            let right = sum_by-cons (λ (e : OverInput (Named Expression)). in_all (other_nodes true) e.outputs) (over_input 0 befores) before in
            let here = own.nodes in
            let below = rest.nodes in
            omega (arith, left, right, here, below);
      }

  -- ---- nodes

  -- a node over what is bounded by its input
  pub over_bounded : (before op : PlanOp (Named Expression)) (source lowered : Plan) (schema : Columns) → schema_of registry source ≡ Some schema → schema_of registry lowered ≡ Some schema → AllWithin schema (expressions_of before.kind) (expressions_of op.kind) → IsBounded registry source lowered → IsBounded registry (node before (more source no_more)) (node op (more lowered no_more))
  over_bounded before op source lowered schema there here within bounded =
      record {
        casts =
            let left = one_alone (λ (x : ℕ). x) (cast_count lowered) in
            let right = ap (λ s. over_inputs (settled_needs true) registry (s ∷ []) (expressions_of before.kind)) there in
            let own = within.casts in
            let below = bounded.casts in
            omega (arith, left, right, own, below);
        idle =
            let left = ap (λ s. over_inputs (idle_casts false) registry (s ∷ []) (expressions_of op.kind)) here in
            let right = ap (λ s. over_inputs (idle_casts true) registry (s ∷ []) (expressions_of before.kind)) there in
            let own = within.idle in
            let below = bounded.idle in
            omega (arith, left, right, own, below);
        size =
            let left = one_alone (λ (x : ℕ). x) (plan_size lowered) in
            let own = within.nodes in
            let below = bounded.size in
            omega (arith, left, own, below);
      }

  -- a scan by itself
  pub scan_bounded : (table : Option ℕ) (schema : Columns) → IsBounded registry (node (scan_op table schema) no_more) (node (scan_op table schema) no_more)
  scan_bounded table schema =
      let none : cast_count (node (scan_op table schema) no_more) ≡ 0 = refl in
      record { casts = omega (arith, none); idle = omega arith; size = omega arith }

  -- one without expressions over the empty table
  pub over_nothing : (before op : PlanOp (Named Expression)) (source : Plan) → casts_in (expressions_of op.kind) ≡ 0 → over_inputs (idle_casts false) registry (Some [] ∷ []) (expressions_of op.kind) ≡ 0 → nodes_in false (expressions_of op.kind) ≡ 0 → IsBounded registry (node before (more source no_more)) (node op (more empty_table no_more))
  over_nothing before op source casts idle nodes =
      record {
        casts = omega (arith, casts, one_alone (λ (x : ℕ). x) 0);
        idle = omega (arith, idle);
        size =
            let left = one_alone (λ (x : ℕ). x) 1 in
            let below = one_node registry source in
            omega (arith, nodes, left, below);
      }

  -- ---- filters

  module _ (schema : Columns) where
    filters_schema : (predicates : List (Named Expression)) (input : Plan) → AllByRecursion (IsPredicate registry schema) predicates → schema_of registry input ≡ Some schema → schema_of registry (filters_over predicates input) ≡ Some schema
    filters_schema [] input each there = there
    filters_schema (p ∷ ps) input each there =
        let condition = each.0.condition in
        let typed = ap (typing registry schema) (strict_settled registry schema p.expression condition.strict) ∙ condition.typed in
        ap (λ x. plan_rule registry (filter_op p) (x ∷ [])) (filters_schema ps input each.1 there) ∙ filter_schema registry schema p condition.own typed condition.truth

    filters_casts : (predicates : List (Named Expression)) (input : Plan) → cast_count (filters_over predicates input) ≡ outputs_casts predicates + cast_count input
    filters_casts [] input = omega arith
    filters_casts (p ∷ ps) input =
        let below = filters_casts ps input in
        let inner = one_alone (λ (x : ℕ). x) (cast_count (filters_over ps input)) in
        let own = one_alone (λ (e : OverInput (Named Expression)). outputs_casts e.outputs) (over_input 0 (p ∷ [])) in
        let alone = one_alone (λ (x : Named Expression). expression_casts x.expression) p in
        let whole = sum_by-cons (λ (x : Named Expression). expression_casts x.expression) p ps in
        omega (arith, below, inner, own, alone, whole)

    filters_idle : (predicates : List (Named Expression)) (input : Plan) → AllByRecursion (IsPredicate registry schema) predicates → schema_of registry input ≡ Some schema → plan_idle false registry (filters_over predicates input) ≡ in_all (idle_casts false registry schema) predicates + plan_idle false registry input
    filters_idle [] input each there = omega arith
    filters_idle (p ∷ ps) input each there =
        let below = filters_idle ps input each.1 there in
        let here = ap (λ s. over_inputs (idle_casts false) registry (s ∷ []) (over_input 0 (p ∷ []) ∷ [])) (filters_schema ps input each.1 there) in
        let own = over_more (idle_casts false) schema (p ∷ []) [] in
        let alone = one_alone (λ (x : Named Expression). idle_casts false registry schema x.expression) p in
        let whole = sum_by-cons (λ (x : Named Expression). idle_casts false registry schema x.expression) p ps in
        omega (arith, below, here, own, alone, whole)

    filters_size : (predicates : List (Named Expression)) (input : Plan) → plan_size (filters_over predicates input) ≡ in_all (other_nodes false) predicates + length predicates + plan_size input
    filters_size [] input = omega arith
    filters_size (p ∷ ps) input =
        let below = filters_size ps input in
        let inner = one_alone (λ (x : ℕ). x) (plan_size (filters_over ps input)) in
        let own = one_alone (λ (e : OverInput (Named Expression)). in_all (other_nodes false) e.outputs) (over_input 0 (p ∷ [])) in
        let alone = one_alone (λ (x : Named Expression). other_nodes false x.expression) p in
        let whole = sum_by-cons (λ (x : Named Expression). other_nodes false x.expression) p ps in
        omega (arith, below, inner, own, alone, whole)

    -- a filter that is split over what is bounded by its input
    pub split_bounded : (before after : Named Expression) (source lowered : Plan) → schema_of registry source ≡ Some schema → schema_of registry lowered ≡ Some schema → AreWithin schema (before ∷ []) (after ∷ []) → IsCondition registry schema after.expression → AllByRecursion (IsPredicate registry schema) (split_predicate after) → IsBounded registry source lowered → IsBounded registry (node (filter_op before) (more source no_more)) (filters_over (split_predicate after) lowered)
    split_bounded before after source lowered there here within condition each bounded =
        let parts = split_predicate after in
        record {
          casts =
              let left = filters_casts parts lowered in
              let split = split_casts after in
              let alone = one_alone (λ (x : Named Expression). expression_casts x.expression) after in
              let right = ap (λ s. over_inputs (settled_needs true) registry (s ∷ []) (over_input 0 (before ∷ []) ∷ [])) there in
              let own = over_more (settled_needs true) schema (before ∷ []) [] in
              let most = within.casts in
              let below = bounded.casts in
              omega (arith, left, split, alone, right, own, most, below);
          idle =
              let left = filters_idle parts lowered each here in
              let split = split_idle registry schema after in
              let alone = one_alone (λ (x : Named Expression). idle_casts false registry schema x.expression) after in
              let right = ap (λ s. over_inputs (idle_casts true) registry (s ∷ []) (over_input 0 (before ∷ []) ∷ [])) there in
              let own = over_more (idle_casts true) schema (before ∷ []) [] in
              let most = within.idle in
              let below = bounded.idle in
              omega (arith, left, split, alone, right, own, most, below);
          size =
              let left = filters_size parts lowered in
              let split = split_size registry schema after condition in
              let alone = one_alone (λ (x : Named Expression). other_nodes false x.expression) after in
              let right = one_alone (λ (e : OverInput (Named Expression)). in_all (other_nodes true) e.outputs) (over_input 0 (before ∷ [])) in
              let most = within.nodes in
              let below = bounded.size in
              omega (arith, left, split, alone, right, most, below);
        }
