-- Filters that one is split to, over a plan: what holds of them, and how they run.
use Rattle.std.proofs.Common.{◌≡◌, inr, true, false, cond, IsTrue, List, [], ◌∷◌, map, is_some, Some, refl, sym, ap, ◌∙◌, subst}
use Rattle.std.specs.List.{AllByRecursion}
use Rattle.plan_types.specs.Frames.{Frame, IsFrameOf, row_numbers}
use Rattle.plan_types.specs.Outcomes.{Outcome, Done, Fault, Stuck, Meets, then_do}
use Rattle.plan_types.specs.Schemas.{Columns}
use Rattle.plan_dsl.specs.Aliases.{IsCore}
use Rattle.plan_dsl.specs.Ops.{Expression}
use Rattle.plan_dsl.specs.PlanKernels.{Evaluation, filtered_on, kept_rows}
use Rattle.plan_dsl.specs.PlanMeaning.{FitsPlan}
use Rattle.plan_dsl.specs.PlanRules.{plan_rule, schema_of}
use Rattle.plan_dsl.specs.Plans.{Named, Plan, expressions_of, filter_op}
use Rattle.plan_dsl.specs.Properties.{permits_pushdown}
use Rattle.plan_dsl.specs.Registry.{Registry}
use Rattle.plan_dsl.specs.Strictness.{IsStrict}
use Rattle.plan_dsl.specs.Trees.{node, no_more, more}
use Rattle.plan_dsl.specs.Typing.{typing}
use Rattle.plan_dsl.proofs.FrameLemmas.{fits_over}
use Rattle.plan_dsl.proofs.LiteralLemmas.{strict_settled}
use Rattle.plan_dsl.proofs.RuleLemmas.{filter_schema}
use Rattle.plan_dsl.proofs.RunLemmas.{strict_is_meaning}
use Rattle.plan_arena.specs.Runs.{AreStrict, HasOwnName, IsAccepted, IsNamedPlan, IsStrictPlan, NamesOperands, by_running, plan_run}
use Rattle.plan_properties.specs.Splitting.{IsCondition, IsSplitPlan, SplittingKeepsPlans, SplittingKeepsSchemas, conjuncts, filters_over, is_whole, kept_by, kept_by_all, own_named, split_predicate}
use Rattle.plan_properties.proofs.SplittingLemmas.{KeepsSchema, kept_all_schema, parts_are_conditions, parts_are_core, parts_are_whole, parts_name_operands, splitting_keeps_frames, whole_where_stays}

module _ (registry : Registry) (schema : Columns) where
  -- a predicate of a lowered filter
  pub record IsPredicate (predicate : Named Expression) : Type 0 where
    pub condition : IsCondition registry schema predicate.expression
    pub core : IsCore predicate.expression
    pub name : HasOwnName predicate
    pub whole : IsTrue (is_whole predicate.expression)

  own_predicates : (trees : List Expression) → AllByRecursion (IsCondition registry schema) trees → AllByRecursion IsCore trees → AllByRecursion NamesOperands trees → AllByRecursion (λ t. IsTrue (is_whole t)) trees → AllByRecursion IsPredicate (map own_named trees)
  own_predicates [] conditions cores names wholes = tt
  own_predicates (t ∷ ts) conditions cores names wholes =
      (record { condition = conditions.0; core = cores.0; name = (inr refl, names.0); whole = wholes.0 }, own_predicates ts conditions.1 cores.1 names.1 wholes.1)

  -- those to which one is split
  pub split_predicates : (predicate : Named Expression) → IsCondition registry schema predicate.expression → IsCore predicate.expression → HasOwnName predicate → AllByRecursion IsPredicate (split_predicate predicate)
  split_predicates predicate condition core name =
      let tree = predicate.expression in
      elim (permits_pushdown tree) as (λ b. permits_pushdown tree ≡ b → AllByRecursion IsPredicate (cond b (map own_named (conjuncts tree)) (predicate ∷ []))) [
        | true ↦ λ e. own_predicates (conjuncts tree) (parts_are_conditions registry schema tree condition) (parts_are_core tree core) (parts_name_operands tree name.1) (parts_are_whole tree)
        | false ↦ λ e. (record { condition = condition; core = core; name = name; whole = whole_where_stays tree e }, tt)
      ] refl

  -- ---- filters over a plan of the schema

  pub record IsStacked (predicates : List (Named Expression)) (input : Plan) : Type 0 where
    pub schema_is : schema_of registry (filters_over predicates input) ≡ Some schema
    pub accepted : IsAccepted registry (filters_over predicates input)
    pub strict : IsStrictPlan registry (filters_over predicates input)
    pub names : IsNamedPlan (filters_over predicates input)
    pub split : IsSplitPlan (filters_over predicates input)
    pub fits : (tables : List Frame) → FitsPlan tables input → FitsPlan tables (filters_over predicates input)

  each_rule : (p : Named Expression) → IsCondition registry schema p.expression → plan_rule registry (filter_op p) (Some schema ∷ []) ≡ Some schema
  each_rule p condition =
      let typed = ap (typing registry schema) (strict_settled registry schema p.expression condition.strict) ∙ condition.typed in
      filter_schema registry schema p condition.own typed condition.truth

  abbrev AreConditions : List (Named Expression) → Type 0
  AreConditions predicates = AllByRecursion (λ (p : Named Expression). IsCondition registry schema p.expression) predicates

  filters_schema : (predicates : List (Named Expression)) (input : Plan) → AreConditions predicates → schema_of registry input ≡ Some schema → schema_of registry (filters_over predicates input) ≡ Some schema
  filters_schema [] input conditions there = there
  filters_schema (p ∷ ps) input conditions there = ap (λ x. plan_rule registry (filter_op p) (x ∷ [])) (filters_schema ps input conditions.1 there) ∙ each_rule p conditions.0

  pub stacked : (predicates : List (Named Expression)) (input : Plan) → AllByRecursion IsPredicate predicates → schema_of registry input ≡ Some schema → IsAccepted registry input → IsStrictPlan registry input → IsNamedPlan input → IsSplitPlan input → IsStacked predicates input
  stacked [] input each schema_is accepted strict names split =
      record { schema_is = schema_is; accepted = accepted; strict = strict; names = names; split = split; fits = λ tables f. f }
  stacked (p ∷ ps) input each schema_is accepted strict names split =
      let s = stacked ps input each.1 schema_is accepted strict names split in
      let condition = each.0.condition in
      let rule = each_rule p condition in
      let here : schema_of registry (node (filter_op p) (more (filters_over ps input) no_more)) ≡ Some schema = ap (λ x. plan_rule registry (filter_op p) (x ∷ [])) s.schema_is ∙ rule in
      record {
        schema_is = here;
        accepted = (ap is_some here, (s.accepted, tt));
        strict = (subst (λ x. AreStrict registry (x ∷ []) (expressions_of (filter_op p).kind)) (sym s.schema_is) (((each.0.core, condition.strict), tt), tt), (s.strict, tt));
        names = (((each.0.name, tt), tt), (s.names, tt));
        split = (each.0.whole, (s.split, tt));
        fits = λ tables f. fits_over tables (filter_op p) (filters_over ps input) refl (s.fits tables f);
      }

  -- ---- how they run

  -- what a filter gives
  abbrev filtered : Evaluation → Named Expression → Outcome Frame → Outcome Frame
  filtered evaluate predicate input = then_do input (λ frame. filtered_on (evaluate frame predicate) frame)

  abbrev filtered_all : List (Named Expression) → Outcome Frame → Outcome Frame
  filtered_all [] input = input
  filtered_all (p ∷ ps) input = filtered (by_running registry) p (filtered_all ps input)

  pub runs_as : (tables : List Frame) (predicates : List (Named Expression)) (input : Plan) → plan_run registry tables (filters_over predicates input) ≡ filtered_all predicates (plan_run registry tables input)
  runs_as tables [] input = refl
  runs_as tables (p ∷ ps) input = ap (filtered (by_running registry) p) (runs_as tables ps input)

  abbrev expressions : List (Named Expression) → List Expression
  expressions predicates = map (λ (p : Named Expression). p.expression) predicates

  -- a condition without aliases, and parts that are
  abbrev IsCoreCondition : Named Expression → Type 0
  IsCoreCondition p = IsCondition registry schema p.expression × IsCore p.expression

  core_conditions : (trees : List Expression) → AllByRecursion (IsCondition registry schema) trees → AllByRecursion IsCore trees → AllByRecursion IsCoreCondition (map own_named trees)
  core_conditions [] conditions cores = tt
  core_conditions (t ∷ ts) conditions cores = ((conditions.0, cores.0), core_conditions ts conditions.1 cores.1)

  -- on a frame of the schema one keeps what its expression means
  on_frame : (p : Named Expression) → IsCoreCondition p → (frame : Frame) → frame.schema ≡ schema → filtered_on (by_running registry frame p) frame ≡ kept_by registry p.expression frame
  on_frame p is frame same =
      let strict = subst (λ s. IsStrict registry s p.expression) (sym same) is.0.strict in
      ap (λ means. then_do (means (row_numbers frame)) (kept_rows frame)) (strict_is_meaning registry frame p.expression is.1 strict)

  goes_on : (o : Outcome Frame) (p : Named Expression) → IsCoreCondition p → KeepsSchema schema o → then_do o (λ frame. filtered_on (by_running registry frame p) frame) ≡ then_do o (kept_by registry p.expression)
  goes_on (Done frame) p is meets = on_frame p is frame meets
  goes_on Fault p is meets = refl
  goes_on Stuck p is meets = refl

  all_on_frame : (ps : List (Named Expression)) → AllByRecursion IsCoreCondition ps → (frame : Frame) → frame.schema ≡ schema → filtered_all ps (Done frame) ≡ kept_by_all registry (expressions ps) frame
  all_on_frame [] each frame same = refl
  all_on_frame (p ∷ ps) each frame same =
      ap (filtered (by_running registry) p) (all_on_frame ps each.1 frame same)
      ∙ goes_on (kept_by_all registry (expressions ps) frame) p each.0 (kept_all_schema registry (expressions ps) frame schema same)

  all_fault : (ps : List (Named Expression)) → filtered_all ps Fault ≡ Fault
  all_fault [] = refl
  all_fault (p ∷ ps) = ap (filtered (by_running registry) p) (all_fault ps)

  own_expressions : (trees : List Expression) → expressions (map own_named trees) ≡ trees
  own_expressions [] = refl
  own_expressions (t ∷ ts) = ap (λ l. t ∷ l) (own_expressions ts)

  parts_on_frame : (predicate : Named Expression) → IsCondition registry schema predicate.expression → IsCore predicate.expression → permits_pushdown predicate.expression ≡ true → (frame : Frame) → frame.schema ≡ schema → filtered_all (map own_named (conjuncts predicate.expression)) (Done frame) ≡ filtered_on (by_running registry frame predicate) frame
  parts_on_frame predicate condition core permits frame same =
      let tree = predicate.expression in
      let there = subst (λ s. IsCondition registry s tree) (sym same) condition in
      let each = core_conditions (conjuncts tree) (parts_are_conditions registry schema tree condition) (parts_are_core tree core) in
      all_on_frame (map own_named (conjuncts tree)) each frame same
      ∙ ap (λ l. kept_by_all registry l frame) (own_expressions (conjuncts tree))
      ∙ splitting_keeps_frames registry frame tree there permits
      ∙ sym (ap (λ means. then_do (means (row_numbers frame)) (kept_rows frame)) (strict_is_meaning registry frame tree core there.strict))

  parts_run : (predicate : Named Expression) → IsCondition registry schema predicate.expression → IsCore predicate.expression → permits_pushdown predicate.expression ≡ true → (input : Outcome Frame) → Meets (IsFrameOf schema) input → filtered_all (map own_named (conjuncts predicate.expression)) input ≡ filtered (by_running registry) predicate input
  parts_run predicate condition core permits (Done frame) meets = parts_on_frame predicate condition core permits frame meets.schema_is
  parts_run predicate condition core permits Fault meets = all_fault (map own_named (conjuncts predicate.expression))
  parts_run predicate condition core permits Stuck meets = absurd meets

  -- those to which one is split run as it does
  pub split_runs : (predicate : Named Expression) → IsCondition registry schema predicate.expression → IsCore predicate.expression → (input : Outcome Frame) → Meets (IsFrameOf schema) input → filtered_all (split_predicate predicate) input ≡ filtered (by_running registry) predicate input
  split_runs predicate condition core input meets =
      let tree = predicate.expression in
      elim (permits_pushdown tree) as (λ b. permits_pushdown tree ≡ b → filtered_all (cond b (map own_named (conjuncts tree)) (predicate ∷ [])) input ≡ filtered (by_running registry) predicate input) [
        | true ↦ λ e. parts_run predicate condition core e input meets
        | false ↦ λ e. refl
      ] refl

  own_conditions : (trees : List Expression) → AllByRecursion (IsCondition registry schema) trees → AreConditions (map own_named trees)
  own_conditions [] conditions = tt
  own_conditions (t ∷ ts) conditions = (conditions.0, own_conditions ts conditions.1)

  split_conditions : (predicate : Named Expression) → IsCondition registry schema predicate.expression → AreConditions (split_predicate predicate)
  split_conditions predicate condition =
      let tree = predicate.expression in
      elim (permits_pushdown tree) as (λ b. AreConditions (cond b (map own_named (conjuncts tree)) (predicate ∷ []))) [
        | true ↦ own_conditions (conjuncts tree) (parts_are_conditions registry schema tree condition)
        | false ↦ (condition, tt)
      ]

pub splitting_keeps_plans : SplittingKeepsPlans
splitting_keeps_plans registry schema predicate input tables condition core meets =
    runs_as registry schema tables (split_predicate predicate) input ∙ split_runs registry schema predicate condition core (plan_run registry tables input) meets

pub splitting_keeps_schemas : SplittingKeepsSchemas
splitting_keeps_schemas registry schema predicate input condition there =
    filters_schema registry schema (split_predicate predicate) input (split_conditions registry schema predicate condition) there
