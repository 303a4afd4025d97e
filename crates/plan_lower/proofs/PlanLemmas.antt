-- Lowering of plans, node by node.
use Rattle.std.proofs.Common.{◌≡◌, ◌⊎◌, ℕ, ◌<◌, List, [], ◌∷◌, length, map, true, false, Option, Some, None, Ok, slice_get, refl, sym, ap, ◌∙◌, subst, arith, append-nil, ⊎_elim}
use Rattle.plan_types.specs.Schemas.{Columns, HasDistinctNames, all_known}
use Rattle.plan_types.specs.declared.error.ErrorKind.TheVariants.{Duplicate, InvalidOperation, ComputeError, NoMemory}
use Rattle.plan_types.specs.Errors.{no_memory, IsMemoryOr}
use Rattle.plan_types.specs.declared.error.PlanError.{PlanError}
use Rattle.plan_dsl.specs.Registry.{Registry}
use Rattle.plan_dsl.specs.Trees.{node, no_more, more}
use Rattle.plan_dsl.specs.Ops.{Expression}
use Rattle.plan_dsl.specs.Plans.{PlanOp, Plan, SourcePlan, Named, SelectWork, HStackWork, FilterWork, source_filter, scan_op, select_op, hstack_op}
use Rattle.plan_dsl.specs.PlanRules.{with_columns}
use Rattle.plan_dsl.specs.Sources.{Source}
use Rattle.plan_dsl.specs.Refusals.{then_ok, with_kinds}
use Rattle.plan_dsl.specs.Expansion.{predicate_expansion}
use Rattle.plan_dsl.specs.Resolving.{over_expanded, resolved}
use Rattle.plan_dsl.proofs.ResolvingLemmas.{filter_resolved}
use Rattle.plan_dsl.proofs.RuleLemmas.{distinct_names, first_refused, hstack_repeated_name, select_repeated_name}
use Rattle.plan_dsl.specs.PlanKernels.{gives_nothing}
use Rattle.plan_arena.specs.declared.aexpr.AExpr.{AExpr}
use Rattle.plan_arena.specs.declared.expr_ir.ExprIR.{ExprIR}
use Rattle.plan_arena.specs.declared.ir.IR.{IR}
use Rattle.plan_arena.specs.declared.plan.IRPlan.{IRPlan}
use Rattle.plan_arena.specs.Denotation.{Denotes}
use Rattle.plan_arena.specs.Layers.{layer}
use Rattle.plan_arena.specs.Items.{HoldsPlan, DenotesPlan, DenoteNamed, Grows, named_node, plan_layer}
use Rattle.plan_arena.proofs.DenotationLemmas.{denotes_one}
use Rattle.plan_arena.proofs.ItemLemmas.{plan_tree_kept, plan_laws}
use Rattle.plan_arena.proofs.RunLemmas.{runs_soundly}
use Rattle.plan_bounds.specs.LoweredPlans.{IsWidePlan}
use Rattle.plan_lower.specs.Nodes.{KeepsExpressions}
use Rattle.plan_lower.specs.Outputs.{Lowered, lowered_named, lowered_column, HasExpandedOutputs}
use Rattle.plan_lower.specs.Works.{IsWorkAt, IsWorkRefusal, against_a_rule, lowered_names, unresolved, without_memory}
use Rattle.plan_lower.proofs.WorkLemmas.{columns_are, list_expanded, list_unexpanded, names_against, names_are, types_against}
use Rattle.plan_lower.specs.Predicates.{HasExpandedPredicate, IsUnfiltered, not_expanded as unreduced, no_predicate, lowered_filter}
use Rattle.plan_lower.specs.Projection.{IsUnprojected, not_expanded, not_projected}
use Rattle.plan_lower.specs.Lowering.{IsBuilt, IsPlanRefusal, IsFilterAt, StandsFor, IsEmptyTableAt, AreFilters, IsTyped, HasLoweredTop, HasBoundedTop, IsSplit, IsSound, GivesSameFrame}
use Rattle.plan_properties.specs.Splitting.{split_predicate}
use Rattle.plan_lower.specs.declared.conversion.asked.Asked.TheVariants.{TruthValue}
use Rattle.plan_lower.proofs.FilterLemmas.{filters_denoted}
use Rattle.plan_lower.proofs.ProjectionLemmas.{as_many}
use Rattle.plan_lower.proofs.BuiltLemmas.{unexpanded_then, unexpanded_kind, scan_built, scan_refused_at, filter_built, refused_in_input}

-- a select gives nothing where it has no outputs
no_outputs : (outputs : List Lowered) → gives_nothing SelectWork (lowered_names outputs ∷ []) ≡ true → length outputs ≡ 0
no_outputs [] e = refl
no_outputs (o ∷ os) e = absurd cc

some_outputs : (outputs : List Lowered) → gives_nothing SelectWork (lowered_names outputs ∷ []) ≡ false → 0 < length outputs
some_outputs [] e = absurd cc
some_outputs (o ∷ os) e = omega arith

-- filters that were added over their input
pub filter_at : (registry : Registry) (schema : Columns) (items : List AExpr) (new : List IR) (n input : ℕ) (source : Source) (predicate : Named ℕ) (parts : List ExprIR) → HasExpandedPredicate registry schema items source predicate
    → ((whole : Named Expression) → DenoteNamed items (predicate ∷ []) (whole ∷ []) → DenoteNamed items (map named_node parts) (split_predicate whole)) → AreFilters new n (map named_node parts) input → IsFilterAt registry schema items new n input source
filter_at registry schema items new n input source predicate parts h splits filters =
    record { predicate = predicate; has = h; parts = map named_node parts; denote = splits (lowered_named h.lowered.output) h.lowered.denotes; filters = filters }

module _ (registry : Registry) where
  -- a scan that was added
  pub scan_stands : (items : List AExpr) (plans : List IR) (n : ℕ) (table : Option ℕ) (schema own : Columns) (plan : Plan) → slice_get (map plan_layer plans) n ≡ Some (layer (scan_op table schema) []) → own ≡ schema → HasDistinctNames schema → all_known schema ≡ true → plan ≡ node (scan_op table schema) no_more → StandsFor registry items plans n own plan
  scan_stands items plans n table schema own plan held copy distinct known same =
      let scan = node (scan_op table schema) no_more in
      record {
        lowered = scan;
        denotes = ([], record { flat = scan_op table schema; item = held; denotes = record { same_recorded = refl; kind = refl } }, tt);
        built = subst (λ s. IsBuilt registry plan scan s) (sym copy) (subst (λ p. IsBuilt registry p scan schema) (sym same) (scan_built registry table schema distinct known));
      }

  -- a refusal of a scan
  pub scan_refused : (table : Option ℕ) (schema : Columns) (plan : Plan) (error : PlanError) → IsMemoryOr InvalidOperation (all_known schema ≡ false) error → plan ≡ node (scan_op table schema) no_more → IsPlanRefusal registry plan error
  scan_refused table schema plan error h same =
      subst (λ p. IsPlanRefusal registry p error) (sym same) (scan_refused_at registry table schema error h)

  module _ (items : List AExpr) (plans : List IR) (n input : ℕ) (schema own : Columns) (sources : List Source) (nodes : List (Named ℕ)) where
    -- a select of what stands for expressions is a node over one input, and so is an hstack
    pub select_work : (below : ℕ) → HasExpandedOutputs registry schema Duplicate items sources nodes own → (length nodes ≡ 0 → IsEmptyTableAt plans below) → (0 < length nodes → below ≡ input) → slice_get (map plan_layer plans) n ≡ Some (layer (select_op nodes (Some own)) (below ∷ [])) → IsWorkAt registry schema items plans n input SelectWork (sources ∷ []) own
    select_work below is nothing something item =
        let has = is.lowered in
        let outputs = has.outputs in
        let many = as_many items nodes outputs has.denotes in
        record {
          trees = is.trees ∷ [];
          expanded = list_expanded schema sources is.trees is.expanded;
          own = SelectWork;
          resolved = refl;
          outputs = outputs ∷ [];
          trees_are = ap (λ trees. trees ∷ []) has.trees_are;
          unbroken = record { each = (has.each, tt); types = append-nil _ ∙ has.types; kinds = distinct_names Duplicate (lowered_names outputs) (map lowered_column outputs) (names_are outputs) has.distinct };
          whole = tt;
          columns_are = has.columns_are ∙ sym (columns_are outputs);
          nodes = nodes ∷ [];
          denote = (has.denotes, tt);
          below = below;
          nothing = λ e. let none = no_outputs outputs e in nothing (omega (arith, many, none));
          something = λ e. let some = some_outputs outputs e in something (omega (arith, many, some));
          item = item;
        }

    pub hstack_work : (columns : Columns) → HasExpandedOutputs registry schema ComputeError items sources nodes columns → own ≡ with_columns schema columns → slice_get (map plan_layer plans) n ≡ Some (layer (hstack_op nodes (Some own)) (input ∷ [])) → IsWorkAt registry schema items plans n input HStackWork (sources ∷ []) own
    hstack_work columns is whole item =
        let has = is.lowered in
        let outputs = has.outputs in
        record {
          trees = is.trees ∷ [];
          expanded = list_expanded schema sources is.trees is.expanded;
          own = HStackWork;
          resolved = refl;
          outputs = outputs ∷ [];
          trees_are = ap (λ trees. trees ∷ []) has.trees_are;
          unbroken = record { each = (has.each, tt); types = append-nil _ ∙ has.types; kinds = distinct_names ComputeError (lowered_names outputs) (map lowered_column outputs) (names_are outputs) has.distinct };
          whole = tt;
          columns_are = whole ∙ ap (with_columns schema) (has.columns_are ∙ sym (columns_are outputs));
          nodes = nodes ∷ [];
          denote = (has.denotes, tt);
          below = input;
          nothing = λ e. absurd cc;
          something = λ e. refl;
          item = item;
        }

  module _ (schema : Columns) (error : PlanError) where
    -- and so are their refusals
    pub select_refusal : (sources : List Source) → IsUnprojected registry schema Duplicate sources error → IsWorkRefusal registry schema SelectWork (sources ∷ []) error
    select_refusal sources (not_expanded r) = unresolved (list_unexpanded schema sources (Ok SelectWork) error r)
    select_refusal sources (not_projected trees is r) =
        ⊎_elim (λ e. without_memory e) (λ a. against_a_rule (trees ∷ []) SelectWork a.0 (list_expanded schema sources trees is) refl a.1 a.2) (names_against registry schema SelectWork Duplicate (λ os. os ∷ []) (λ front o back kind. first_refused registry schema SelectWork None front o back [] kind) (select_repeated_name registry schema None) trees error r)

    pub hstack_refusal : (sources : List Source) → IsUnprojected registry schema ComputeError sources error → IsWorkRefusal registry schema HStackWork (sources ∷ []) error
    hstack_refusal sources (not_expanded r) = unresolved (list_unexpanded schema sources (Ok HStackWork) error r)
    hstack_refusal sources (not_projected trees is r) =
        ⊎_elim (λ e. without_memory e) (λ a. against_a_rule (trees ∷ []) HStackWork a.0 (list_expanded schema sources trees is) refl a.1 a.2) (names_against registry schema HStackWork ComputeError (λ os. os ∷ []) (λ front o back kind. first_refused registry schema HStackWork None front o back [] kind) (hstack_repeated_name registry schema None) trees error r)

    -- and so is that of a filter, where its predicate is refused
    pub filter_refusal : (source : Source) → IsUnfiltered registry schema source error → IsWorkRefusal registry schema FilterWork ((source ∷ []) ∷ []) error
    filter_refusal source (unreduced r) =
        let one = with_kinds (predicate_expansion schema source) in
        unresolved (unexpanded_then (then_ok one (λ tree. Ok ((tree ∷ []) ∷ []))) (over_expanded (Ok FilterWork)) error (unexpanded_then one (λ tree. Ok ((tree ∷ []) ∷ [])) error (unexpanded_kind (predicate_expansion schema source) error r)))
    filter_refusal source (no_predicate tree is r) =
        let expanded = ap (λ found. then_ok (with_kinds found) (λ one. Ok ((one ∷ []) ∷ []))) is in
        ⊎_elim (λ e. without_memory e) (λ a. against_a_rule ((tree ∷ []) ∷ []) FilterWork a.0 expanded refl a.1 a.2) (types_against registry schema FilterWork TruthValue (λ before name typed. refl) (tree ∷ []) error r)

  -- a filter over what its input becomes
  pub filter_stands : (items items' : List AExpr) (plans new : List IR) (input n : ℕ) (schema own : Columns) (predicate : Source) (source : SourcePlan) → KeepsExpressions items items' → Grows plans new → StandsFor registry items plans input schema (resolved registry source) → IsFilterAt registry schema items' new n input predicate → own ≡ schema → StandsFor registry items' new n own (resolved registry (source_filter predicate source))
  filter_stands items items' plans new input n schema own predicate source keeps grows s is copy =
      let has = is.has.lowered in
      let output = has.output in
      let lowered = lowered_filter output s.lowered in
      let there = filter_resolved registry predicate is.has.tree source schema s.built.source_schema is.has.expanded in
      let built = filter_built registry (resolved registry source) s.lowered schema is.has.tree output s.built has.filters in
      record {
        lowered = lowered;
        denotes = filters_denoted items' new is.parts (split_predicate (lowered_named output)) n input s.lowered is.filters is.denote (plan_tree_kept items items' plans new keeps grows input s.lowered s.denotes);
        built = subst (λ c. IsBuilt registry (resolved registry (source_filter predicate source)) lowered c) (sym copy) (subst (λ p. IsBuilt registry p lowered schema) (sym there) built);
      }

  -- a refusal of a node's only input
  pub refused_below : (op : PlanOp (Named Expression)) (source plan : Plan) (inner error : PlanError) → IsPlanRefusal registry source inner → (error ≡ no_memory) ⊎ (¬ (inner.kind ≡ NoMemory) × (error ≡ record { kind = inner.kind; place = 0 ∷ inner.place })) → plan ≡ node op (more source no_more) → IsPlanRefusal registry plan error
  refused_below op source plan inner error r below same =
      subst (λ p. IsPlanRefusal registry p error) (sym same) (refused_in_input registry source op inner error r below)

  -- what a node that stands for a plan denotes was built from the plan
  built_one : (items : List AExpr) (plans : List IR) (n : ℕ) (schema : Columns) (plan tree : Plan) → StandsFor registry items plans n schema plan → Denotes (HoldsPlan items plans) n tree → IsBuilt registry plan tree schema
  built_one items plans n schema plan tree s d =
      subst (λ t. IsBuilt registry plan t schema) (denotes_one _ (HoldsPlan items plans) (plan_laws items plans) n s.lowered tree s.denotes d) s.built

  pub stands_typed : (lowering : IRPlan) (schema : Columns) (plan : Plan) → StandsFor registry lowering.expr_arena lowering.lp_arena lowering.lp_top.0 schema plan → IsTyped registry plan lowering
  stands_typed lowering schema plan s =
      record { tree = s.lowered; denotes = s.denotes; accepted = s.built.accepted; strict = s.built.strict; names = s.built.names; schema = s.built.source_schema ∙ sym s.built.lowered_schema }

  pub stands_split : (lowering : IRPlan) (schema : Columns) (plan : Plan) → StandsFor registry lowering.expr_arena lowering.lp_arena lowering.lp_top.0 schema plan → IsSplit lowering
  stands_split lowering schema plan s tree d = (built_one lowering.expr_arena lowering.lp_arena lowering.lp_top.0 schema plan tree s d).split

  pub stands_sound : (lowering : IRPlan) (schema : Columns) (plan : Plan) → StandsFor registry lowering.expr_arena lowering.lp_arena lowering.lp_top.0 schema plan → IsSound registry plan lowering
  stands_sound lowering schema plan s tree d tables fits =
      let built = built_one lowering.expr_arena lowering.lp_arena lowering.lp_top.0 schema plan tree s d in
      runs_soundly registry tables tree built.accepted built.strict (built.fits tables fits)

  pub stands_same : (lowering : IRPlan) (schema : Columns) (plan : Plan) → StandsFor registry lowering.expr_arena lowering.lp_arena lowering.lp_top.0 schema plan → GivesSameFrame registry plan lowering
  stands_same lowering schema plan s tree d tables fits =
      let built = built_one lowering.expr_arena lowering.lp_arena lowering.lp_top.0 schema plan tree s d in
      built.same tables fits

  pub stands_lowered : (lowering : IRPlan) (schema : Columns) (plan : Plan) → StandsFor registry lowering.expr_arena lowering.lp_arena lowering.lp_top.0 schema plan → HasLoweredTop registry lowering
  stands_lowered lowering schema plan s tree d =
      let built = built_one lowering.expr_arena lowering.lp_arena lowering.lp_top.0 schema plan tree s d in
      record { accepted = built.accepted; strict = built.strict; names = built.names; wide = built.wide }

  pub stands_bounded : (lowering : IRPlan) (schema : Columns) (plan : Plan) → StandsFor registry lowering.expr_arena lowering.lp_arena lowering.lp_top.0 schema plan → HasBoundedTop registry plan lowering
  stands_bounded lowering schema plan s tree d = (built_one lowering.expr_arena lowering.lp_arena lowering.lp_top.0 schema plan tree s d).bounds

  pub top_wide : (lowering : IRPlan) → HasLoweredTop registry lowering → (tree : Plan) → DenotesPlan lowering tree → IsWidePlan tree
  top_wide lowering top tree d = (top tree d).wide
