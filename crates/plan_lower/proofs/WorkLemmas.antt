-- Nodes over one input, whatever they do: what is built over an input that is built, what stands for a query's node, and why
-- one isn't lowered.
use Rattle.std.proofs.Common.{◌≡◌, ◌⊎◌, inl, inr, ℕ, List, [], ◌∷◌, ◌++◌, map, Bool, true, false, is_some, Option, Some, None, Result, Ok, Err, cond, slice_get, refl, sym, ap, ◌∙◌, subst, arith}
use Rattle.std.specs.List.{AllByRecursion, Contains}
use Rattle.std.proofs.lemmas.List.{map-append}
use Rattle.std.proofs.lemmas.List.Elements.{Contains-append_left, Contains-push}
use Rattle.plan_types.specs.Errors.{no_memory, at_top}
use Rattle.plan_types.specs.Outcomes.{Outcome, Done, Fault, Stuck, then_do}
use Rattle.plan_types.specs.Frames.{Frame}
use Rattle.plan_types.specs.Schemas.{Name, Columns, names_of, type_at}
use Rattle.plan_types.specs.Types.{Ty}
use Rattle.plan_types.specs.declared.error.ErrorKind.{ErrorKind}
use Rattle.plan_types.specs.declared.error.PlanError.{PlanError}
use Rattle.plan_types.proofs.ListLemmas.{map-map}
use Rattle.plan_dsl.specs.Aliases.{core}
use Rattle.plan_dsl.specs.Literals.{settled}
use Rattle.plan_dsl.specs.Names.{name_of}
use Rattle.plan_dsl.specs.Ops.{Expression}
use Rattle.plan_dsl.specs.PlanKernels.{gives_nothing, plan_kernel}
use Rattle.plan_dsl.specs.PlanMeaning.{by_meaning, source_meaning, FitsPlan}
use Rattle.plan_dsl.specs.PlanRules.{TypedOutput, broken_kinds, columns_of, keeps_schema, kind_where, list_type_kinds, names_in, plan_rule, schema_of, type_kinds, typed_kinds, work_kinds}
use Rattle.plan_dsl.specs.Plans.{Named, OverKind, PassWork, Plan, PlanOp, SamePass, SelectWork, SimpleProjectionWork, SourcePlan, Work, empty_table, expressions_of, named, over_input, over_op, scan_op, select_op, simple_projection_op, source_over}
use Rattle.plan_dsl.specs.Registry.{Registry}
use Rattle.plan_dsl.specs.Expansion.{expansions}
use Rattle.plan_dsl.specs.Refusals.{then_ok}
use Rattle.plan_dsl.specs.Resolving.{expanded_each, in_front_of, over_expanded, resolved}
use Rattle.plan_dsl.specs.Sources.{Source}
use Rattle.plan_dsl.specs.Trees.{node, no_more, more}
use Rattle.plan_dsl.specs.Typing.{Typed, typing}
use Rattle.plan_dsl.proofs.FrameLemmas.{fits_input}
use Rattle.plan_dsl.proofs.KernelLemmas.{ListsAgreeOn, lists_agree, over_agrees}
use Rattle.plan_dsl.proofs.ResolvingLemmas.{work_resolved}
use Rattle.plan_dsl.proofs.RuleLemmas.{first_refused, kinds_of_one, types_refused, work_has_schema}
use Rattle.plan_arena.specs.declared.aexpr.AExpr.{AExpr}
use Rattle.plan_arena.specs.declared.ir.IR.{IR}
use Rattle.plan_arena.specs.Denotation.{Denotes}
use Rattle.plan_arena.specs.Items.{Grows, HoldsPlan, plan_layer}
use Rattle.plan_arena.specs.Layers.{Layer, layer}
use Rattle.plan_arena.specs.Runs.{AreStrict, HasRecorded, HaveOwnNames, by_running, plan_run}
use Rattle.plan_arena.proofs.ItemLemmas.{plan_tree_kept}
use Rattle.plan_bounds.specs.Bounds.{IsBounded}
use Rattle.plan_bounds.specs.LoweredPlans.{AreWide}
use Rattle.plan_bounds.proofs.BoundLemmas.{AllWithin, all_within, nothing_within, over_nothing}
use Rattle.plan_expand.specs.Refusals.{IsUnexpanded}
use Rattle.plan_properties.specs.Splitting.{IsWhole}
use Rattle.plan_lower.specs.declared.conversion.asked.Asked.{Asked}
use Rattle.plan_lower.specs.declared.conversion.asked.Asked.TheVariants.{NewName}
use Rattle.plan_lower.specs.Asked.{asked_kinds}
use Rattle.plan_lower.specs.Lowering.{IsBuilt, IsEmptyTableAt, IsPlanRefusal, StandsFor, out_of_memory}
use Rattle.plan_lower.specs.Nodes.{KeepsExpressions}
use Rattle.plan_lower.specs.Outputs.{IsLowered, Lowered, lowered_column, lowered_named}
use Rattle.plan_lower.specs.Projection.{IsOutputRefusal, IsProjectionRefusal, against, no_room, out_of_memory as no_space, refused, untyped}
use Rattle.plan_lower.specs.Works.{AreUnbroken, IsItemAt, IsWorkAt, IsWorkRefusal, against_a_rule, is_same, lowered_lists, lowered_names, lowered_output, recorded_of, source_lists, unbroken_schema, unresolved, without_memory}
use Rattle.plan_lower.proofs.BuiltLemmas.{agree, each_after_typed, each_named, each_strict, each_typed, each_wide, each_within, output_label, output_typed, over_built, over_schema, refused_over, unexpanded_then, unresolved_refused}

abbrev pub source_outputs : List Lowered → List (Named Expression)
source_outputs outputs = map (λ (o : Lowered). named o.tree) outputs

same_names : (outputs : List Lowered) → names_in (map lowered_named outputs) ≡ names_in (source_outputs outputs)
same_names [] = refl
same_names (o ∷ os) = ap (λ names. name_of o.tree ∷ names) (same_names os)

lists_names : (lists : List (List Lowered)) → map names_in (lowered_lists lists) ≡ map names_in (source_lists lists)
lists_names [] = refl
lists_names (outputs ∷ lists) =
    let first = same_names outputs in
    let later = lists_names lists in
    λ i. first i ∷ later i

each_list : (lists : List (List Lowered)) → map (λ (outputs : List Lowered). map named (map (λ (o : Lowered). o.tree) outputs)) lists ≡ source_lists lists
each_list [] = refl
each_list (outputs ∷ lists) =
    let first = map-map named (λ (o : Lowered). o.tree) outputs in
    let later = each_list lists in
    λ i. first i ∷ later i

-- the query's expressions are those that were expanded
named_trees : (lists : List (List Lowered)) (trees : List (List Expression)) → map (map (λ (o : Lowered). o.tree)) lists ≡ trees → map (map named) trees ≡ source_lists lists
named_trees lists trees are =
    sym (ap (map (map named)) are) ∙ map-map (map named) (map (λ (o : Lowered). o.tree)) lists ∙ each_list lists

-- what one list of expressions is expanded to; and what it can't be expanded to, its node can't be resolved to
pub list_expanded : (schema : Columns) (sources : List Source) (trees : List Expression) → expansions [] schema sources ≡ Ok trees → expanded_each schema (sources ∷ []) ≡ Ok (trees ∷ [])
list_expanded schema sources trees is = ap (λ r. then_ok r (λ trees. in_front_of trees (Ok []))) is

pub list_unexpanded : (schema : Columns) (sources : List Source) (work : Result Work (List ErrorKind)) (error : PlanError) → IsUnexpanded (expansions [] schema sources) error → IsUnexpanded (then_ok (expanded_each schema (sources ∷ [])) (over_expanded work)) error
list_unexpanded schema sources work error r =
    unexpanded_then (expanded_each schema (sources ∷ [])) (over_expanded work) error (unexpanded_then (expansions [] schema sources) (λ trees. in_front_of trees (Ok [])) error r)

recorded_has : (keeps : Bool) (columns : Columns) → HasRecorded (cond keeps None (Some columns)) (Some columns)
recorded_has true columns = refl
recorded_has false columns = refl

-- the empty table
pub empty_denoted : (items : List AExpr) (plans : List IR) (n : ℕ) → IsEmptyTableAt plans n → Denotes (HoldsPlan items plans) n empty_table
empty_denoted items plans n h = ([], record { flat = scan_op None []; item = h; denotes = record { same_recorded = refl; kind = refl } }, tt)

-- what stands below a node: the empty table where nothing is given
abbrev under : Bool → Plan → Plan
under nothing input = cond nothing empty_table input

under_denoted : (items : List AExpr) (plans : List IR) (n input : ℕ) (nothing : Bool) (t : Plan) → (nothing ≡ true → IsEmptyTableAt plans n) → (nothing ≡ false → n ≡ input) → Denotes (HoldsPlan items plans) input t → Denotes (HoldsPlan items plans) n (under nothing t)
under_denoted items plans n input true t empty same d = empty_denoted items plans n (empty refl)
under_denoted items plans n input false t empty same d = subst (λ k. Denotes (HoldsPlan items plans) k t) (sym (same refl)) d

-- nothing is done by one work alone, and without lists; the node of any other is an item
same_is : (own : Work) → is_same own ≡ true → own ≡ PassWork SamePass
same_is (PassWork SamePass) e = refl
same_is own e = absurd cc

no_lists : (schema : Columns) (outputs : List (List Lowered)) → work_kinds (PassWork SamePass) schema (map lowered_names outputs) ≡ [] → outputs ≡ []
no_lists schema [] e = refl
no_lists schema (list ∷ outputs) e = absurd cc

item_held : (own : Work) (plans : List IR) (n input : ℕ) (item : Layer (PlanOp (Named ℕ))) → is_same own ≡ false → IsItemAt own plans n input item → slice_get (map plan_layer plans) n ≡ Some item
item_held (PassWork SamePass) plans n input item other is = absurd cc
item_held own plans n input item other is = is

done_again : (outcome : Outcome Frame) → outcome ≡ then_do outcome (λ frame. Done frame)
done_again (Done frame) = refl
done_again Fault = refl
done_again Stuck = refl

module _ (registry : Registry) where
  abbrev AreLowered : Columns → List (List Lowered) → Type 0
  AreLowered schema lists = AllByRecursion (AllByRecursion (IsLowered registry schema)) lists

  lists_typed : (schema : Columns) (lists : List (List Lowered)) → AreLowered schema lists → AllByRecursion (AllByRecursion (λ (o : Lowered). typing registry schema (settled (core o.tree)) ≡ Ok o.typed)) lists
  lists_typed schema [] each = tt
  lists_typed schema (outputs ∷ lists) each = (each_typed registry schema outputs each.0, lists_typed schema lists each.1)

  lists_after_typed : (schema : Columns) (lists : List (List Lowered)) → AreLowered schema lists → AllByRecursion (AllByRecursion (λ (o : Lowered). typing registry schema (settled o.after) ≡ Ok o.typed)) lists
  lists_after_typed schema [] each = tt
  lists_after_typed schema (outputs ∷ lists) each = (each_after_typed registry schema outputs each.0, lists_after_typed schema lists each.1)

  lists_strict : (schema : Columns) (lists : List (List Lowered)) → AreLowered schema lists → AreStrict registry (Some schema ∷ []) (map (over_input 0) (lowered_lists lists))
  lists_strict schema [] each = tt
  lists_strict schema (outputs ∷ lists) each = (each_strict registry schema outputs each.0, lists_strict schema lists each.1)

  lists_named : (schema : Columns) (lists : List (List Lowered)) → AreLowered schema lists → HaveOwnNames (map (over_input 0) (lowered_lists lists))
  lists_named schema [] each = tt
  lists_named schema (outputs ∷ lists) each = (each_named registry schema outputs each.0, lists_named schema lists each.1)

  lists_wide : (schema : Columns) (lists : List (List Lowered)) → AreLowered schema lists → AreWide (map (over_input 0) (lowered_lists lists))
  lists_wide schema [] each = tt
  lists_wide schema (outputs ∷ lists) each = (each_wide registry schema outputs each.0, lists_wide schema lists each.1)

  lists_within : (schema : Columns) (lists : List (List Lowered)) → AreLowered schema lists → AllWithin registry schema (map (over_input 0) (source_lists lists)) (map (over_input 0) (lowered_lists lists))
  lists_within schema [] each = nothing_within registry schema
  lists_within schema (outputs ∷ lists) each = all_within registry schema _ _ _ _ (each_within registry schema outputs each.0) (lists_within schema lists each.1)

  lists_agree_on : (schema : Columns) (lists : List (List Lowered)) → AreLowered schema lists → ListsAgreeOn schema (by_running registry) (by_meaning registry) (lowered_lists lists) (source_lists lists)
  lists_agree_on schema [] each rows is = refl
  lists_agree_on schema (outputs ∷ lists) each rows is =
      lists_agree schema (by_running registry) (by_meaning registry) (map lowered_named outputs) (source_outputs outputs) (lowered_lists lists) (source_lists lists) (agree registry schema outputs each.0) (lists_agree_on schema lists each.1) rows is

  -- a node over lists of lowered expressions of which it breaks no rule, over what was built from its input
  work_built : (work : Work) (recorded : Option Columns) (lists : List (List Lowered)) (source lowered : Plan) (schema : Columns) → IsBuilt registry source lowered schema → AreUnbroken registry schema work lists → HasRecorded recorded (Some (unbroken_schema work schema lists)) → IsWhole (OverKind work (lowered_lists lists)) → IsBuilt registry (node (over_op work (source_lists lists) None) (more source no_more)) (node (over_op work (lowered_lists lists) recorded) (more lowered no_more)) (unbroken_schema work schema lists)
  work_built work recorded lists source lowered schema built are has whole =
      let before = work_has_schema registry schema output_label (λ (o : Lowered). core o.tree) output_typed work None lists (lists_typed schema lists are.each) are.types are.kinds in
      let after = work_has_schema registry schema output_label (λ (o : Lowered). o.after) output_typed work recorded lists (lists_after_typed schema lists are.each) are.types are.kinds in
      over_built registry (over_op work (source_lists lists) None) (over_op work (lowered_lists lists) recorded) source lowered schema (unbroken_schema work schema lists) built before after has (lists_strict schema lists are.each) (lists_named schema lists are.each) (lists_wide schema lists are.each) whole refl (lists_within schema lists are.each)
      (λ tables input meets. over_agrees work (by_running registry) (by_meaning registry) (lowered_lists lists) (source_lists lists) schema input (lists_names lists) (lists_agree_on schema lists are.each) meets)

  -- one that gives nothing, over the empty table
  over_empty : (before op : PlanOp (Named Expression)) (source lowered : Plan) (schema : Columns) → IsBuilt registry source lowered schema → plan_rule registry before (Some schema ∷ []) ≡ Some [] → plan_rule registry op (Some [] ∷ []) ≡ Some [] → HasRecorded op.recorded (Some []) → AreStrict registry (Some [] ∷ []) (expressions_of op.kind) → HaveOwnNames (expressions_of op.kind) → AreWide (expressions_of op.kind) → IsWhole op.kind
      → IsBounded registry (node before (more source no_more)) (node op (more empty_table no_more)) → ((tables : List Frame) → FitsPlan tables (node op (more (empty_table {E = Named Expression}) no_more))) → ((tables : List Frame) (input other : Outcome Frame) → plan_kernel tables (by_running registry) op (other ∷ []) ≡ plan_kernel tables (by_meaning registry) before (input ∷ [])) → IsBuilt registry (node before (more source no_more)) (node op (more empty_table no_more)) []
  over_empty before op source lowered schema built rule_before rule_op recorded strict names wide whole bounds fits agrees =
      let there = over_schema registry before source schema [] built.source_schema rule_before in
      record {
        well_formed = (ap is_some there, (built.well_formed, tt));
        source_schema = there;
        lowered_schema = rule_op;
        accepted = (subst (HasRecorded op.recorded) (sym rule_op) recorded, ((refl, tt), tt));
        strict = (strict, ((tt, tt), tt));
        names = (names, ((tt, tt), tt));
        wide = (wide, ((tt, tt), tt));
        split = (whole, ((tt, tt), tt));
        fits = λ tables f. fits tables;
        same = λ tables f. agrees tables (source_meaning registry tables source) (plan_run registry tables empty_table);
        bounds = bounds;
      }

  nothing_built : (work : Work) (lists : List (List Lowered)) (source lowered : Plan) (schema : Columns) → IsBuilt registry source lowered schema → AreUnbroken registry schema work lists → gives_nothing work (map lowered_names lists) ≡ true → IsBuilt registry (node (over_op work (source_lists lists) None) (more source no_more)) (node (over_op work (lowered_lists lists) (recorded_of work (unbroken_schema work schema lists))) (more empty_table no_more)) (unbroken_schema work schema lists)
  nothing_built SelectWork ([] ∷ []) source lowered schema built are nothing =
      over_empty (select_op [] None) (select_op [] (Some [])) source lowered schema built refl refl refl (tt, tt) (tt, tt) (tt, tt) tt (over_nothing registry (select_op [] None) (select_op [] (Some [])) source refl refl refl) (λ tables. tt) (λ tables input other. refl)
  nothing_built (SimpleProjectionWork []) [] source lowered schema built are nothing =
      over_empty (simple_projection_op [] None) (simple_projection_op [] (Some [])) source lowered schema built refl refl refl tt tt tt tt (over_nothing registry (simple_projection_op [] None) (simple_projection_op [] (Some [])) source refl refl refl) (λ tables. tt) (λ tables input other. refl)
  nothing_built (SimpleProjectionWork []) (outputs ∷ lists) source lowered schema built are nothing = let none = are.kinds in absurd cc
  nothing_built work lists source lowered schema built are nothing = absurd cc

  -- so a node is built over what stands below it
  built_under : (work : Work) (lists : List (List Lowered)) (source lowered : Plan) (schema : Columns) → IsBuilt registry source lowered schema → AreUnbroken registry schema work lists → IsWhole (OverKind work (lowered_lists lists)) → (nothing : Bool) → gives_nothing work (map lowered_names lists) ≡ nothing → IsBuilt registry (node (over_op work (source_lists lists) None) (more source no_more)) (node (over_op work (lowered_lists lists) (recorded_of work (unbroken_schema work schema lists))) (more (under nothing lowered) no_more)) (unbroken_schema work schema lists)
  built_under work lists source lowered schema built are whole true e = nothing_built work lists source lowered schema built are e
  built_under work lists source lowered schema built are whole false e =
      work_built work (recorded_of work (unbroken_schema work schema lists)) lists source lowered schema built are (recorded_has (keeps_schema work) (unbroken_schema work schema lists)) whole

  -- where nothing is done, what was built from the input is built from the node
  same_built : (source lowered : Plan) (schema : Columns) → IsBuilt registry source lowered schema → IsBuilt registry (node (over_op (PassWork SamePass) [] None) (more source no_more)) lowered schema
  same_built source lowered schema built =
      let op : PlanOp (Named Expression) = over_op (PassWork SamePass) [] None in
      let there = over_schema registry op source schema schema built.source_schema refl in
      record {
        well_formed = (ap is_some there, (built.well_formed, tt));
        source_schema = there;
        lowered_schema = built.lowered_schema;
        accepted = built.accepted;
        strict = built.strict;
        names = built.names;
        wide = built.wide;
        split = built.split;
        fits = λ tables f. built.fits tables (fits_input tables op source f);
        same = λ tables f. built.same tables (fits_input tables op source f) ∙ done_again (source_meaning registry tables source);
        bounds = record {
          casts = let below = built.bounds.casts in omega (arith, below);
          idle = let below = built.bounds.idle in omega (arith, below);
          size = let below = built.bounds.size in omega (arith, below);
        };
      }

  module _ (work : Work) (lists : List (List Source)) (items items' : List AExpr) (plans new : List IR) (input n : ℕ) (schema own : Columns) (source : SourcePlan) (keeps : KeepsExpressions items items') (grows : Grows plans new) (s : StandsFor registry items plans input schema (resolved registry source)) (is : IsWorkAt registry schema items' new n input work lists own) where
    kept_input : Denotes (HoldsPlan items' new) input s.lowered
    kept_input = plan_tree_kept items items' plans new keeps grows input s.lowered s.denotes

    is_resolved : resolved registry (source_over work lists source) ≡ node (over_op is.own (source_lists is.outputs) None) (more (resolved registry source) no_more)
    is_resolved = work_resolved registry work is.own lists is.trees source schema s.built.source_schema is.expanded is.resolved ∙ ap (λ es. node (over_op is.own es None) (more (resolved registry source) no_more)) (named_trees is.outputs is.trees is.trees_are)

    same_stands : is.own ≡ PassWork SamePass → StandsFor registry items' new n own (resolved registry (source_over work lists source))
    same_stands same =
        let kinds = ap (λ w. work_kinds w schema (map lowered_names is.outputs)) (sym same) ∙ is.unbroken.kinds in
        let none = no_lists schema is.outputs kinds in
        let at = subst (λ w. IsItemAt w new n is.below (layer (over_op is.own is.nodes (recorded_of is.own own)) (is.below ∷ []))) same is.item in
        let below = is.something (ap (λ w. gives_nothing w (map lowered_names is.outputs)) same) in
        let columns = is.columns_are ∙ ap (λ w. unbroken_schema w schema is.outputs) same in
        let there = is_resolved ∙ ap (λ w. node (over_op w (source_lists is.outputs) None) (more (resolved registry source) no_more)) same ∙ ap (λ os. node (over_op (PassWork SamePass) (source_lists os) None) (more (resolved registry source) no_more)) none in
        record {
          lowered = s.lowered;
          denotes = subst (λ m. Denotes (HoldsPlan items' new) m s.lowered) (sym (at ∙ below)) kept_input;
          built = subst (λ c. IsBuilt registry (resolved registry (source_over work lists source)) s.lowered c) (sym columns) (subst (λ p. IsBuilt registry p s.lowered schema) (sym there) (same_built (resolved registry source) s.lowered schema s.built));
        }

    item_stands : is_same is.own ≡ false → StandsFor registry items' new n own (resolved registry (source_over work lists source))
    item_stands other =
        let nothing = gives_nothing is.own (map lowered_names is.outputs) in
        let child = under_denoted items' new is.below input nothing s.lowered is.nothing is.something kept_input in
        let lowered = node (over_op is.own (lowered_lists is.outputs) (recorded_of is.own own)) (more (under nothing s.lowered) no_more) in
        let built = built_under is.own is.outputs (resolved registry source) s.lowered schema s.built is.unbroken is.whole nothing refl in
        let same = subst (λ c. IsBuilt registry (node (over_op is.own (source_lists is.outputs) None) (more (resolved registry source) no_more)) (node (over_op is.own (lowered_lists is.outputs) (recorded_of is.own c)) (more (under nothing s.lowered) no_more)) c) (sym is.columns_are) built in
        record {
          lowered = lowered;
          denotes = (is.below ∷ [], record { flat = over_op is.own is.nodes (recorded_of is.own own); item = item_held is.own new n is.below _ other is.item; denotes = record { same_recorded = refl; kind = (lowered_lists is.outputs, refl, is.denote) } }, (child, tt));
          built = subst (λ p. IsBuilt registry p lowered own) (sym is_resolved) same;
        }

    -- a node that does the work over what its input becomes stands for the query's
    pub work_stands : StandsFor registry items' new n own (resolved registry (source_over work lists source))
    work_stands =
        elim (is_same is.own) as (λ b. is_same is.own ≡ b → StandsFor registry items' new n own (resolved registry (source_over work lists source))) [ true ↦ λ e. same_stands (same_is is.own e) | false ↦ λ e. item_stands e ] refl

  -- and a refusal of it is one of the query's node
  pub work_refused : (work : Work) (lists : List (List Source)) (schema : Columns) (source : SourcePlan) (error : PlanError) → schema_of registry (resolved registry source) ≡ Some schema → IsWorkRefusal registry schema work lists error → IsPlanRefusal registry (resolved registry (source_over work lists source)) error
  work_refused work lists schema source error there (without_memory e) = out_of_memory e
  work_refused work lists schema source error there (unresolved r) = unresolved_refused registry (over_op work lists None) source schema _ error there r refl
  work_refused work lists schema source error there (against_a_rule trees own kind expanded is e breaks) =
      subst (λ p. IsPlanRefusal registry p error) (sym (work_resolved registry work own lists trees source schema there expanded is)) (refused_over registry (over_op own (map (map named) trees) None) (resolved registry source) schema kind error there e breaks)

  -- ---- a list of expressions, among those of a node

  -- a refusal of one of them is of a kind that the node breaks: the one for which it isn't typed, or one that is asked
  module _ (schema : Columns) (work : Work) (asked : Asked) (make : List (Named Expression) → List (List (Named Expression)))
      (breaks : (front : List (Named Expression)) (o : Named Expression) (back : List (Named Expression)) (kind : ErrorKind) → typing registry schema (settled o.expression) ≡ Err kind → Contains (broken_kinds registry (over_op work (make (front ++ o ∷ back)) None) (Some schema ∷ [])) kind)
      (unmet : (before : Columns) (front : List (Named Expression)) (o : Named Expression) (back : List (Named Expression)) (typed : Typed) (kind : ErrorKind) → names_of before ≡ names_in front → typing registry schema (settled o.expression) ≡ Ok typed → asked_kinds asked before o.label.name typed ≡ kind ∷ [] → Contains (broken_kinds registry (over_op work (make (front ++ o ∷ back)) None) (Some schema ∷ [])) kind) where
    abbrev IsAgainst : List (Named Expression) → PlanError → Type 0
    IsAgainst outputs error = (error ≡ no_memory) ⊎ ((kind : ErrorKind) × (error ≡ at_top kind) × Contains (broken_kinds registry (over_op work (make outputs) None) (Some schema ∷ [])) kind)

    output_against : (front back : List Expression) (tree : Expression) (before : Columns) (error : PlanError) → names_of before ≡ map name_of front → IsOutputRefusal registry schema asked tree before error → IsAgainst (map named front ++ named tree ∷ map named back) error
    output_against front back tree before error names (no_room e) = inl e
    output_against front back tree before error names (untyped kind e typing) = inr (kind, e, breaks (map named front) (named tree) (map named back) kind typing)
    output_against front back tree before error names (against typed kind e is broken) =
        inr (kind, e, unmet before (map named front) (named tree) (map named back) typed kind (names ∙ sym (map-map (λ (o : Named Expression). o.label.name) named front)) is broken)

    asked_against : (trees : List Expression) (error : PlanError) → IsProjectionRefusal registry schema asked trees error → IsAgainst (map named trees) error
    asked_against trees error (no_space e) = inl e
    asked_against trees error (refused r) =
        let outputs = sym (map-append named r.front (r.tree ∷ r.back)) ∙ ap (map named) (sym r.split) in
        subst (λ os. IsAgainst os error) outputs (output_against r.front r.back r.tree r.before error r.names r.refusal)

  told : (test : Bool) (twice kind : ErrorKind) → kind_where test twice ≡ kind ∷ [] → (test ≡ true) × (twice ≡ kind)
  told true twice kind e = (refl, cc)
  told false twice kind e = absurd cc

  -- their names, where one repeats,
  pub names_against : (schema : Columns) (work : Work) (twice : ErrorKind) (make : List (Named Expression) → List (List (Named Expression)))
      → ((front : List (Named Expression)) (o : Named Expression) (back : List (Named Expression)) (kind : ErrorKind) → typing registry schema (settled o.expression) ≡ Err kind → Contains (broken_kinds registry (over_op work (make (front ++ o ∷ back)) None) (Some schema ∷ [])) kind)
      → ((before : Columns) (front : List (Named Expression)) (o : Named Expression) (back : List (Named Expression)) → names_of before ≡ names_in front → is_some (type_at before o.label.name) ≡ true → Contains (broken_kinds registry (over_op work (make (front ++ o ∷ back)) None) (Some schema ∷ [])) twice)
      → (trees : List Expression) (error : PlanError) → IsProjectionRefusal registry schema (NewName twice) trees error → (error ≡ no_memory) ⊎ ((kind : ErrorKind) × (error ≡ at_top kind) × Contains (broken_kinds registry (over_op work (make (map named trees)) None) (Some schema ∷ [])) kind)
  names_against schema work twice make breaks repeats trees error r =
      asked_against schema work (NewName twice) make breaks (λ before front o back typed kind names is broken.
      let found = told (is_some (type_at before o.label.name)) twice kind broken in
      subst (λ k. Contains (broken_kinds registry (over_op work (make (front ++ o ∷ back)) None) (Some schema ∷ [])) k) found.1 (repeats before front o back names found.0)) trees error r

  -- and their types, in a node whose work asks for these
  pub types_against : (schema : Columns) (work : Work) (asked : Asked) → ((before : Columns) (name : Name) (typed : Typed) → asked_kinds asked before name typed ≡ type_kinds work typed) → (trees : List Expression) (error : PlanError) → IsProjectionRefusal registry schema asked trees error → (error ≡ no_memory) ⊎ ((kind : ErrorKind) × (error ≡ at_top kind) × Contains (broken_kinds registry (over_op work (map named trees ∷ []) None) (Some schema ∷ [])) kind)
  types_against schema work asked same trees error r =
      asked_against schema work asked (λ os. os ∷ []) (λ front o back kind. first_refused registry schema work None front o back [] kind) (λ before front o back typed kind names is broken.
      let own = subst (λ kinds. Contains kinds kind) (sym broken ∙ same before o.label.name typed) (Contains-push [] kind) in
      let here = subst (λ r. Contains (typed_kinds work r) kind) (sym is) own in
      let among = kinds_of_one registry schema (λ (x : Named Expression). typed_kinds work (typing registry schema (settled x.expression))) front o back kind here in
      types_refused registry schema work ((front ++ o ∷ back) ∷ []) None kind (Contains-append_left (list_type_kinds registry work schema (front ++ o ∷ back)) [] kind among)) trees error r

pub columns_are : (outputs : List Lowered) → columns_of (map lowered_output outputs) ≡ map lowered_column outputs
columns_are outputs = map-map (λ (o : TypedOutput). (o.name, o.typed.type)) lowered_output outputs

pub names_are : (outputs : List Lowered) → lowered_names outputs ≡ names_of (map lowered_column outputs)
names_are outputs = sym (map-map (λ (c : Name × Ty). c.0) lowered_column outputs)
