-- What is built from scans and filters, and of any node over what was built from its input; and why a node isn't lowered.
use Rattle.std.proofs.Common.{◌≡◌, ◌⊎◌, inl, inr, ℕ, List, [], ◌∷◌, map, true, false, is_some, IsTrue, Option, Some, Result, Ok, Err, refl, sym, ap, ◌∙◌, subst, ⊎_elim}
use Rattle.std.specs.List.{AllByRecursion, Contains}
use Rattle.std.proofs.lemmas.List.Elements.{Contains-push}
use Rattle.plan_types.specs.Types.{Truth}
use Rattle.plan_types.specs.Schemas.{Columns, HasDistinctNames, all_known}
use Rattle.plan_types.specs.Outcomes.{Outcome, Meets}
use Rattle.plan_types.specs.Frames.{Frame, IsFrameOf}
use Rattle.plan_types.specs.Errors.{no_memory, at_top, IsMemoryOr, IsRefusal, no_room as short, broken as refused_by}
use Rattle.plan_types.specs.declared.error.ErrorKind.{ErrorKind}
use Rattle.plan_types.specs.declared.error.ErrorKind.TheVariants.{InvalidOperation, NoMemory}
use Rattle.plan_types.specs.declared.error.PlanError.{PlanError}
use Rattle.plan_dsl.specs.Coercion.{coerced}
use Rattle.plan_dsl.specs.Registry.{Registry}
use Rattle.plan_dsl.specs.Trees.{node, no_more, more}
use Rattle.plan_dsl.specs.Ops.{Expression}
use Rattle.plan_dsl.specs.Names.{Label, label_of, name_of}
use Rattle.plan_dsl.specs.Plans.{FilterWork, PlanOp, Plan, SourcePlan, Named, named, RefusedKind, scan_op, filter_op, expressions_of, own_scans}
use Rattle.plan_dsl.specs.Sources.{Source}
use Rattle.plan_dsl.specs.Refusals.{then_ok, with_kinds}
use Rattle.plan_dsl.specs.Resolving.{expanded_kind, resolved}
use Rattle.plan_dsl.specs.Aliases.{IsCore, core, spelled}
use Rattle.plan_dsl.specs.Literals.{settled}
use Rattle.plan_dsl.specs.Typing.{Typed, typing}
use Rattle.plan_dsl.specs.PlanRules.{plan_rule, schema_of, broken_kinds, Breaks}
use Rattle.plan_dsl.specs.PlanKernels.{plan_kernel}
use Rattle.plan_dsl.specs.PlanMeaning.{by_meaning, FitsPlan, MeetsWhere}
use Rattle.plan_dsl.proofs.ResolvingLemmas.{resolved_as}
use Rattle.plan_dsl.proofs.FrameLemmas.{fits_input, fits_over}
use Rattle.plan_dsl.proofs.KernelLemmas.{AgreeOn, lists_agree, over_agrees}
use Rattle.plan_dsl.proofs.LiteralLemmas.{strict_settled, settled_label}
use Rattle.plan_dsl.proofs.AliasLemmas.{spelled_label}
use Rattle.plan_dsl.proofs.CoreLemmas.{settled_none}
use Rattle.plan_coerce.proofs.CoercedLemmas.{coerced_core}
use Rattle.plan_coerce.proofs.InliningLemmas.{inlined_core}
use Rattle.plan_dsl.proofs.RunLemmas.{strict_is_meaning}
use Rattle.plan_dsl.proofs.RuleLemmas.{scan_schema, scan_unknown_kind, filter_schema, broken_is_ill_formed}
use Rattle.plan_arena.specs.Runs.{AreStrict, HasOwnName, HasRecorded, HaveOwnNames, IsStrictCore, by_running, plan_run}
use Rattle.plan_arena.proofs.RunLemmas.{runs_soundly, sound_top}
use Rattle.plan_bounds.proofs.BoundLemmas.{AreWithin, AllWithin, none_within, more_within, over_bounded, scan_bounded, split_bounded}
use Rattle.plan_bounds.specs.LoweredPlans.{AreWide, has_wide_horizontals}
use Rattle.plan_bounds.proofs.WideLemmas.{filters_wide, split_wide}
use Rattle.plan_expand.specs.Refusals.{IsUnexpanded, no_room as no_place, unexpanded}
use Rattle.plan_lower.specs.Outputs.{Lowered, IsLowered, lowered_named}
use Rattle.plan_properties.specs.Splitting.{IsCondition, IsWhole, split_predicate}
use Rattle.plan_lower.specs.Predicates.{FiltersBy, lowered_filter}
use Rattle.plan_properties.proofs.FilterLemmas.{runs_as, split_predicates, split_runs, stacked}
use Rattle.plan_lower.proofs.SpelledLemmas.{spelled_means, typed_spelled}
use Rattle.plan_lower.specs.Lowering.{IsBuilt, IsPlanRefusal, out_of_memory, broken, resolved_filter}

abbrev pub output_label : Lowered → Label
output_label o = label_of o.tree

abbrev pub output_typed : Lowered → Typed
output_typed o = o.typed

-- what goes on with something unexpanded, or takes a refusal by one kind, is unexpanded
pub unexpanded_then : {A B : Type 0} (r : Result A (List ErrorKind)) (next : A → Result B (List ErrorKind)) (error : PlanError) → IsUnexpanded r error → IsUnexpanded (then_ok r next) error
unexpanded_then r next error (no_place e) = no_place e
unexpanded_then r next error (unexpanded kinds kind told by there) = unexpanded kinds kind told (ap (λ x. then_ok x next) by) there

pub unexpanded_kind : {A : Type 0} (r : Result A ErrorKind) (error : PlanError) → IsRefusal r error → IsUnexpanded (with_kinds r) error
unexpanded_kind r error (short e) = no_place e
unexpanded_kind r error (refused_by kind told by) = unexpanded (kind ∷ []) kind told (ap with_kinds by) (Contains-push [] kind)

module _ (registry : Registry) where
  -- a scan is built from itself
  pub scan_built : (table : Option ℕ) (schema : Columns) → HasDistinctNames schema → all_known schema ≡ true → IsBuilt registry (node (scan_op table schema) no_more) (node (scan_op table schema) no_more) schema
  scan_built table schema distinct known =
      let there : schema_of registry (node (scan_op table schema) no_more) ≡ Some schema = scan_schema registry table schema distinct known in
      record {
        well_formed = (ap is_some there, tt);
        source_schema = there;
        lowered_schema = there;
        accepted = (there, tt);
        strict = (tt, tt);
        names = (tt, tt);
        wide = (tt, tt);
        split = (tt, tt);
        fits = λ tables f. f;
        same = λ tables f. refl;
        bounds = scan_bounded registry table schema;
      }

  pub each_typed : (schema : Columns) (outputs : List Lowered) → AllByRecursion (IsLowered registry schema) outputs → AllByRecursion (λ (o : Lowered). typing registry schema (settled (core o.tree)) ≡ Ok o.typed) outputs
  each_typed schema [] each = tt
  each_typed schema (o ∷ os) each = (each.0.typed, each_typed schema os each.1)

  -- an expression has its type written out too, and so has what stands for it
  out_typed : (schema : Columns) (o : Lowered) → IsLowered registry schema o → typing registry schema (settled (spelled o.tree)) ≡ Ok o.typed
  out_typed schema o is = typed_spelled registry schema o.tree o.typed is.typed

  own_typed : (schema : Columns) (o : Lowered) → IsLowered registry schema o → typing registry schema o.after ≡ Ok o.typed
  own_typed schema o is = is.same.typing ∙ out_typed schema o is

  after_typed : (schema : Columns) (o : Lowered) → IsLowered registry schema o → typing registry schema (settled o.after) ≡ Ok o.typed
  after_typed schema o is = ap (typing registry schema) (strict_settled registry schema o.after is.strict) ∙ own_typed schema o is

  pub each_after_typed : (schema : Columns) (outputs : List Lowered) → AllByRecursion (IsLowered registry schema) outputs → AllByRecursion (λ (o : Lowered). typing registry schema (settled o.after) ≡ Ok o.typed) outputs
  each_after_typed schema [] each = tt
  each_after_typed schema (o ∷ os) each = (after_typed schema o each.0, each_after_typed schema os each.1)

  -- what stands for an expression has no aliases
  after_core : (schema : Columns) (o : Lowered) → IsLowered registry schema o → IsCore o.after
  after_core schema o is =
      let tree = settled (spelled o.tree) in
      subst IsCore (sym is.casts) (inlined_core (coerced registry schema tree) (coerced_core registry schema tree (settled_none true registry schema o.tree o.typed (out_typed schema o is))))

  strict_core : (schema : Columns) (o : Lowered) → IsLowered registry schema o → IsStrictCore registry schema o.after
  strict_core schema o is = (after_core schema o is, is.strict)

  pub each_strict : (schema : Columns) (outputs : List Lowered) → AllByRecursion (IsLowered registry schema) outputs → AllByRecursion (λ (o : Named Expression). IsStrictCore registry schema o.expression) (map lowered_named outputs)
  each_strict schema [] each = tt
  each_strict schema (o ∷ os) each = (strict_core schema o each.0, each_strict schema os each.1)

  -- what stands for an expression has its name, from the same, or an alias, and so have the operands of its functions
  own_named : (schema : Columns) (o : Lowered) → IsLowered registry schema o → HasOwnName (lowered_named o)
  own_named schema o is = (⊎_elim (λ alias. inl alias) (λ e. inr (e ∙ sym (is.same.name ∙ settled_label (spelled o.tree)))) (spelled_label o.tree), is.names)

  pub each_named : (schema : Columns) (outputs : List Lowered) → AllByRecursion (IsLowered registry schema) outputs → AllByRecursion HasOwnName (map lowered_named outputs)
  each_named schema [] each = tt
  each_named schema (o ∷ os) each = (own_named schema o each.0, each_named schema os each.1)

  -- and each horizontal in it is wide
  pub each_wide : (schema : Columns) (outputs : List Lowered) → AllByRecursion (IsLowered registry schema) outputs → AllByRecursion (λ (o : Named Expression). IsTrue (has_wide_horizontals o.expression)) (map lowered_named outputs)
  each_wide schema [] each = tt
  each_wide schema (o ∷ os) each = (each.0.wide, each_wide schema os each.1)

  -- what stands for an expression gives on frames what the expression means
  pub agree : (schema : Columns) (outputs : List Lowered) → AllByRecursion (IsLowered registry schema) outputs → AgreeOn schema (by_running registry) (by_meaning registry) (map lowered_named outputs) (map (λ (o : Lowered). named o.tree) outputs)
  agree schema [] each rows is = refl
  agree schema (o ∷ os) each rows is =
      let frame : Frame = record { schema = schema; rows = rows } in
      let typed = own_typed schema o each.0 ∙ sym each.0.typed in
      let gives = strict_is_meaning registry frame o.after (after_core schema o each.0) each.0.strict ∙ each.0.same.meaning rows ∙ spelled_means registry schema o.tree frame o.typed is refl each.0.typed in
      let rest = agree schema os each.1 rows is in
      λ i. record { name = name_of o.tree; typing = typed i; gives = gives i } ∷ rest i

  -- what was built gives on fitting tables a frame of its schema
  built_meets : (source lowered : Plan) (schema : Columns) (tables : List Frame) → IsBuilt registry source lowered schema → FitsPlan tables source → Meets (IsFrameOf schema) (plan_run registry tables lowered)
  built_meets source lowered schema tables built fits =
      subst (λ s. MeetsWhere s (plan_run registry tables lowered)) built.lowered_schema (sound_top registry tables lowered built.accepted (runs_soundly registry tables lowered built.accepted built.strict (built.fits tables fits)))

  -- what stands for expressions has no more casts and nodes than they call for
  pub each_within : (schema : Columns) (outputs : List Lowered) → AllByRecursion (IsLowered registry schema) outputs → AreWithin registry schema (map (λ (o : Lowered). named o.tree) outputs) (map lowered_named outputs)
  each_within schema [] each = none_within registry schema
  each_within schema (o ∷ os) each = more_within registry schema o.tree (lowered_named o) o.typed _ _ each.0.typed each.0.wide each.0.casts (each_within schema os each.1)

  pub over_schema : (op : PlanOp (Named Expression)) (input : Plan) (schema own : Columns) → schema_of registry input ≡ Some schema → plan_rule registry op (Some schema ∷ []) ≡ Some own → schema_of registry (node op (more input no_more)) ≡ Some own
  over_schema op input schema own there rule = ap (λ s. plan_rule registry op (s ∷ [])) there ∙ rule

  -- a node over what was built from its input: both have the schema over the input's, and it records that or none; its
  -- expressions are strict and named, their horizontals are wide, and they have no more casts and nodes than those of the query's node call for, and give over
  -- frames of the input's schema what those give
  pub over_built : (before op : PlanOp (Named Expression)) (source lowered : Plan) (schema own : Columns) → IsBuilt registry source lowered schema → plan_rule registry before (Some schema ∷ []) ≡ Some own → plan_rule registry op (Some schema ∷ []) ≡ Some own → HasRecorded op.recorded (Some own) → AreStrict registry (Some schema ∷ []) (expressions_of op.kind) → HaveOwnNames (expressions_of op.kind) → AreWide (expressions_of op.kind) → IsWhole op.kind → own_scans op.kind ≡ [] → AllWithin registry schema (expressions_of before.kind) (expressions_of op.kind) → ((tables : List Frame) (input : Outcome Frame) → Meets (IsFrameOf schema) input → plan_kernel tables (by_running registry) op (input ∷ []) ≡ plan_kernel tables (by_meaning registry) before (input ∷ [])) → IsBuilt registry (node before (more source no_more)) (node op (more lowered no_more)) own
  over_built before op source lowered schema own built rule_before rule_op recorded strict names wide whole scans within agrees =
      let there = over_schema before source schema own built.source_schema rule_before in
      let here = over_schema op lowered schema own built.lowered_schema rule_op in
      record {
        well_formed = (ap is_some there, (built.well_formed, tt));
        source_schema = there;
        lowered_schema = here;
        accepted = (subst (HasRecorded op.recorded) (sym here) recorded, (built.accepted, tt));
        strict = (subst (λ s. AreStrict registry (s ∷ []) (expressions_of op.kind)) (sym built.lowered_schema) strict, (built.strict, tt));
        names = (names, (built.names, tt));
        wide = (wide, (built.wide, tt));
        split = (whole, (built.split, tt));
        fits = λ tables f. fits_over tables op lowered scans (built.fits tables (fits_input tables before source f));
        same = λ tables f.
            let under = fits_input tables before source f in
            agrees tables (plan_run registry tables lowered) (built_meets source lowered schema tables built under)
            ∙ ap (λ input. plan_kernel tables (by_meaning registry) before (input ∷ [])) (built.same tables under);
        bounds = over_bounded registry before op source lowered schema built.source_schema built.lowered_schema within built.bounds;
      }

  -- a filter over what was built from its input, split
  filter_over : (source lowered : Plan) (schema : Columns) → IsBuilt registry source lowered schema → (o : Lowered) → IsLowered registry schema o → o.typed.type ≡ Truth → IsBuilt registry (resolved_filter o.tree source) (lowered_filter o lowered) schema
  filter_over source lowered schema built o is truth =
      let before = filter_op (named o.tree) in
      let there = over_schema before source schema schema built.source_schema (filter_schema registry schema (named o.tree) o.typed is.typed truth) in
      let condition : IsCondition registry schema o.after = record { own = o.typed; typed = own_typed schema o is; truth = truth; strict = is.strict } in
      let core = after_core schema o is in
      let predicates = split_predicates registry schema (lowered_named o) condition core (own_named schema o is) in
      let s = stacked registry schema (split_predicate (lowered_named o)) lowered predicates built.lowered_schema built.accepted built.strict built.names built.split in
      record {
        well_formed = (ap is_some there, (built.well_formed, tt));
        source_schema = there;
        lowered_schema = s.schema_is;
        accepted = s.accepted;
        strict = s.strict;
        names = s.names;
        wide = filters_wide (split_predicate (lowered_named o)) lowered (split_wide (lowered_named o) is.wide) built.wide;
        split = s.split;
        fits = λ tables f. s.fits tables (built.fits tables (fits_input tables before source f));
        same = λ tables f.
            let under = fits_input tables before source f in
            let meets = built_meets source lowered schema tables built under in
            runs_as registry schema tables (split_predicate (lowered_named o)) lowered
            ∙ split_runs registry schema (lowered_named o) condition core (plan_run registry tables lowered) meets
            ∙ over_agrees FilterWork (by_running registry) (by_meaning registry) ((lowered_named o ∷ []) ∷ []) ((named o.tree ∷ []) ∷ []) schema (plan_run registry tables lowered) refl (lists_agree schema (by_running registry) (by_meaning registry) (lowered_named o ∷ []) (named o.tree ∷ []) [] [] (agree schema (o ∷ []) (is, tt)) (λ rows is. refl)) meets
            ∙ ap (λ input. plan_kernel tables (by_meaning registry) before (input ∷ [])) (built.same tables under);
        bounds = split_bounded registry schema (named o.tree) (lowered_named o) source lowered built.source_schema built.lowered_schema (each_within schema (o ∷ []) (is, tt)) condition predicates built.bounds;
      }

  -- a filter by an expression that becomes the output, over an input that is built, is built
  pub filter_built : (source lowered : Plan) (schema : Columns) (tree : Expression) (output : Lowered) → IsBuilt registry source lowered schema → FiltersBy registry schema tree output → IsBuilt registry (resolved_filter tree source) (lowered_filter output lowered) schema
  filter_built source lowered schema tree output built filters =
      subst (λ t. IsBuilt registry (resolved_filter t source) (lowered_filter output lowered) schema) filters.tree_is (filter_over source lowered schema built output filters.is filters.truth)

  -- a refusal that names a kind that is broken at the top
  refused_top : (plan : Plan) (kind : ErrorKind) (error : PlanError) → error ≡ at_top kind → Breaks registry kind [] plan → IsPlanRefusal registry plan error
  refused_top plan kind error e breaks =
      let breaks' = subst (λ (x : PlanError). Breaks registry x.kind x.place plan) (sym e) breaks in
      broken breaks' (broken_is_ill_formed registry error.kind error.place plan breaks')

  -- one of a kind that a node over an input of the schema breaks
  pub refused_over : (op : PlanOp (Named Expression)) (source : Plan) (schema : Columns) (kind : ErrorKind) (error : PlanError) → schema_of registry source ≡ Some schema → error ≡ at_top kind → Contains (broken_kinds registry op (Some schema ∷ [])) kind → IsPlanRefusal registry (node op (more source no_more)) error
  refused_over op source schema kind error there e h =
      refused_top (node op (more source no_more)) kind error e (subst (λ s. Contains (broken_kinds registry op (s ∷ [])) kind) (sym there) h)

  -- a node of a query that can't be resolved over its input is refused, whatever its kind
  pub unresolved_refused : (op : PlanOp Source) (source : SourcePlan) (schema : Columns) (plan : Plan) (error : PlanError) → schema_of registry (resolved registry source) ≡ Some schema → IsUnexpanded (expanded_kind registry (schema ∷ []) op.kind) error → plan ≡ resolved registry (node op (more source no_more)) → IsPlanRefusal registry plan error
  unresolved_refused op source schema plan error there (no_place e) same = out_of_memory e
  unresolved_refused op source schema plan error there (unexpanded kinds kind told by told_there) same =
      let refused = same ∙ resolved_as registry op source schema (Err kinds) there by in
      subst (λ p. IsPlanRefusal registry p error) (sym refused) (refused_over (record { kind = RefusedKind kinds; recorded = op.recorded }) (resolved registry source) schema kind error there told told_there)

  -- a scan of a column whose type isn't known is refused
  pub scan_refused_at : (table : Option ℕ) (schema : Columns) (error : PlanError) → IsMemoryOr InvalidOperation (all_known schema ≡ false) error → IsPlanRefusal registry (node (scan_op table schema) no_more) error
  scan_refused_at table schema error h =
      ⊎_elim (λ e. out_of_memory e) (λ p. refused_top (node (scan_op table schema) no_more) InvalidOperation error p.0 (scan_unknown_kind schema p.1)) h

  inner_refused : (source : Plan) (op : PlanOp (Named Expression)) (inner error : PlanError) → IsPlanRefusal registry source inner → ¬ (inner.kind ≡ NoMemory) → error ≡ record { kind = inner.kind; place = 0 ∷ inner.place } → IsPlanRefusal registry (node op (more source no_more)) error
  inner_refused source op inner error (out_of_memory e) other is = absurd (other (ap (λ (x : PlanError). x.kind) e))
  inner_refused source op inner error (broken breaks ill) other is =
      let plan = node op (more source no_more) in
      let breaks' = subst (λ (x : PlanError). Breaks registry x.kind x.place plan) (sym is) breaks in
      broken breaks' (broken_is_ill_formed registry error.kind error.place plan breaks')

  -- the only input of a node is refused
  pub refused_in_input : (source : Plan) (op : PlanOp (Named Expression)) (inner error : PlanError) → IsPlanRefusal registry source inner → (error ≡ no_memory) ⊎ (¬ (inner.kind ≡ NoMemory) × (error ≡ record { kind = inner.kind; place = 0 ∷ inner.place })) → IsPlanRefusal registry (node op (more source no_more)) error
  refused_in_input source op inner error r below =
      ⊎_elim (λ e. out_of_memory e) (λ e. inner_refused source op inner error r e.0 e.1) below
