-- A filter of a scan that stands for a query's plan does so without strict casts to the type that their operand has, split.
use Rattle.std.proofs.Common.{◌≡◌, ℕ, true, false, List, [], ◌∷◌, map, Option, Some, None, Ok, slice_get, refl, sym, ap, ◌∙◌, subst, inl, inr, ⊎_elim, arith}
use Rattle.std.specs.List.{Contains}
use Rattle.plan_types.specs.Errors.{IsRefusal, no_memory, no_room, broken}
use Rattle.plan_types.specs.Types.{Truth, same_type}
use Rattle.plan_types.specs.TypeLaws.{same_type_exact}
use Rattle.plan_types.specs.Outcomes.{Outcome, Done, Fault, Stuck, Meets, then_do}
use Rattle.plan_types.specs.Frames.{Frame, Row, IsFrame, IsFrameOf, row_numbers}
use Rattle.plan_types.specs.Schemas.{Columns, columns}
use Rattle.plan_types.specs.declared.schema.Schema.{Schema}
use Rattle.plan_types.specs.declared.error.ErrorKind.{ErrorKind}
use Rattle.plan_types.specs.declared.error.ErrorKind.TheVariants.{InvalidOperation}
use Rattle.plan_types.specs.declared.error.PlanError.{PlanError}
use Rattle.plan_dsl.specs.Aliases.{IsCore}
use Rattle.plan_dsl.specs.Ops.{Expression}
use Rattle.plan_dsl.specs.PlanKernels.{Evaluation, kept_rows, over_frame, scanned, table_frame}
use Rattle.plan_dsl.specs.PlanMeaning.{FitsPlan, HasTable}
use Rattle.plan_dsl.specs.PlanRules.{broken_kinds, plan_rule, schema_by, schema_of}
use Rattle.plan_dsl.specs.Plans.{FilterKind, FilterWork, Named, Plan, filter_op}
use Rattle.plan_dsl.specs.Registry.{Registry}
use Rattle.plan_dsl.specs.Strictness.{IsStrict}
use Rattle.plan_dsl.specs.Typing.{Typed, typing}
use Rattle.plan_dsl.proofs.LiteralLemmas.{strict_settled}
use Rattle.plan_dsl.proofs.RuleLemmas.{filter_other_type, filter_schema, predicate_typed, unbroken_kinds}
use Rattle.plan_dsl.proofs.RunLemmas.{strict_is_meaning}
use Rattle.plan_arena.specs.declared.aexpr.AExpr.{AExpr}
use Rattle.plan_arena.specs.declared.arena.Node.{Node}
use Rattle.plan_arena.specs.declared.expr_ir.ExprIR.{ExprIR}
use Rattle.plan_arena.specs.declared.ir.IR.TheVariants.{DataFrameScan, Filter}
use Rattle.plan_arena.specs.declared.plan.IRPlan.{IRPlan}
use Rattle.plan_arena.specs.Denotation.{Denotes}
use Rattle.plan_arena.specs.Items.{DenotesPlan, HoldsExpression, expression_layer, named_node}
use Rattle.plan_arena.specs.Layers.{shape_of}
use Rattle.plan_arena.specs.Runs.{AreStrictOver, HasOwnName, IsAccepted, IsNamedPlan, IsStrictPlan, RunsSoundly, by_running, plan_run}
use Rattle.plan_arena.proofs.DenotationLemmas.{denotes_one}
use Rattle.plan_arena.proofs.ItemLemmas.{expression_laws}
use Rattle.plan_arena.proofs.RunLemmas.{accepted_schema, runs_soundly}
use Rattle.plan_coerce.specs.Optimizer.{DenotesLike, StaysLike}
use Rattle.plan_coerce.specs.Rules.{IsSameOnFrames}
use Rattle.plan_coerce.proofs.FrameLemmas.{rows_within}
use Rattle.plan_lower.proofs.ExamplePlanLemmas.{one_plan}
use Rattle.plan_properties.specs.Splitting.{IsCondition, split_predicate}
use Rattle.plan_properties.proofs.FilterLemmas.{IsStacked, split_predicates, splitting_keeps_plans, stacked}
use Rattle.own_rule.specs.HarmlessCasts.{HasSameRelaxed, relaxed}
use Rattle.planner.specs.Planning.{StandsFor, filtered_scan, scan, split_scan, with_relaxed}
use Rattle.planner.proofs.ArenaLemmas.{filtered_is}
use Rattle.planner.proofs.SplitLemmas.{IsSplit, split_denoted}
use Rattle.planner.proofs.PredicateLemmas.{names_relaxed, relaxed_condition, relaxed_core}

not_contained : (kinds : List ErrorKind) (kind : ErrorKind) → kinds ≡ [] → Contains kinds kind → ⊥
not_contained [] kind e h = omega (arith, h.1)
not_contained (k ∷ ks) kind e h = cc

-- tables have what a scan of them gives
scan_fits : (tables : List Frame) (table : Option ℕ) (schema : Columns) → Meets (IsFrameOf schema) (scanned tables table schema) → FitsPlan tables (scan table schema)
scan_fits tables None schema meets = tt
scan_fits tables (Some n) schema meets =
    (elim (slice_get tables n) as (λ o. Meets (IsFrameOf schema) (table_frame o) → HasTable schema o) [ None ↦ λ h. absurd h | Some frame ↦ λ h. h ] meets, tt)

-- a filter by a predicate that gives the same on the rows of frames of the schema
filtered_same : (e : Evaluation) (x y : Named Expression) (schema : Columns) (input : Outcome Frame) → ((frame : Frame) → IsFrameOf schema frame → (e frame x).gives (row_numbers frame) ≡ (e frame y).gives (row_numbers frame)) → Meets (IsFrameOf schema) input → over_frame e FilterWork ((x ∷ []) ∷ []) input ≡ over_frame e FilterWork ((y ∷ []) ∷ []) input
filtered_same e x y schema (Done frame) same is = ap (λ o. then_do o (kept_rows frame)) (same frame is)
filtered_same e x y schema Fault same is = refl
filtered_same e x y schema Stuck same is = refl

module _ (registry : Registry) (schema : Columns) where
  -- what a node denotes that is like what it denoted, and without those casts, says the same
  pub relaxed_same : (new : List AExpr) (n : ℕ) (t : Expression) → DenotesLike (HasSameRelaxed registry schema) registry schema new n t → Denotes (HoldsExpression new) n (relaxed registry schema t) → IsSameOnFrames registry schema t (relaxed registry schema t)
  relaxed_same new n t like d =
      subst (IsSameOnFrames registry schema t) (denotes_one (shape_of (map expression_layer new)) (HoldsExpression new) (expression_laws new) n like.tree (relaxed registry schema t) like.denotes d) like.like.same

  -- a refusal of what is typed is out of memory
  pub typed_refusal : (t : Expression) (own : Typed) (error : PlanError) → typing registry schema t ≡ Ok own → IsRefusal (typing registry schema t) error → error ≡ no_memory
  typed_refusal t own error is (no_room e) = e
  typed_refusal t own error is (broken kind e refused) = cc

  module _ (p : Named Expression) (table : Option ℕ) where
    abbrev before : Plan
    before = filtered_scan p table schema

    abbrev predicate : Named Expression
    predicate = with_relaxed registry schema p

    abbrev after : Plan
    after = split_scan registry p table schema

    module _ (accepted : IsAccepted registry before) (strict : IsStrictPlan registry before) where
      there : schema_of registry (scan table schema) ≡ Some schema
      there = accepted.1.0.0

      strict_core : IsCore p.expression × IsStrict registry schema p.expression
      strict_core = (subst (λ s. AreStrictOver registry s (p ∷ [])) there strict.0.0).0

      unbroken : broken_kinds registry (filter_op p) (Some schema ∷ []) ≡ []
      unbroken =
          let own = accepted_schema registry before accepted in
          unbroken_kinds (broken_kinds registry (filter_op p) (Some schema ∷ [])) (schema_by registry (FilterKind p) (Some schema ∷ [])) own.0 (ap (λ s. plan_rule registry (filter_op p) (s ∷ [])) (sym there) ∙ own.1)

      -- the predicate is strict and of the type of truth values
      pub condition : IsCondition registry schema p.expression
      condition =
          let found = predicate_typed registry schema p unbroken in
          let truth : same_type found.0.type Truth ≡ true =
          elim (same_type found.0.type Truth) as (λ b. same_type found.0.type Truth ≡ b → b ≡ true) [ true ↦ λ e. refl | false ↦ λ e. absurd (not_contained _ InvalidOperation unbroken (filter_other_type registry schema p found.0 found.1 e)) ] refl in
          record {
            own = found.0;
            typed = ap (typing registry schema) (sym (strict_settled registry schema p.expression strict_core.1)) ∙ found.1;
            truth = same_type_exact found.0.type Truth truth;
            strict = strict_core.1;
          }

      before_schema : schema_of registry before ≡ Some schema
      before_schema =
          let typed = ap (typing registry schema) (strict_settled registry schema p.expression strict_core.1) ∙ condition.typed in
          ap (λ s. plan_rule registry (filter_op p) (s ∷ [])) there ∙ filter_schema registry schema p condition.own typed condition.truth

      module _ (same : IsSameOnFrames registry schema p.expression (relaxed registry schema p.expression)) (names : IsNamedPlan before) where
        relaxed_is : IsCondition registry schema predicate.expression
        relaxed_is = relaxed_condition registry schema p.expression condition

        core_is : IsCore predicate.expression
        core_is = relaxed_core registry schema p.expression strict_core.0

        name_is : HasOwnName predicate
        name_is = (⊎_elim (λ alias. inl alias) (λ e. inr (e ∙ sym same.name)) names.0.0.0.0, names_relaxed registry schema p.expression names.0.0.0.1)

        -- the filters to which it is split
        filters : IsStacked registry schema (split_predicate predicate) (scan table schema)
        filters = stacked registry schema (split_predicate predicate) (scan table schema) (split_predicates registry schema predicate relaxed_is core_is name_is) there (there, tt) (tt, tt) (tt, tt) (tt, tt)

        -- on all rows of a frame of a schema both give the same
        abbrev GiveTheSame : Columns → List Row → Type 0
        GiveTheSame columns rows =
            let frame : Frame = record { schema = columns; rows = rows } in
            (by_running registry frame predicate).gives (row_numbers frame) ≡ (by_running registry frame p).gives (row_numbers frame)

        agree : (rows : List Row) → IsFrame (record { schema = schema; rows = rows }) → GiveTheSame schema rows
        agree rows is =
            let frame : Frame = record { schema = schema; rows = rows } in
            ap (λ m. m (row_numbers frame)) (strict_is_meaning registry frame predicate.expression core_is relaxed_is.strict)
            ∙ same.meaning rows is (row_numbers frame) (rows_within frame)
            ∙ sym (ap (λ m. m (row_numbers frame)) (strict_is_meaning registry frame p.expression strict_core.0 strict_core.1))

        agree_on : (frame : Frame) → IsFrameOf schema frame → GiveTheSame frame.schema frame.rows
        agree_on frame is =
            subst (λ s. IsFrame (record { schema = s; rows = frame.rows }) → GiveTheSame s frame.rows) (sym is.schema_is) (agree frame.rows) is.frame_is

        runs : (tables : List Frame) → Meets (IsFrameOf schema) (plan_run registry tables (scan table schema)) → plan_run registry tables after ≡ plan_run registry tables before
        runs tables meets =
            splitting_keeps_plans registry schema predicate (scan table schema) tables relaxed_is core_is meets
            ∙ filtered_same (by_running registry) predicate p schema (plan_run registry tables (scan table schema)) agree_on meets

        pub stands : (source : Plan) (old new : IRPlan) → StandsFor registry source old → DenotesPlan old before → DenotesPlan new after → StandsFor registry source new
        stands source old new is d e =
            let meets : (tables : List Frame) → FitsPlan tables source → Meets (IsFrameOf schema) (plan_run registry tables (scan table schema)) = λ tables fits. (is.sound before d tables fits).1.0.0 in
            let one : is.typed.tree ≡ before = one_plan old.expr_arena old.lp_arena old.lp_top.0 is.typed.tree before is.typed.denotes d in
            let only = λ (tree : Plan) (t : DenotesPlan new tree). one_plan new.expr_arena new.lp_arena new.lp_top.0 after tree e t in
            record {
              typed = record {
                tree = after;
                denotes = e;
                accepted = filters.accepted;
                strict = filters.strict;
                names = filters.names;
                schema = is.typed.schema ∙ ap (schema_of registry) one ∙ before_schema ∙ sym filters.schema_is;
              };
              sound = λ tree t tables fits. subst (RunsSoundly registry tables) (only tree t) (runs_soundly registry tables after filters.accepted filters.strict (filters.fits tables (scan_fits tables table schema (meets tables fits))));
              same_frame = λ tree t tables fits. ap (plan_run registry tables) (sym (only tree t)) ∙ runs tables (meets tables fits) ∙ is.same_frame before d tables fits;
            }

  -- so it stands of whatever plan an old top denotes that is such a filter
  pub filter_stands : (p : Named Expression) (table : Option ℕ) (source : Plan) (old new : IRPlan) → (is : StandsFor registry source old) → is.typed.tree ≡ filtered_scan p table schema → IsSameOnFrames registry schema p.expression (relaxed registry schema p.expression) → DenotesPlan new (split_scan registry p table schema) → StandsFor registry source new
  filter_stands p table source old new is one same e =
      stands p table (subst (IsAccepted registry) one is.typed.accepted) (subst (IsStrictPlan registry) one is.typed.strict) same (subst IsNamedPlan one is.typed.names) source old new is (subst (DenotesPlan old) one is.typed.denotes) e

  -- and its predicate is typed
  pub filter_typed : (p : Named Expression) (table : Option ℕ) (source : Plan) (old : IRPlan) → (is : StandsFor registry source old) → is.typed.tree ≡ filtered_scan p table schema → IsCondition registry schema p.expression
  filter_typed p table source old is one =
      condition p table (subst (IsAccepted registry) one is.typed.accepted) (subst (IsStrictPlan registry) one is.typed.strict)

-- what was split stands for what it stood for
pub split_stands : (registry : Registry) (source : Plan) (old new : IRPlan) (table : Option ℕ) (schema : Schema) → IsSplit registry old.expr_arena new.expr_arena old.lp_arena new.lp_arena old.lp_top.0 new.lp_top.0 table schema → StaysLike (HasSameRelaxed registry (columns schema)) registry (columns schema) old.expr_arena new.expr_arena → StandsFor registry source old → StandsFor registry source new
split_stands registry source old new table schema s stays is =
    let f = filtered_is old.expr_arena old.lp_arena old.lp_top.0 s.input s.predicate table schema s.got s.below is.typed.tree is.typed.denotes in
    let node = (named_node s.predicate).expression in
    let tree = f.0.expression in
    let same = relaxed_same registry (columns schema) new.expr_arena node tree (stays node tree f.2.1) (s.relaxes tree f.2.1) in
    filter_stands registry (columns schema) f.0 table source old new is f.1 same (split_denoted s f.0 table (columns schema) (subst (DenotesPlan old) f.1 is.typed.denotes))

-- and relaxing its predicate is refused as out of memory alone
pub relaxing_refused : (registry : Registry) (source : Plan) (old : IRPlan) (table : Option ℕ) (schema : Schema) (input : Node) (predicate : ExprIR) (at : ℕ) (error : PlanError) → slice_get old.lp_arena old.lp_top.0 ≡ Some (Filter input predicate) → slice_get old.lp_arena input.0 ≡ Some (DataFrameScan table schema) → at ≡ (named_node predicate).expression → ((t : Expression) → Denotes (HoldsExpression old.expr_arena) at t → IsRefusal (typing registry (columns schema) t) error) → StandsFor registry source old → error ≡ no_memory
relaxing_refused registry source old table schema input predicate at error got below there refused is =
    let f = filtered_is old.expr_arena old.lp_arena old.lp_top.0 input predicate table schema got below is.typed.tree is.typed.denotes in
    let typed = filter_typed registry (columns schema) f.0 table source old is f.1 in
    let tree = f.0.expression in
    typed_refusal registry (columns schema) tree typed.own error typed.typed (refused tree (subst (λ k. Denotes (HoldsExpression old.expr_arena) k tree) (sym there) f.2.1))
