-- Accepted and strict plans run soundly on fitting tables.
use Rattle.std.proofs.Common.{◌≡◌, List, [], ◌∷◌, map, Option, Some, None, refl, sym, ap, ◌∙◌, subst}
use Rattle.std.specs.List.{AllByRecursion}
use Rattle.plan_types.specs.Schemas.{Columns}
use Rattle.plan_types.specs.Outcomes.{Outcome, Meets}
use Rattle.plan_types.specs.Frames.{Frame, IsFrameOf}
use Rattle.plan_dsl.specs.Registry.{Registry}
use Rattle.plan_dsl.specs.Trees.{Trees, node, no_more, more, fold_all}
use Rattle.plan_dsl.specs.Ops.{Expression}
use Rattle.plan_dsl.specs.Plans.{Named, Work, PlanKind, ScanKind, OverKind, PlanOp, Plan, over_input, expressions_of, own_scans, scans_in}
use Rattle.plan_dsl.specs.Typing.{typing}
use Rattle.plan_dsl.specs.Kernels.{Meaning}
use Rattle.plan_dsl.specs.Meaning.{meaning}
use Rattle.plan_dsl.specs.PlanRules.{schema_of, schemas_of}
use Rattle.plan_dsl.specs.PlanKernels.{Evaluated, over_frame, plan_kernel, frame_by}
use Rattle.plan_dsl.specs.PlanMeaning.{by_meaning, HasTables, FitsPlan, MeetsWhere}
use Rattle.plan_dsl.proofs.FrameLemmas.{AllMeet, front_tables, back_tables, scans_below, kernel_meets}
use Rattle.plan_dsl.proofs.KernelLemmas.{AgreeOn, ListsAgreeOn, lists_agree, over_agrees}
use Rattle.plan_dsl.proofs.LiteralLemmas.{strict_settled}
use Rattle.plan_dsl.proofs.RunLemmas.{strict_is_meaning}
use Rattle.plan_arena.specs.Runs.{own_schema, IsStrictCore, HasRecorded, IsAccepted, AllAccepted, AreStrict, IsStrictPlan, AllStrictPlans, by_running, plan_run, RunsSoundly, AllRunSoundly}

abbrev evaluated_as : Registry → Columns → Named Expression → Meaning → Evaluated
evaluated_as registry schema output gives = record { name = output.label.name; typing = typing registry schema output.expression; gives = gives }

module _ (registry : Registry) where
  -- strict expressions give what they mean
  pub strict_agree : (schema : Columns) (outputs : List (Named Expression)) → AllByRecursion (λ output. IsStrictCore registry schema output.expression) outputs → AgreeOn schema (by_running registry) (by_meaning registry) outputs outputs
  strict_agree schema [] strict rows is = refl
  strict_agree schema (output ∷ outputs) strict rows is =
      let frame : Frame = record { schema = schema; rows = rows } in
      ap (λ gives. evaluated_as registry schema output gives ∷ map (by_running registry frame) outputs) (strict_is_meaning registry frame output.expression strict.0.0 strict.0.1)
      ∙ ap (λ tree. record { name = output.label.name; typing = typing registry schema tree; gives = meaning registry frame tree } ∷ map (by_running registry frame) outputs) (sym (strict_settled registry schema output.expression strict.0.1))
      ∙ ap (λ rest. by_meaning registry frame output ∷ rest) (strict_agree schema outputs strict.1 rows is)

  -- the only outcome is that of an input with a schema
  only_input : (schemas : List (Option Columns)) (o : Outcome Frame) → AllMeet schemas (o ∷ []) → (schema : Option Columns) × (schemas ≡ schema ∷ []) × MeetsWhere schema o
  only_input (schema ∷ []) o h = (schema, refl, h.0)
  only_input [] o h = absurd h
  only_input (schema ∷ other ∷ schemas) o h = absurd h.1

  strict_lists : (schema : Columns) (lists : List (List (Named Expression))) → AreStrict registry (Some schema ∷ []) (map (over_input 0) lists) → ListsAgreeOn schema (by_running registry) (by_meaning registry) lists lists
  strict_lists schema [] strict rows is = refl
  strict_lists schema (outputs ∷ lists) strict rows is =
      lists_agree schema (by_running registry) (by_meaning registry) outputs outputs lists lists (strict_agree schema outputs strict.0) (strict_lists schema lists strict.1) rows is

  over_runs : (work : Work) (lists : List (List (Named Expression))) (schema : Option Columns) (o : Outcome Frame) → AreStrict registry (schema ∷ []) (map (over_input 0) lists) → MeetsWhere schema o → over_frame (by_running registry) work lists o ≡ over_frame (by_meaning registry) work lists o
  over_runs work lists None o strict meets = absurd meets
  over_runs work lists (Some schema) o strict meets =
      over_agrees work (by_running registry) (by_meaning registry) lists lists schema o refl (strict_lists schema lists strict) meets

  -- a strict node gives what it means
  strict_node : (tables : List Frame) (kind : PlanKind (Named Expression)) (schemas : List (Option Columns)) (outcomes : List (Outcome Frame)) → AreStrict registry schemas (expressions_of kind) → AllMeet schemas outcomes → frame_by kind tables (by_running registry) outcomes ≡ frame_by kind tables (by_meaning registry) outcomes
  strict_node tables (ScanKind table schema) schemas [] strict meet = refl
  strict_node tables (OverKind work lists) schemas (o ∷ []) strict meet =
      let under = only_input schemas o meet in
      over_runs work lists under.0 o (subst (λ s. AreStrict registry s (map (over_input 0) lists)) under.1 strict) under.2
  strict_node tables kind schemas outcomes strict meet = refl

  recorded_there : (recorded found : Option Columns) → HasRecorded recorded found → (schema : Columns) × (found ≡ Some schema)
  recorded_there None None h = absurd cc
  recorded_there None (Some schema) h = (schema, refl)
  recorded_there (Some recorded) found h = (recorded, h)

  -- an accepted plan has a schema
  pub accepted_schema : (plan : Plan) → IsAccepted registry plan → (schema : Columns) × (schema_of registry plan ≡ Some schema)
  accepted_schema (node op inputs) accepted = recorded_there op.recorded _ accepted.0

  own_is : (recorded found : Option Columns) → HasRecorded recorded found → own_schema recorded found ≡ found
  own_is None found h = refl
  own_is (Some recorded) found h = sym h

  -- the top of what runs soundly
  pub sound_top : (tables : List Frame) (plan : Plan) → IsAccepted registry plan → RunsSoundly registry tables plan → MeetsWhere (schema_of registry plan) (plan_run registry tables plan)
  sound_top tables (node op inputs) accepted sound =
      subst (λ s. MeetsWhere s (plan_run registry tables (node op inputs))) (own_is op.recorded _ accepted.0) sound.0

  mutual
    pub runs_soundly : (tables : List Frame) (plan : Plan) → IsAccepted registry plan → IsStrictPlan registry plan → FitsPlan tables plan → RunsSoundly registry tables plan
    runs_soundly tables (node op inputs) accepted strict fits =
        let below = all_run_soundly tables inputs accepted.1 strict.1 (back_tables tables (own_scans op.kind) (scans_below inputs) fits) in
        let schemas = schemas_of registry inputs in
        let runs = fold_all (plan_kernel tables (by_running registry)) inputs in
        let own = accepted_schema (node op inputs) accepted in
        let meets = kernel_meets registry tables op schemas runs own.0 (front_tables tables (own_scans op.kind) (scans_below inputs) fits) own.1 below.1 in
        let run = subst (Meets (IsFrameOf own.0)) (sym (strict_node tables op.kind schemas runs strict.0 below.1)) meets in
        (subst (λ s. MeetsWhere s (plan_run registry tables (node op inputs))) (sym (own_is op.recorded _ accepted.0 ∙ own.1)) run, below.0)

    all_run_soundly : (tables : List Frame) (inputs : Trees (PlanOp (Named Expression))) → AllAccepted registry inputs → AllStrictPlans registry inputs → HasTables tables (scans_below inputs) → AllRunSoundly registry tables inputs × AllMeet (schemas_of registry inputs) (fold_all (plan_kernel tables (by_running registry)) inputs)
    all_run_soundly tables no_more accepted strict fits = (tt, tt)
    all_run_soundly tables (more plan rest) accepted strict fits =
        let head = runs_soundly tables plan accepted.0 strict.0 (front_tables tables (scans_in plan) (scans_below rest) fits) in
        let tail = all_run_soundly tables rest accepted.1 strict.1 (back_tables tables (scans_in plan) (scans_below rest) fits) in
        ((head, tail.0), (sound_top tables plan accepted.0 head, tail.1))
