use Rattle.std.proofs.Common.{◌≡◌, ℕ, [], ◌∷◌, map, None, Option, Some, refl, sym, subst}
use Rattle.plan_types.specs.Schemas.{Columns}
use Rattle.plan_types.specs.Frames.{Frame}
use Rattle.plan_types.specs.Outcomes.{Done}
use Rattle.plan_dsl.specs.Trees.{node, no_more}
use Rattle.plan_dsl.specs.Plans.{scan_op}
use Rattle.plan_dsl.specs.PlanRules.{schema_of}
use Rattle.plan_arena.specs.declared.plan.IRPlan.{IRPlan}
use Rattle.plan_arena.specs.Denotation.{Denotes}
use Rattle.plan_arena.specs.Layers.{layer}
use Rattle.plan_arena.specs.Items.{HoldsPlan, DenotesPlan, plan_layer}
use Rattle.plan_lower.specs.Samples.{select_of}
use Rattle.plan_infer.specs.Samples.{two_columns, a}
use Rattle.plan_lower.proofs.ExamplePlanLemmas.{one_plan, item_at, scan_denotes}
use Rattle.plan_lower.proofs.examples.plans.no_lowerings.Goals as goal

denotes : (lowering : IRPlan) (table : Option ℕ) (schema : Columns) → lowering.lp_top.0 ≡ 0 → map plan_layer lowering.lp_arena ≡ layer (scan_op table schema) [] ∷ [] → DenotesPlan lowering (node (scan_op table schema) no_more)
denotes lowering table schema top plans =
    subst (λ n. Denotes (HoldsPlan lowering.expr_arena lowering.lp_arena) n (node (scan_op table schema) no_more)) (sym top)
    (scan_denotes lowering.expr_arena lowering.lp_arena 0 table schema (item_at lowering.lp_arena (layer (scan_op table schema) [] ∷ []) 0 _ plans refl))

one_is_not_two : {A : Type 0} (x y z : A) → x ∷ [] ≡ y ∷ z ∷ [] → ⊥
one_is_not_two x y z e = cc

some_is : {A : Type 0} (x y : A) → Some x ≡ Some y → x ≡ y
some_is x y e = cc

done_schema : (f g : Frame) → Done f ≡ Done g → f.schema ≡ g.schema
done_schema f g e = cc

pub returns-clause-other_schema : goal.returns-clause-other_schema
returns-clause-other_schema c = λ lowering top plans typed.
    let scan = node (scan_op (Some 0) two_columns) no_more in
    let same = one_plan lowering.expr_arena lowering.lp_arena lowering.lp_top.0 typed.tree scan typed.denotes (denotes lowering (Some 0) two_columns top plans) in
    one_is_not_two _ _ _ (some_is _ _ (subst (λ t. schema_of [] (select_of (a ∷ []) scan) ≡ schema_of [] t) same typed.schema))

pub returns-clause-other_frame : goal.returns-clause-other_frame
returns-clause-other_frame c = λ lowering top plans same.
    let scan = node (scan_op None two_columns) no_more in
    one_is_not_two _ _ _ (sym (done_schema _ _ (same scan (denotes lowering None two_columns top plans) [] tt)))

pub returns-clause-stuck : goal.returns-clause-stuck
returns-clause-stuck c = λ lowering top plans sound.
    (sound (node (scan_op (Some 0) []) no_more) (denotes lowering (Some 0) [] top plans) [] tt).0
