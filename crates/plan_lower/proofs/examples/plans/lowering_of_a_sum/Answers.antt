use Rattle.std.proofs.Common.{◌≡◌, true, List, [], map, refl, sym, subst, arith}
use Rattle.plan_types.specs.Frames.{Frame}
use Rattle.plan_dsl.specs.PlanMeaning.{source_meaning, FitsPlan}
use Rattle.plan_arena.specs.declared.plan.IRPlan.{IRPlan}
use Rattle.plan_arena.specs.Denotation.{Denotes}
use Rattle.plan_arena.specs.Items.{HoldsPlan, DenotesPlan, plan_layer}
use Rattle.plan_arena.specs.Runs.{plan_run, RunsSoundly}
use Rattle.plan_arena.proofs.RunLemmas.{runs_soundly}
use Rattle.plan_bounds.specs.Bounds.{IsBounded}
use Rattle.plan_bounds.specs.LoweredPlans.{IsLoweredPlan, IsWidePlan}
use Rattle.plan_bounds.specs.PlanCounts.{plan_needs}
use Rattle.plan_coerce.specs.Samples.{strict_items}
use Rattle.plan_dsl.specs.Counts.{cast_count}
use Rattle.plan_infer.specs.Samples.{two_columns}
use Rattle.plan_properties.specs.Splitting.{IsSplitPlan}
use Rattle.plan_lower.specs.Samples.{query, lowered_query, scan_of, sum_layers}
use Rattle.plan_lower.proofs.ExamplePlanLemmas.{one_plan, lowered_denotes, built}
use Rattle.plan_lower.proofs.examples.plans.lowering_of_a_sum.Goals as goal

denotes : (lowering : IRPlan) → lowering.lp_top.0 ≡ 1 → lowering.expr_arena ≡ strict_items → map plan_layer lowering.lp_arena ≡ sum_layers → DenotesPlan lowering lowered_query
denotes lowering top expressions plans =
    subst (λ n. Denotes (HoldsPlan lowering.expr_arena lowering.lp_arena) n lowered_query) (sym top)
    (subst (λ es. Denotes (HoldsPlan es lowering.lp_arena) 1 lowered_query) (sym expressions) (lowered_denotes lowering.lp_arena plans))

sound : (tables : List Frame) → FitsPlan tables query → RunsSoundly [] tables lowered_query
sound tables fits = runs_soundly [] tables lowered_query built.accepted built.strict (built.fits tables fits)

wide : IsWidePlan lowered_query
wide = (((refl, tt), tt), ((tt, tt), tt))

pub returns-clause-typed : goal.returns-clause-typed
returns-clause-typed c = λ lowering top expressions plans.
    record { tree = lowered_query; denotes = denotes lowering top expressions plans; accepted = built.accepted; strict = built.strict; names = built.names; schema = refl }

pub returns-clause-split : goal.returns-clause-split
returns-clause-split c = λ lowering top expressions plans tree d.
    subst IsSplitPlan (one_plan lowering.expr_arena lowering.lp_arena lowering.lp_top.0 lowered_query tree (denotes lowering top expressions plans) d) built.split

pub returns-clause-sound : goal.returns-clause-sound
returns-clause-sound c = λ lowering top expressions plans tree d tables fits.
    subst (RunsSoundly [] tables) (one_plan lowering.expr_arena lowering.lp_arena lowering.lp_top.0 lowered_query tree (denotes lowering top expressions plans) d) (sound tables fits)

pub returns-clause-same_frame : goal.returns-clause-same_frame
returns-clause-same_frame c = λ lowering top expressions plans tree d tables fits.
    subst (λ t. plan_run [] tables t ≡ source_meaning [] tables query) (one_plan lowering.expr_arena lowering.lp_arena lowering.lp_top.0 lowered_query tree (denotes lowering top expressions plans) d) (built.same tables fits)

pub returns-clause-all : goal.returns-clause-all
returns-clause-all c = λ lowering top expressions plans. record {
  well_formed = built.well_formed;
  denotes = denotes lowering top expressions plans;
  accepted = built.accepted;
  strict = built.strict;
  names = built.names;
  split = built.split;
  schema = refl;
  sound = sound;
  same_frame = built.same;
  wide = wide;
  bounds = built.bounds;
}

pub returns-clause-lowered : goal.returns-clause-lowered
returns-clause-lowered c = λ lowering top expressions plans tree d.
    subst (IsLoweredPlan []) (one_plan lowering.expr_arena lowering.lp_arena lowering.lp_top.0 lowered_query tree (denotes lowering top expressions plans) d) (record { accepted = built.accepted; strict = built.strict; names = built.names; wide = wide })

pub returns-clause-bounds : goal.returns-clause-bounds
returns-clause-bounds c = λ lowering top expressions plans tree d.
    subst (IsBounded [] query) (one_plan lowering.expr_arena lowering.lp_arena lowering.lp_top.0 lowered_query tree (denotes lowering top expressions plans) d) built.bounds

pub returns-clause-of_a_scan : goal.returns-clause-of_a_scan
returns-clause-of_a_scan c = λ lowering top expressions plans bounded.
    let most = (bounded lowered_query (denotes lowering top expressions plans)).casts in
    let casts : cast_count lowered_query ≡ 1 = refl in
    let needs : plan_needs true [] (scan_of two_columns) ≡ 0 = refl in
    absurd (omega (arith, most, casts, needs))
