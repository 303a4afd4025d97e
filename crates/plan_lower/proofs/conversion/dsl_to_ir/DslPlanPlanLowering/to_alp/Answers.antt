use Rattle.std.proofs.Common.{subst, sym}
use Rattle.plan_dsl.specs.Plans.{plan_tree}
use Rattle.plan_dsl.specs.Registry.{registry}
use Rattle.plan_dsl.specs.Resolving.{resolved}
use Rattle.plan_arena.specs.declared.plan.IRPlan.{IRPlan}
use Rattle.plan_lower.specs.Lowering.{HasLoweredTop, HasBoundedTop, IsSplit, IsSound, GivesSameFrame, columns_at}
use Rattle.plan_lower.proofs.PlanLemmas.{stands_lowered, stands_bounded, stands_split, stands_sound, stands_same}
use Rattle.plan_lower.proofs.conversion.dsl_to_ir.DslPlanPlanLowering.to_alp.Goals as goal

pub returns-clause-sound : goal.returns-clause-sound
returns-clause-sound c =
    let r = registry c.args.udfs.now in
    let plan = resolved r (plan_tree c.args.self) in
    let lowering : IRPlan = record { lp_top = c.in_ok-top.top.node; lp_arena = c.lower.new.lp_arena; expr_arena = c.lower.new.expr_arena } in
    subst (IsSound r plan) (sym c.new.ensures) (stands_sound r lowering (columns_at c.lower.new.lp_arena c.in_ok-top.top.schema_node.0) plan c.in_ok-top.ensures.ok)

pub returns-clause-split : goal.returns-clause-split
returns-clause-split c =
    let r = registry c.args.udfs.now in
    let plan = resolved r (plan_tree c.args.self) in
    let lowering : IRPlan = record { lp_top = c.in_ok-top.top.node; lp_arena = c.lower.new.lp_arena; expr_arena = c.lower.new.expr_arena } in
    subst IsSplit (sym c.new.ensures) (stands_split r lowering (columns_at c.lower.new.lp_arena c.in_ok-top.top.schema_node.0) plan c.in_ok-top.ensures.ok)

pub returns-clause-same_frame : goal.returns-clause-same_frame
returns-clause-same_frame c =
    let r = registry c.args.udfs.now in
    let plan = resolved r (plan_tree c.args.self) in
    let lowering : IRPlan = record { lp_top = c.in_ok-top.top.node; lp_arena = c.lower.new.lp_arena; expr_arena = c.lower.new.expr_arena } in
    subst (GivesSameFrame r plan) (sym c.new.ensures) (stands_same r lowering (columns_at c.lower.new.lp_arena c.in_ok-top.top.schema_node.0) plan c.in_ok-top.ensures.ok)

pub returns-clause-lowered : goal.returns-clause-lowered
returns-clause-lowered c =
    let r = registry c.args.udfs.now in
    let plan = resolved r (plan_tree c.args.self) in
    let lowering : IRPlan = record { lp_top = c.in_ok-top.top.node; lp_arena = c.lower.new.lp_arena; expr_arena = c.lower.new.expr_arena } in
    subst (HasLoweredTop r) (sym c.new.ensures) (stands_lowered r lowering (columns_at c.lower.new.lp_arena c.in_ok-top.top.schema_node.0) plan c.in_ok-top.ensures.ok)

pub returns-clause-bounds : goal.returns-clause-bounds
returns-clause-bounds c =
    let r = registry c.args.udfs.now in
    let plan = resolved r (plan_tree c.args.self) in
    let lowering : IRPlan = record { lp_top = c.in_ok-top.top.node; lp_arena = c.lower.new.lp_arena; expr_arena = c.lower.new.expr_arena } in
    subst (HasBoundedTop r plan) (sym c.new.ensures) (stands_bounded r lowering (columns_at c.lower.new.lp_arena c.in_ok-top.top.schema_node.0) plan c.in_ok-top.ensures.ok)
