use Rattle.std.proofs.Common.{sym, subst}
use Rattle.plan_dsl.specs.Registry.{registry}
use Rattle.plan_lower.specs.Steps.{LowersStep}
use Rattle.plan_lower.specs.declared.conversion.step.Step.{Step}
use Rattle.plan_lower.proofs.AddedLemmas.{plainly_lowers}
use Rattle.plan_lower.proofs.conversion.nodes.lower_step.Goals as goal

pub returns-in-Function : goal.returns-in-Function
returns-in-Function c = rw c.in-Function.is c.lower_function.ensures

pub returns-in-Distinct : goal.returns-in-Distinct
returns-in-Distinct c =
    let items = c.args.expr_arena.now in
    let lowers = plainly_lowers (registry c.args.udfs.now) _ c.args.input items c.args.lp_arena.now c.lower_distinct.new.lp_arena c.lower_distinct.result (λ n columns at. at) c.lower_distinct.ensures in
    subst (λ (s : Step). LowersStep (registry c.args.udfs.now) s c.args.input items items c.args.lp_arena.now c.lower_distinct.new.lp_arena c.lower_distinct.result) (sym c.in-Distinct.is) lowers

pub returns-in-Plain : goal.returns-in-Plain
returns-in-Plain c =
    let items = c.args.expr_arena.now in
    let lowers = plainly_lowers (registry c.args.udfs.now) _ c.args.input items c.args.lp_arena.now c.lower_plain.new.lp_arena c.lower_plain.result (λ n columns at. at) c.lower_plain.ensures in
    subst (λ (s : Step). LowersStep (registry c.args.udfs.now) s c.args.input items items c.args.lp_arena.now c.lower_plain.new.lp_arena c.lower_plain.result) (sym c.in-Plain.is) lowers
