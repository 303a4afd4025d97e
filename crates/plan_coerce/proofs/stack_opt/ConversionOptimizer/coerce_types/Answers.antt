use Rattle.std.proofs.Common.{subst, sym}
use Rattle.plan_types.specs.Schemas.{columns}
use Rattle.plan_dsl.specs.Registry.{registry}
use Rattle.plan_infer.specs.KeptTypes.{IsRight}
use Rattle.plan_infer.proofs.TableLemmas.{extends_then}
use Rattle.plan_coerce.specs.Optimizer.{roots_of}
use Rattle.plan_coerce.proofs.LoopLemmas.{nothing_done}
use Rattle.plan_coerce.proofs.TurnLemmas.{on_ok}
use Rattle.plan_coerce.proofs.stack_opt.ConversionOptimizer.coerce_types.Goals as goal

pub place_plan-requires-clause-right : goal.place_plan-requires-clause-right
place_plan-requires-clause-right g c = λ predicate schema over.
    subst (λ s. IsRight (registry c.args.udfs.now) s c.args.expr_arena.now c.args.types.now) (sym (c.requires.over predicate schema over)) c.requires.right

pub returns-in-Err-clause-leaves : goal.returns-in-Err-clause-leaves
returns-in-Err-clause-leaves g c =
    let r = registry c.args.udfs.now in
    let s = columns c.args.schema.now in
    let rule = g.R.OptimizationRule in
    nothing_done (rule.settled c.args.rule.now r s) (rule.related c.args.rule.now r s) (rule.turns c.args.rule.now) r s (g.met.R.OptimizationRule.congruent c.args.rule.now r s) c.args.expr_arena.now (roots_of c.args.self.now) c.place_plan.new.types c.args.steps.now (c.place_plan.ensures.right s c.requires.right c.requires.over)

pub returns-in-Ok-clause-kept : goal.returns-in-Ok-clause-kept
returns-in-Ok-clause-kept g c =
    on_ok c.coerce_expressions.result c.coerce_expressions.ensures.kept (λ keeps never typed. extends_then c.args.types.now c.place_plan.new.types c.coerce_expressions.new.types c.place_plan.ensures.kept (keeps never typed))
