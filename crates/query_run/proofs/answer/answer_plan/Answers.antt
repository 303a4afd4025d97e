use Rattle.plan_dsl.specs.Plans.{plan_tree}
use Rattle.plan_dsl.specs.Registry.{registry}
use Rattle.plan_dsl.specs.Resolving.{resolved}
use Rattle.query_run.specs.Answers.{IsPlanAnswer, refused}
use Rattle.query_run.specs.declared.status.Status.TheVariants.{Refused}
use Rattle.query_run.proofs.AnswerLemmas.{of_answer, reported, denied}
use Rattle.query_run.proofs.answer.answer_plan.Goals as goal

pub returns-in_ok-text-in-Ok : goal.returns-in_ok-text-in-Ok
returns-in_ok-text-in-Ok c =
    reported (registry c.args.udfs.now) (resolved (registry c.args.udfs.now) (plan_tree c.args.plan)) c.in-Ok.plan _ c.in-Ok.ensures.answers c.in-Ok.ensures.typed c.in-Ok.ensures.split c.in-Ok.ensures.sound c.in-Ok.ensures.same_frame c.in-Ok.ensures.lowered c.in-Ok.ensures.bounds c.in_ok-text-in-Ok.ensures

pub returns-in_ok-text-in-Err : goal.returns-in_ok-text-in-Err
returns-in_ok-text-in-Err c =
    of_answer (IsPlanAnswer (registry c.args.udfs.now) (resolved (registry c.args.udfs.now) (plan_tree c.args.plan))) c.new.result (Refused c.in-Err.error) c.in_ok-text-in-Err.text _ c.new.ensures c.in_ok-text-in-Err.ensures (refused c.in-Err.error c.in-Err.ensures.answers (denied c.if-is_memory.ensures))
