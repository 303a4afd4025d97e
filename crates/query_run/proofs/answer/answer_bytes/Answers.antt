use Rattle.plan_dsl.specs.Registry.{registry}
use Rattle.plan_json.specs.Queries.{query_model}
use Rattle.query_run.specs.Answers.{IsQueryAnswer, planned, bad}
use Rattle.query_run.specs.declared.status.Status.TheVariants.{BadQuery}
use Rattle.query_run.proofs.AnswerLemmas.{of_answer}
use Rattle.std.proofs.Common.{refl, string_bytes}
use Rattle.query_run.proofs.answer.answer_bytes.Goals as goal

pub returns-in_ok-answer-in-Ok : goal.returns-in_ok-answer-in-Ok
returns-in_ok-answer-in-Ok c =
    planned (query_model c.in-Ok.query) c.in_ok-answer-in-Ok.answer.done (string_bytes c.in_ok-answer-in-Ok.answer.text) c.in-Ok.ensures.ok c.in_ok-answer-in-Ok.ensures

pub returns-in_ok-text-in-Err : goal.returns-in_ok-text-in-Err
returns-in_ok-text-in-Err c =
    of_answer (IsQueryAnswer (registry c.args.udfs.now) c.args.bytes.now) c.new.result (BadQuery c.in-Err.error) c.in_ok-text-in-Err.text _ c.new.ensures refl (bad c.in-Err.error _ c.in-Err.ensures.err c.in_ok-text-in-Err.ensures)
