use Rattle.plan_dsl.specs.Registry.{registry}
use Rattle.query_run.specs.Answers.{IsAnswer, no_memory}
use Rattle.query_run.specs.declared.status.Status.TheVariants.{NoMemory}
use Rattle.query_run.proofs.AnswerLemmas.{of_answer}
use Rattle.query_run.proofs.answer.answer_to.Goals as goal

pub returns-in-Err-clause-answers : goal.returns-in-Err-clause-answers
returns-in-Err-clause-answers g c =
    of_answer (IsAnswer (registry c.args.udfs.now) c.args.words.now (g.S.Source.left c.args.source.now)) c.new-in-Err.result NoMemory c.new.result _ c.new-in-Err.ensures c.new.ensures.bytes no_memory
