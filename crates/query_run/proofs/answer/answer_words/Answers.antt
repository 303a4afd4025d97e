use Rattle.std.proofs.Common.{refl, subst, string_bytes}
use Rattle.plan_dsl.specs.Registry.{registry}
use Rattle.query_run.specs.Answers.{IsAnswer, IsQueryAnswer, usage, read, too_long, read_fault}
use Rattle.query_run.specs.declared.status.Status.TheVariants.{Usage, TooLong, ReadFault}
use Rattle.query_run.proofs.AnswerLemmas.{of_answer, denied}
use Rattle.query_run.proofs.EndingLemmas.{query_not_read_fault, query_not_too_long}
use Rattle.query_run.proofs.answer.answer_words.Goals as goal

pub returns-then-not-asks_lower-clause-answers : goal.returns-then-not-asks_lower-clause-answers
returns-then-not-asks_lower-clause-answers g c =
    of_answer (IsAnswer (registry c.args.udfs.now) c.args.words.now (g.S.Source.left c.args.source.now)) c.new.result Usage c.in_ok-text.text _ c.new.ensures c.in_ok-text.ensures.ok (usage (denied c.if-not-asks_lower.ensures))

pub returns-in_ok-answer-in-Bytes-clause-answers :
    goal.returns-in_ok-answer-in-Bytes-clause-answers
returns-in_ok-answer-in-Bytes-clause-answers g c =
    read c.in-Bytes.bytes.items c.in_ok-answer-in-Bytes.answer.done (string_bytes c.in_ok-answer-in-Bytes.answer.text) (c.if-not-asks_lower.ensures.0 refl) c.in-Bytes.ensures.whole c.in-Bytes.ensures.limit (subst (λ b. IsQueryAnswer (registry c.args.udfs.now) b c.in_ok-answer-in-Bytes.answer.done (string_bytes c.in_ok-answer-in-Bytes.answer.text)) c.as_slice.ensures.value c.in_ok-answer-in-Bytes.ensures)

pub returns-in-Fault-clause-answers : goal.returns-in-Fault-clause-answers
returns-in-Fault-clause-answers g c =
    of_answer (IsAnswer (registry c.args.udfs.now) c.args.words.now (g.S.Source.left c.args.source.now)) c.new-in-Fault-2.result ReadFault c.new-in-Fault.result _ c.new-in-Fault-2.ensures c.new-in-Fault.ensures.bytes (read_fault (c.if-not-asks_lower.ensures.0 refl))

pub returns-in_ok-text-in-TooLong-clause-answers :
    goal.returns-in_ok-text-in-TooLong-clause-answers
returns-in_ok-text-in-TooLong-clause-answers g c =
    of_answer (IsAnswer (registry c.args.udfs.now) c.args.words.now (g.S.Source.left c.args.source.now)) c.new-in-TooLong.result TooLong c.in_ok-text-in-TooLong.text _ c.new-in-TooLong.ensures c.in_ok-text-in-TooLong.ensures.ok (too_long (c.if-not-asks_lower.ensures.0 refl) (c.in-TooLong.ensures.too_long refl))

pub returns-in_ok-answer-in-Bytes-clause-past : goal.returns-in_ok-answer-in-Bytes-clause-past
returns-in_ok-answer-in-Bytes-clause-past g c e =
    absurd (query_not_too_long (registry c.args.udfs.now) c.as_slice.result.now c.in_ok-answer-in-Bytes.answer.done (string_bytes c.in_ok-answer-in-Bytes.answer.text) c.in_ok-answer-in-Bytes.ensures e)

pub returns-in_ok-answer-in-Bytes-clause-fault : goal.returns-in_ok-answer-in-Bytes-clause-fault
returns-in_ok-answer-in-Bytes-clause-fault g c e =
    absurd (query_not_read_fault (registry c.args.udfs.now) c.as_slice.result.now c.in_ok-answer-in-Bytes.answer.done (string_bytes c.in_ok-answer-in-Bytes.answer.text) c.in_ok-answer-in-Bytes.ensures e)

pub returns-in_ok-answer-in-Bytes-clause-within : goal.returns-in_ok-answer-in-Bytes-clause-within
returns-in_ok-answer-in-Bytes-clause-within g c e =
    absurd (query_not_read_fault (registry c.args.udfs.now) c.as_slice.result.now c.in_ok-answer-in-Bytes.answer.done (string_bytes c.in_ok-answer-in-Bytes.answer.text) c.in_ok-answer-in-Bytes.ensures e)
