use Rattle.std.proofs.Common.{subst, string_bytes, ◌<◌, length, take}
use Rattle.plan_dsl.specs.Registry.{registry}
use Rattle.std.specs.Io.KnownBytes.{Appends}
use Rattle.query_run.specs.Answers.{written, cut}
use Rattle.query_run.specs.declared.status.Status.TheVariants.{Lowered, Refused, Usage, BadQuery, TooLong}
use Rattle.query_run.proofs.AnswerLemmas.{never_write_fault}
use Rattle.query_run.proofs.EndingLemmas.{says, silent, planless, fault_is_silent, bad_query_called, refused_called, lowered_called, complete}
use Rattle.query_run.proofs.run.run.Goals as goal

pub returns-in-Ok-clause-ended : goal.returns-in-Ok-clause-ended
returns-in-Ok-clause-ended g h =
    written h.answer_to-done.result.done (string_bytes h.answer_to-done.result.text) h.answer_to-done.ensures.answers (subst (λ b. Appends (g.K.Sink.written h.args.sink.now) (g.K.Sink.written h.write_all.new.sink) b) h.as_bytes.ensures.value h.in-Ok.ensures.ok)

pub returns-in-Ok-clause-lowered : goal.returns-in-Ok-clause-lowered
returns-in-Ok-clause-lowered g h e =
    says (registry h.args.udfs.now) h.args.words.now (g.S.Source.left h.args.source.now) (g.K.Sink.written h.args.sink.now) (g.K.Sink.written h.write_all.new.sink) h.answer_to-done.result.done (string_bytes h.answer_to-done.result.text) h.answer_to-done.ensures.answers (subst (λ b. Appends (g.K.Sink.written h.args.sink.now) (g.K.Sink.written h.write_all.new.sink) b) h.as_bytes.ensures.value h.in-Ok.ensures.ok) Lowered e

pub returns-in-Ok-clause-refused : goal.returns-in-Ok-clause-refused
returns-in-Ok-clause-refused g h error e =
    (says (registry h.args.udfs.now) h.args.words.now (g.S.Source.left h.args.source.now) (g.K.Sink.written h.args.sink.now) (g.K.Sink.written h.write_all.new.sink) h.answer_to-done.result.done (string_bytes h.answer_to-done.result.text) h.answer_to-done.ensures.answers (subst (λ b. Appends (g.K.Sink.written h.args.sink.now) (g.K.Sink.written h.write_all.new.sink) b) h.as_bytes.ensures.value h.in-Ok.ensures.ok) (Refused error) e).0

pub returns-in-Ok-clause-usage : goal.returns-in-Ok-clause-usage
returns-in-Ok-clause-usage g h e =
    (says (registry h.args.udfs.now) h.args.words.now (g.S.Source.left h.args.source.now) (g.K.Sink.written h.args.sink.now) (g.K.Sink.written h.write_all.new.sink) h.answer_to-done.result.done (string_bytes h.answer_to-done.result.text) h.answer_to-done.ensures.answers (subst (λ b. Appends (g.K.Sink.written h.args.sink.now) (g.K.Sink.written h.write_all.new.sink) b) h.as_bytes.ensures.value h.in-Ok.ensures.ok) Usage e).0

pub returns-in-Ok-clause-bad_query : goal.returns-in-Ok-clause-bad_query
returns-in-Ok-clause-bad_query g h error e =
    (says (registry h.args.udfs.now) h.args.words.now (g.S.Source.left h.args.source.now) (g.K.Sink.written h.args.sink.now) (g.K.Sink.written h.write_all.new.sink) h.answer_to-done.result.done (string_bytes h.answer_to-done.result.text) h.answer_to-done.ensures.answers (subst (λ b. Appends (g.K.Sink.written h.args.sink.now) (g.K.Sink.written h.write_all.new.sink) b) h.as_bytes.ensures.value h.in-Ok.ensures.ok) (BadQuery error) e).0

pub returns-in-Ok-clause-too_long : goal.returns-in-Ok-clause-too_long
returns-in-Ok-clause-too_long g h e =
    (says (registry h.args.udfs.now) h.args.words.now (g.S.Source.left h.args.source.now) (g.K.Sink.written h.args.sink.now) (g.K.Sink.written h.write_all.new.sink) h.answer_to-done.result.done (string_bytes h.answer_to-done.result.text) h.answer_to-done.ensures.answers (subst (λ b. Appends (g.K.Sink.written h.args.sink.now) (g.K.Sink.written h.write_all.new.sink) b) h.as_bytes.ensures.value h.in-Ok.ensures.ok) TooLong e).0

pub returns-in-Ok-clause-write_fault : goal.returns-in-Ok-clause-write_fault
returns-in-Ok-clause-write_fault g h c =
    absurd (never_write_fault (registry h.args.udfs.now) h.args.words.now (g.S.Source.left h.args.source.now) h.answer_to-done.result.done (string_bytes h.answer_to-done.result.text) h.answer_to-done.ensures.answers c)

pub returns-in-Ok-clause-cut : goal.returns-in-Ok-clause-cut
returns-in-Ok-clause-cut g h c =
    absurd (never_write_fault (registry h.args.udfs.now) h.args.words.now (g.S.Source.left h.args.source.now) h.answer_to-done.result.done (string_bytes h.answer_to-done.result.text) h.answer_to-done.ensures.answers c)

pub returns-in-Ok-clause-nothing_written : goal.returns-in-Ok-clause-nothing_written
returns-in-Ok-clause-nothing_written g h e =
    silent (registry h.args.udfs.now) h.args.words.now (g.S.Source.left h.args.source.now) (g.K.Sink.written h.args.sink.now) (g.K.Sink.written h.write_all.new.sink) h.answer_to-done.result.done (string_bytes h.answer_to-done.result.text) h.answer_to-done.ensures.answers (subst (λ b. Appends (g.K.Sink.written h.args.sink.now) (g.K.Sink.written h.write_all.new.sink) b) h.as_bytes.ensures.value h.in-Ok.ensures.ok) e

pub returns-in-Ok-clause-no_plan : goal.returns-in-Ok-clause-no_plan
returns-in-Ok-clause-no_plan g h e =
    planless (registry h.args.udfs.now) h.args.words.now (g.S.Source.left h.args.source.now) (g.K.Sink.written h.args.sink.now) (g.K.Sink.written h.write_all.new.sink) h.answer_to-done.result.done (string_bytes h.answer_to-done.result.text) h.answer_to-done.ensures.answers (subst (λ b. Appends (g.K.Sink.written h.args.sink.now) (g.K.Sink.written h.write_all.new.sink) b) h.as_bytes.ensures.value h.in-Ok.ensures.ok) e

pub returns-in-Ok-clause-bad_query_where : goal.returns-in-Ok-clause-bad_query_where
returns-in-Ok-clause-bad_query_where g h =
    bad_query_called (registry h.args.udfs.now) h.args.words.now (g.S.Source.left h.args.source.now) h.answer_to-done.result.done (string_bytes h.answer_to-done.result.text) h.answer_to-done.ensures.answers

pub returns-in-Ok-clause-refused_where : goal.returns-in-Ok-clause-refused_where
returns-in-Ok-clause-refused_where g h =
    refused_called (registry h.args.udfs.now) h.args.words.now (g.S.Source.left h.args.source.now) h.answer_to-done.result.done (string_bytes h.answer_to-done.result.text) h.answer_to-done.ensures.answers

pub returns-in-Ok-clause-lowered_where : goal.returns-in-Ok-clause-lowered_where
returns-in-Ok-clause-lowered_where g h =
    lowered_called (registry h.args.udfs.now) h.args.words.now (g.S.Source.left h.args.source.now) h.answer_to-done.result.done (string_bytes h.answer_to-done.result.text) h.answer_to-done.ensures.answers

pub returns-in-Ok-clause-complete : goal.returns-in-Ok-clause-complete
returns-in-Ok-clause-complete g h no_source no_sink =
    complete (registry h.args.udfs.now) h.args.words.now (g.S.Source.left h.args.source.now) h.answer_to-done.result.done.status
    (lowered_called (registry h.args.udfs.now) h.args.words.now (g.S.Source.left h.args.source.now) h.answer_to-done.result.done (string_bytes h.answer_to-done.result.text) h.answer_to-done.ensures.answers)
    (λ e. no_source (h.answer_to-done.ensures.fault e))
    (never_write_fault (registry h.args.udfs.now) h.args.words.now (g.S.Source.left h.args.source.now) h.answer_to-done.result.done (string_bytes h.answer_to-done.result.text) h.answer_to-done.ensures.answers)

pub returns-in-Err-clause-ended : goal.returns-in-Err-clause-ended
returns-in-Err-clause-ended g h =
    cut h.answer_to-done.result.done (string_bytes h.answer_to-done.result.text) h.in-Err.ensures.err.0 h.answer_to-done.ensures.answers (subst (λ b. h.in-Err.ensures.err.0 < length b) h.as_bytes.ensures.value h.in-Err.ensures.err.1) (subst (λ b. Appends (g.K.Sink.written h.args.sink.now) (g.K.Sink.written h.write_all.new.sink) (take h.in-Err.ensures.err.0 b)) h.as_bytes.ensures.value h.in-Err.ensures.err.2)

pub returns-in-Err-clause-cut : goal.returns-in-Err-clause-cut
returns-in-Err-clause-cut g h e =
    let short = subst (λ b. h.in-Err.ensures.err.0 < length b) h.as_bytes.ensures.value h.in-Err.ensures.err.1 in
    record {
      other = h.answer_to-done.result.done;
      text = string_bytes h.answer_to-done.result.text;
      answers = h.answer_to-done.ensures.answers;
      no_fault = fault_is_silent (registry h.args.udfs.now) h.args.words.now (g.S.Source.left h.args.source.now) h.answer_to-done.result.done (string_bytes h.answer_to-done.result.text) h.in-Err.ensures.err.0 h.answer_to-done.ensures.answers short;
      at_end = h.answer_to-done.ensures.end;
      past = h.answer_to-done.ensures.past;
      count = h.in-Err.ensures.err.0;
      short = short;
      written = subst (λ b. Appends (g.K.Sink.written h.args.sink.now) (g.K.Sink.written h.write_all.new.sink) (take h.in-Err.ensures.err.0 b)) h.as_bytes.ensures.value h.in-Err.ensures.err.2;
    }
