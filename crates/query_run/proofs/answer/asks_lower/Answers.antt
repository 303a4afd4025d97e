use Rattle.query_run.proofs.AnswerLemmas.{right_by_bytes}
use Rattle.query_run.proofs.answer.asks_lower.Goals as goal

pub returns-then-words-eq1 : goal.returns-then-words-eq1
returns-then-words-eq1 c =
    right_by_bytes c.args.words.now c.index-words-0.result c.as_str.result.now c.eq.result c.if-words-eq1.true c.index-words-0.is c.as_str.ensures c.as_str.utf8 c.eq.ensures
