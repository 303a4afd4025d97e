use Rattle.std.proofs.Common.{◌≡◌, IfOk, subst}
use Rattle.query_run.proofs.AnswerLemmas.{lower_word}
use Rattle.query_run.proofs.text.right_word.Goals as goal

pub returns : goal.returns
returns c = subst (λ w. IfOk c.new.result (λ word. word ≡ w)) lower_word c.new.ensures.ok
