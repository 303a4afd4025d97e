use Rattle.std.proofs.Common.{sym}
use Rattle.plan_types.proofs.DigitLemmas.{unread}
use Rattle.plan_types.proofs.cast.text_to.Goals as goal

pub returns-in-None-clause-ok : goal.returns-in-None-clause-ok
returns-in-None-clause-ok c =
    rw (unread c.args.options c.args.text.now c.args.to.now (sym c.if-not-is_integer.ensures) c.in-None.ensures) c.no_place-in-None.ensures.ok

pub returns-in-None-clause-err : goal.returns-in-None-clause-err
returns-in-None-clause-err c =
    rw (unread c.args.options c.args.text.now c.args.to.now (sym c.if-not-is_integer.ensures) c.in-None.ensures) c.no_place-in-None.ensures.err
