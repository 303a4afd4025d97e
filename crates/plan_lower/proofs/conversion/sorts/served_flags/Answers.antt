use Rattle.std.proofs.Common.{ap, arith}
use Rattle.std.specs.Vec.{vec_len}
use Rattle.plan_lower.proofs.SortLemmas.{other_number}
use Rattle.plan_lower.proofs.conversion.sorts.served_flags.Goals as goal

pub returns-then-len-counts-clause-err : goal.returns-then-len-counts-clause-err
returns-then-len-counts-clause-err c =
    let first = ap vec_len c.deref.ensures in
    let second = ap vec_len c.deref-2.ensures in
    other_number c.args.counts.now c.args.flags.items.value.items c.at_top.result (λ e. omega (arith, first, c.len.ensures, c.if-len-eq1.false, e)) (λ e. omega (arith, second, c.len-2.ensures, c.if-len-counts.true, e)) c.at_top.ensures
