use Rattle.std.proofs.Common.{◌≡◌, ◌+◌, ℕ, cond, sym, ap, ◌∙◌, arith}
use Rattle.plan_infer.proofs.TableLemmas.{counted_more, one_least, one_of, one_where}
use Rattle.plan_infer.proofs.type_table.TypeTable.len.Goals as goal

pub loop-index-preserved : goal.loop-index-preserved
loop-index-preserved c =
    let o = c.index-entries-index.result in
    let before = c.loop-index.invariant in
    let more = counted_more c.as_slice-entries.result.now c.loop-index.index (c.loop-index.index + 1) o (omega arith) c.loop-index-test.true c.index-entries-index.is in
    let count : ℕ = c.one_if-count.result in
    let one : count ≡ one_of o = c.one_if-count.ensures ∙ ap (λ b. cond b 1 0) c.is_some.ensures ∙ sym (one_where o) in
    let least = one_least o in
    record { counted = omega (arith, more, one, before.counted); least = omega (arith, one, least, before.least) }
