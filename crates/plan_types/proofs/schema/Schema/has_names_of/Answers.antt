use Rattle.std.proofs.Common.{◌<◌, ◌+◌, suc, not, ◌&&◌, sym, ap, ◌∙◌, drop, length, refl, arith}
use Rattle.plan_types.specs.Schemas.{columns}
use Rattle.plan_types.specs.SchemaCalls.{same_names}
use Rattle.plan_types.proofs.SchemaPairLemmas.{names_apart, one_pair}
use Rattle.plan_types.proofs.schema.Schema.has_names_of.Goals as goal

pub returns-then-len : goal.returns-then-len
returns-then-len c = names_apart (columns c.args.self.now) (columns c.args.other.now) (rw (← c.len.ensures, ← c.len-2.ensures) c.if-len.true)

pub returns-then-ne : goal.returns-then-ne
returns-then-ne c =
    let cs = columns c.args.self.now in
    let ds = columns c.args.other.now in
    let n = c.loop-number.number in
    let within : n < length cs = omega (arith, c.loop-number-test.true, c.len-number-end.ensures) in
    let also : n < length ds = omega (arith, c.loop-number-test.true, c.len-number-end.ensures, c.len.ensures, c.len-2.ensures, c.if-len.false) in
    sym (one_pair cs ds c.name_at.result c.name_at-in-loop-number.result c.ne.result n (suc n) within also refl c.name_at.ensures c.name_at-in-loop-number.ensures c.ne.ensures c.loop-number.invariant ∙ ap (λ b. not b && same_names (drop (suc n) cs) (drop (suc n) ds)) c.if-ne.true)

pub loop-number-preserved : goal.loop-number-preserved
loop-number-preserved c =
    let cs = columns c.args.self.now in
    let ds = columns c.args.other.now in
    let n = c.loop-number.number in
    let m = n + 1 in
    let within : n < length cs = omega (arith, c.loop-number-test.true, c.len-number-end.ensures) in
    let also : n < length ds = omega (arith, c.loop-number-test.true, c.len-number-end.ensures, c.len.ensures, c.len-2.ensures, c.if-len.false) in
    one_pair cs ds c.name_at.result c.name_at-in-loop-number.result c.ne.result n m within also (omega arith) c.name_at.ensures c.name_at-in-loop-number.ensures c.ne.ensures c.loop-number.invariant ∙ ap (λ b. not b && same_names (drop m cs) (drop m ds)) c.if-ne.false
