use Rattle.std.proofs.Common.{◌+◌, ◌||◌, drop, sym, ap, ◌∙◌, arith}
use Rattle.plan_dsl.specs.Typing.{some_many}
use Rattle.plan_arena.specs.Items.{numbers}
use Rattle.plan_infer.specs.KeptTypes.{IsKept, typings_at}
use Rattle.plan_infer.proofs.TableLemmas.{all_at}
use Rattle.plan_infer.proofs.SignedLemmas.{none_left, typings_left}
use Rattle.plan_infer.proofs.signed.some_many.Goals as goal

pub get-requires : goal.get-requires
get-requires c = all_at (IsKept c.args.types.now) c.args.inputs.now c.loop-index.index (record { 0 = 0 }) c.requires.inputs c.loop-index-test.true

pub returns-then-get : goal.returns-then-get
returns-then-get c =
    let i = c.loop-index.index in
    let left = typings_left c.args.types.now c.args.inputs.now i (i + 1) (record { 0 = 0 }) c.get.result.now c.loop-index-test.true c.get.ensures (omega arith) in
    sym (c.loop-index.invariant.left ∙ ap some_many left ∙ ap (λ b. b || some_many (drop (i + 1) (typings_at c.args.types.now (numbers c.args.inputs.now)))) c.if-get.true)

pub loop-index-preserved : goal.loop-index-preserved
loop-index-preserved c =
    let i = c.loop-index.index in
    let left = typings_left c.args.types.now c.args.inputs.now i (i + 1) (record { 0 = 0 }) c.get.result.now c.loop-index-test.true c.get.ensures (omega arith) in
    record { left = c.loop-index.invariant.left ∙ ap some_many left ∙ ap (λ b. b || some_many (drop (i + 1) (typings_at c.args.types.now (numbers c.args.inputs.now)))) c.if-get.false }

pub returns : goal.returns
returns c = sym (c.loop-index.invariant.left ∙ ap some_many (none_left c.args.types.now c.args.inputs.now c.loop-index.index (omega (arith, c.loop-index-test.false, c.loop-index.auto.index-end))))
