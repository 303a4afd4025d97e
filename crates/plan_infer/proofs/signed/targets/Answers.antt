use Rattle.std.proofs.Common.{◌≡◌, ◌+◌, ◌∷◌, [], None, drop, map, sym, ap, ◌∙◌, arith}
use Rattle.std.proofs.lemmas.List.{map-append}
use Rattle.plan_types.proofs.ResultLemmas.{passed_on}
use Rattle.plan_types.specs.Types.{ty}
use Rattle.plan_types.specs.declared.error.ErrorKind.TheVariants.{InvalidOperation}
use Rattle.plan_dsl.specs.Typing.{taken_from}
use Rattle.plan_arena.specs.Items.{numbers}
use Rattle.plan_infer.specs.KeptTypes.{IsKept, typings_at, typed_of}
use Rattle.plan_infer.proofs.TableLemmas.{all_at}
use Rattle.plan_infer.proofs.SignedLemmas.{none_left, or_other, taken_more, taken_none, taken_whole, types_before, typings_left}
use Rattle.plan_infer.proofs.signed.targets.Goals as goal

pub get-requires : goal.get-requires
get-requires c = all_at (IsKept c.args.types.now) c.args.inputs.now c.loop-index.index (record { 0 = 0 }) c.requires.inputs c.loop-index-test.true

pub returns-in_err-target-clause-err : goal.returns-in_err-target-clause-err
returns-in_err-target-clause-err c =
    let i = c.loop-index.index in
    let operand = c.get.result.now in
    let all = typings_at c.args.types.now (numbers c.args.inputs.now) in
    let left = typings_left c.args.types.now c.args.inputs.now i (i + 1) (record { 0 = 0 }) operand c.loop-index-test.true c.get.ensures (omega arith) in
    let none = taken_none (ty c.args.shared.now) c.args.signature all (map ty c.loop-index.targets.items) i (i + 1) (typed_of operand) c.loop-index.invariant.taken (omega arith) left in
    let refused = or_other InvalidOperation _ (taken_from (ty c.args.shared.now) c.args.signature 0 all ≡ None) c.in_err-target.field-0.0 none c.in_err-target.ensures.err in
    passed_on c.from_residual.result c.in_err-target.field-0.0 _ c.from_residual.ensures.1 refused

pub loop-index-preserved : goal.loop-index-preserved
loop-index-preserved c =
    let i = c.loop-index.index in
    let operand = c.get.result.now in
    let all = typings_at c.args.types.now (numbers c.args.inputs.now) in
    let left = typings_left c.args.types.now c.args.inputs.now i (i + 1) (record { 0 = 0 }) operand c.loop-index-test.true c.get.ensures (omega arith) in
    let more = taken_more (ty c.args.shared.now) c.args.signature all (map ty c.loop-index.targets.items) i (i + 1) (typed_of operand) c.loop-index.invariant.taken (omega arith) left (ty c.in_ok-target.target) c.in_ok-target.ensures.ok in
    let grown = ap (map ty) c.in_ok-push.ensures.items ∙ map-append ty c.loop-index.targets.items (c.in_ok-target.target ∷ []) in
    record { taken = more ∙ ap (λ types. types_before types (taken_from (ty c.args.shared.now) c.args.signature (i + 1) (drop (i + 1) all))) (sym grown) }

pub returns-clause-ok : goal.returns-clause-ok
returns-clause-ok c =
    let i = c.loop-index.index in
    let all = typings_at c.args.types.now (numbers c.args.inputs.now) in
    taken_whole (ty c.args.shared.now) c.args.signature all (map ty c.loop-index.targets.items) i c.loop-index.invariant.taken (none_left c.args.types.now c.args.inputs.now i (omega (arith, c.loop-index-test.false, c.loop-index.auto.index-end)))
