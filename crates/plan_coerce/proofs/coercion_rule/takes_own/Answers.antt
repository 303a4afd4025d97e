use Rattle.std.proofs.Common.{◌≡◌, ◌+◌, [], length, drop, map, sym, ap, ◌∙◌, arith}
use Rattle.std.proofs.lemmas.Option.{get_or_from_slice_get}
use Rattle.plan_types.proofs.ListLemmas.{drop_item}
use Rattle.plan_types.specs.Types.{ty}
use Rattle.plan_arena.specs.Items.{numbers}
use Rattle.plan_dsl.specs.Strictness.{same_types}
use Rattle.plan_dsl.specs.Typing.{types_of}
use Rattle.plan_infer.specs.KeptTypes.{IsKept, typed_of, typings_at}
use Rattle.plan_infer.proofs.TableLemmas.{all_at}
use Rattle.plan_infer.proofs.SignedLemmas.{drop_all, none_left, typings_left}
use Rattle.plan_coerce.proofs.CoercionRuleLemmas.{one_apart, one_same}
use Rattle.plan_coerce.proofs.coercion_rule.takes_own.Goals as goal

pub get-requires : goal.get-requires
get-requires c = all_at (IsKept c.args.types.now) c.args.inputs.now c.loop-index.index (record { 0 = 0 }) c.requires.inputs c.loop-index-test.true

pub returns-then-not-is_same : goal.returns-then-not-is_same
returns-then-not-is_same c =
    let i = c.loop-index.index in
    let left = typings_left c.args.types.now c.args.inputs.now i (i + 1) (record { 0 = 0 }) c.get.result.now c.loop-index-test.true c.get.ensures (omega arith) in
    let target = drop_item c.args.own.now.operands i (i + 1) c.operand.result.now (omega (arith, c.loop-index-test.true, c.requires.count)) (sym (get_or_from_slice_get _ i _ _ c.operand.ensures)) (omega arith) in
    one_apart _ _ _ (typed_of c.get.result.now) c.operand.result.now (drop (i + 1) (typings_at c.args.types.now (numbers c.args.inputs.now))) (drop (i + 1) c.args.own.now.operands) left target (sym c.is_same.ensures ∙ c.if-not-is_same.true) c.loop-index.invariant.left

pub loop-index-preserved : goal.loop-index-preserved
loop-index-preserved c =
    let i = c.loop-index.index in
    let left = typings_left c.args.types.now c.args.inputs.now i (i + 1) (record { 0 = 0 }) c.get.result.now c.loop-index-test.true c.get.ensures (omega arith) in
    let target = drop_item c.args.own.now.operands i (i + 1) c.operand.result.now (omega (arith, c.loop-index-test.true, c.requires.count)) (sym (get_or_from_slice_get _ i _ _ c.operand.ensures)) (omega arith) in
    record { left = one_same _ _ _ (typed_of c.get.result.now) c.operand.result.now (drop (i + 1) (typings_at c.args.types.now (numbers c.args.inputs.now))) (drop (i + 1) c.args.own.now.operands) left target (sym c.is_same.ensures ∙ c.if-not-is_same.false) c.loop-index.invariant.left }

pub returns : goal.returns
returns c =
    let i = c.loop-index.index in
    let whole : i ≡ length c.args.inputs.now = omega (arith, c.loop-index-test.false, c.loop-index.auto.index-end) in
    let none = none_left c.args.types.now c.args.inputs.now i whole in
    sym (ap (λ ts. same_types (types_of ts) (map ty (drop i c.args.own.now.operands))) none ∙ ap (λ ds. same_types [] (map ty ds)) (drop_all c.args.own.now.operands i (whole ∙ sym c.requires.count))) ∙ c.loop-index.invariant.left
