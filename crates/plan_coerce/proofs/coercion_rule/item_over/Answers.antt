use Rattle.std.proofs.Common.{◌≡◌, drop, length, sym, ap, ◌∙◌, arith}
use Rattle.std.proofs.lemmas.List.{length-map, take_at}
use Rattle.plan_dsl.specs.Ops.{BinaryOp}
use Rattle.plan_arena.specs.declared.aexpr.AExpr.{AExpr}
use Rattle.plan_arena.specs.Items.{expression_layer, numbers}
use Rattle.plan_arena.specs.Layers.{inputs_of, layer, op_of}
use Rattle.plan_arena.proofs.ItemLemmas.{length-grown}
use Rattle.plan_coerce.proofs.CoercionRuleLemmas.{item_stays, two_listed}
use Rattle.plan_coerce.proofs.RightLemmas.{kept_within}
use Rattle.plan_coerce.proofs.coercion_rule.item_over.Goals as goal

pub get-requires : goal.get-requires
get-requires c = kept_within c.args.arena.now c.args.types.now c.args.node.0 c.requires.right c.requires.kept

pub get-requires-2 : goal.get-requires-2
get-requires-2 c = kept_within c.args.arena.now c.args.types.now c.args.node.0 c.requires.right c.requires.kept

pub get-requires-3 : goal.get-requires-3
get-requires-3 c =
    let here = kept_within c.args.arena.now c.args.types.now c.args.node.0 c.requires.right c.requires.kept in
    omega (arith, here, length-grown c.args.arena.now c.change_operands-2.new.arena c.in_ok-change_operands-2.ensures.grows)

pub returns-in-BinaryExpr-clause-answer : goal.returns-in-BinaryExpr-clause-answer
returns-in-BinaryExpr-clause-answer c =
    let made = c.change_operands.new.operands in
    let is = ap (layer (BinaryOp c.in-BinaryExpr.op)) (sym (two_listed made (record { 0 = 0 }) c.in_ok-change_operands.ensures.count)) ∙ ap (λ (x : AExpr). layer (op_of (expression_layer x)) (numbers made)) (sym c.in-BinaryExpr.is) in
    c.in_ok-change_operands.ensures.over c.if-not-branch.false _ (record { before = c.get.result.now; got = c.get.ensures; is = is })

pub set_inputs-requires : goal.set_inputs-requires
set_inputs-requires c =
    let stays = item_stays c.args.arena.now c.change_operands-2.new.arena c.args.node.0 c.get-2.result.now c.get-3.result.now c.get-2.ensures c.in_ok-change_operands-2.ensures.grows c.get-3.ensures in
    let same = ap inputs_of c.in_ok-item.ensures.ok ∙ ap (λ (x : AExpr). inputs_of (expression_layer x)) stays in
    let items = c.in_ok-operands.operands.items in
    let made = c.change_operands-2.new.operands in
    let count : length made ≡ length items = c.in_ok-change_operands-2.ensures.count ∙ ap length c.as_mut_slice.ensures.value in
    let whole = c.as_slice.ensures ∙ take_at made (drop (length made) items) (length items) count in
    ap length whole ∙ count ∙ sym (length-map items (λ n. n.0)) ∙ ap length c.in_ok-operands.ensures.ok ∙ sym (ap length same)

pub returns-clause-answer : goal.returns-clause-answer
returns-clause-answer c =
    let made = c.change_operands-2.new.operands in
    let changed = c.in_ok-change_operands-2.ensures in
    let stays = item_stays c.args.arena.now c.change_operands-2.new.arena c.args.node.0 c.get-2.result.now c.get-3.result.now c.get-2.ensures changed.grows c.get-3.ensures in
    let items = c.in_ok-operands.operands.items in
    let count : length made ≡ length items = changed.count ∙ ap length c.as_mut_slice.ensures.value in
    let whole = c.as_slice.ensures ∙ take_at made (drop (length made) items) (length items) count in
    let is = c.set_inputs.ensures.layer ∙ ap (λ l. layer (op_of l) (numbers c.as_slice.result.now)) (c.in_ok-item.ensures.ok ∙ ap expression_layer stays) ∙ ap (λ ns. layer (op_of (expression_layer c.get-2.result.now)) (numbers ns)) whole in
    changed.over c.if-not-branch-2.false c.set_inputs.new.self (record { before = c.get-2.result.now; got = c.get-2.ensures; is = is })
