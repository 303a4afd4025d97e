use Rattle.std.proofs.Common.{length, map, true, refl, sym, ap, ◌∙◌, subst}
use Rattle.std.specs.List.{AllByRecursion}
use Rattle.std.proofs.lemmas.List.{length-map}
use Rattle.plan_types.specs.Types.{ty}
use Rattle.plan_dsl.specs.Strictness.{same_types}
use Rattle.plan_dsl.specs.Typing.{types_of}
use Rattle.plan_arena.specs.Items.{numbers, expression_layer}
use Rattle.plan_arena.specs.Layers.{inputs_of, op_of}
use Rattle.plan_infer.specs.KeptTypes.{IsKept, typings_at}
use Rattle.plan_infer.proofs.TableLemmas.{known_inputs, layer_held}
use Rattle.plan_coerce.specs.Coercion.{AllReady}
use Rattle.plan_coerce.proofs.CoercionLemmas.{changed_count, ready_length, takes_ready}
use Rattle.plan_coerce.proofs.CoercionRuleLemmas.{can_replace, item_there, known_not_number, listed_strict}
use Rattle.plan_coerce.proofs.coercion_rule.change_operands.Goals as goal

pub takes_own-requires-clause-inputs : goal.takes_own-requires-clause-inputs
takes_own-requires-clause-inputs c =
    let is = c.requires.right in
    let e = is.right.each c.args.node.0 c.get.result.now c.get.ensures in
    let item = item_there c.args.arena.now c.args.node.0 e.tree e.denotes in
    let held = layer_held c.args.arena.now c.args.node.0 item.0 item.1 in
    subst (AllByRecursion (IsKept c.args.types.now)) (sym (c.requires.listed item.0 item.1)) (known_inputs is.registry is.schema c.args.arena.now c.args.types.now is.right c.args.node.0 (op_of (expression_layer item.0)) (inputs_of (expression_layer item.0)) c.requires.kept held)

pub takes_own-requires-clause-count : goal.takes_own-requires-clause-count
takes_own-requires-clause-count c =
    let is = c.requires.right in
    let own = c.get.result.now in
    let e = is.right.each c.args.node.0 own c.get.ensures in
    let item = item_there c.args.arena.now c.args.node.0 e.tree e.denotes in
    let some = (c.requires.takes own c.get.ensures).some in
    let ready = takes_ready is.registry is.schema c.args.arena.now c.args.types.now is.right c.args.node.0 item.0 own item.1 c.get.ensures some in
    sym (ready_length c.args.types.now (inputs_of (expression_layer item.0)) own.operands ready) ∙ sym (ap length (c.requires.listed item.0 item.1)) ∙ length-map c.args.operands.now (λ n. n.0)

pub returns-then-takes_own-clause-stays : goal.returns-then-takes_own-clause-stays
returns-then-takes_own-clause-stays c = λ stays. record {
  is = λ registry schema t right d.
      let own = c.get.result.now in
      let item = item_there c.args.arena.now c.args.node.0 t d in
      let takes = c.requires.takes own c.get.ensures in
      let known = known_not_number registry schema c.args.arena.now c.args.types.now right c.args.node.0 own c.get.ensures takes.typed in
      let same = sym c.if-takes_own.true ∙ c.takes_own.ensures ∙ ap (λ ns. same_types (types_of (typings_at c.args.types.now ns)) (map ty own.operands)) (c.requires.listed item.0 item.1) in
      listed_strict registry schema c.args.arena.now c.args.types.now right c.args.node.0 own c.get.ensures item.0 item.1 takes.some known true same t d;
  same = refl;
  keeps = refl;
}

pub operands_to-requires-clause-ready : goal.operands_to-requires-clause-ready
operands_to-requires-clause-ready c = λ own keeps.
    let is = c.requires.right in
    let e = is.right.each c.args.node.0 own keeps in
    let item = item_there c.args.arena.now c.args.node.0 e.tree e.denotes in
    let ready = takes_ready is.registry is.schema c.args.arena.now c.args.types.now is.right c.args.node.0 item.0 own item.1 keeps (c.requires.takes own keeps).some in
    subst (λ ns. AllReady c.args.types.now ns (map ty own.operands)) (sym (c.requires.listed item.0 item.1)) ready

pub returns-clause-over : goal.returns-clause-over
returns-clause-over c = λ changed.
    let own = c.get.result.now in
    let made = c.in_ok-operands_to.ensures in
    let differs = sym c.if-takes_own.false ∙ c.takes_own.ensures in
    can_replace c.args.arena.now c.operands_to.new.arena c.args.types.now c.operands_to.new.types c.args.node.0 own (numbers c.args.operands.now) (numbers c.operands_to.new.operands) c.requires.right c.get.ensures (c.requires.takes own c.get.ensures) made.grows c.requires.listed differs made.changed made.kept made.adds made.once

pub returns-clause-count : goal.returns-clause-count
returns-clause-count c =
    let own = c.get.result.now in
    let changed = c.in_ok-operands_to.ensures.changed own c.get.ensures in
    sym (length-map c.operands_to.new.operands (λ n. n.0)) ∙ changed_count _ _ _ _ _ _ changed ∙ length-map c.args.operands.now (λ n. n.0)
