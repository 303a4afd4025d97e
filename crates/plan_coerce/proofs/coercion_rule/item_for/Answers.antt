use Rattle.std.proofs.Common.{[], refl, sym, ap, ◌∙◌, length, subst, arith, inl, rules}
use Rattle.std.specs.Int.{w128}
use Rattle.std.specs.Prelude.{FitsSigned}
use Rattle.std.proofs.lemmas.Int.{to_z-of_z}
use Rattle.std.proofs.lemmas.Bool.{false≢true}
use Rattle.plan_types.specs.Types.{Untyped}
use Rattle.plan_infer.proofs.TableLemmas.{keeps_one, known_typed, plain_tree}
use Rattle.plan_coerce.specs.Coercion.{TakesOperands}
use Rattle.plan_coerce.proofs.CoercionRuleLemmas.{item_there, known_not_number, kept_strict, number_replaced, type_number}
use Rattle.plan_coerce.proofs.ReachLemmas.{closed_start}
use Rattle.plan_coerce.proofs.coercion_rule.item_for.Goals as goal

pub typed_number-requires-clause-tree : goal.typed_number-requires-clause-tree
typed_number-requires-clause-tree c =
    let is = c.requires.right in
    plain_tree (known_typed is.registry is.schema c.args.arena.now c.args.types.now is.right c.args.node.0 c.requires.kept)

pub typed_number-requires-clause-alone : goal.typed_number-requires-clause-alone
typed_number-requires-clause-alone c =
    let is = c.requires.right in
    let fits : FitsSigned w128 c.in-Some.number = search rules in
    let untyped = c.in-Some.ensures ∙ ap Untyped (sym (to_z-of_z w128 c.in-Some.number fits)) in
    type_number is.registry is.schema c.args.arena.now c.args.types.now is.right c.args.node.0 c.get-own.result.now c.get-own.ensures _ untyped

pub returns-then-is_strict-clause-answer : goal.returns-then-is_strict-clause-answer
returns-then-is_strict-clause-answer c = record {
  is = λ registry schema t right d.
      let own = c.get-own.result.now in
      let got = item_there c.args.arena.now c.args.node.0 t d in
      let known = known_not_number registry schema c.args.arena.now c.args.types.now right c.args.node.0 own c.get-own.ensures c.in-None.ensures in
      kept_strict registry schema c.args.arena.now c.args.types.now right c.args.node.0 own c.get-own.ensures got.0 got.1 (c.is_strict.ensures.0 c.if-is_strict.true) known t d;
  same = refl;
  keeps = refl;
}

pub returns-in_ok-item-in-Some-clause-answer : goal.returns-in_ok-item-in-Some-clause-answer
returns-in_ok-item-in-Some-clause-answer c =
    let own = c.get-own.result.now in
    let made = c.in_ok-item-in-Some in
    let adds = made.ensures.adds in
    let fits : FitsSigned w128 c.in-Some.number = search rules in
    let untyped = c.in-Some.ensures ∙ ap Untyped (sym (to_z-of_z w128 c.in-Some.number fits)) in
    record {
      answer = λ registry schema t right d.
          number_replaced registry schema c.args.arena.now c.typed_number.new.arena c.args.types.now c.typed_number.new.types c.args.node.0 made.item own right c.get-own.ensures made.ensures.grows (adds.right registry schema right) (adds.added registry schema (length c.args.arena.now) (omega arith) right (λ n le lt. absurd (omega (arith, le, lt)))) made.ensures.closed _ untyped (adds.closed c.args.arena.now [] (omega arith) tt (closed_start c.args.arena.now [])) t d (λ h. made.ensures.settles registry schema t d h);
      reaches = made.ensures.closed;
      once = made.ensures.once;
      placed = λ registry schema right none.
          absurd (none (record { own = own; number = c.in-Some.number; keeps = adds.extends.entries c.args.node.0 own c.get-own.ensures; is = c.in-Some.ensures }));
      right = adds.right;
      kept = inl adds.extends;
    }

pub item_over-requires-clause-takes : goal.item_over-requires-clause-takes
item_over-requires-clause-takes c = λ other keeps.
    let own = c.get-own.result.now in
    let one = keeps_one c.args.types.now c.args.node.0 own other c.get-own.ensures keeps in
    let takes : TakesOperands own = record { some = λ e. false≢true (sym c.if-is_strict.false ∙ c.is_strict.ensures.1 e); typed = c.in-None.ensures } in
    subst TakesOperands one takes
