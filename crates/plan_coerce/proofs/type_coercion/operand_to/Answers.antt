use Rattle.std.proofs.Common.{refl, sym, ap, ◌∙◌, subst, rules}
use Rattle.std.specs.Int.{w128}
use Rattle.std.specs.Prelude.{FitsSigned}
use Rattle.std.proofs.lemmas.Int.{to_z-of_z}
use Rattle.std.proofs.lemmas.Option.{slice_get_within}
use Rattle.plan_types.specs.Types.{Untyped, same_type, ty}
use Rattle.plan_types.specs.declared.dtype.DataType.{DataType}
use Rattle.plan_dsl.specs.Strictness.{CanBecome}
use Rattle.plan_infer.proofs.TableLemmas.{known_typed, plain_tree, type_of}
use Rattle.plan_coerce.specs.Coercion.{IsChanged}
use Rattle.plan_coerce.proofs.CoercionLemmas.{adds_alone, adds_nothing, becomes_cast, cast_round, changed_from, number_for, ready_becomes, same_target, stays_as}
use Rattle.plan_coerce.proofs.OnceLemmas.{cast_once, itself_once, number_once}
use Rattle.plan_coerce.proofs.type_coercion.operand_to.Goals as goal

pub operand-target-requires : goal.operand-target-requires
operand-target-requires c =
    let here = c.requires.ready c.get.result.now c.get.ensures in
    slice_get_within c.get.result.now.operands c.args.index here.target here.there

pub get-from-requires : goal.get-from-requires
get-from-requires c =
    let keeps = (c.requires.ready c.get.result.now c.get.ensures).ready.keeps in
    record { own = keeps.own; keeps = keeps.keeps }

pub returns-then-is_same-clause-changed : goal.returns-then-is_same-clause-changed
returns-then-is_same-clause-changed c = λ own target from keeps there known.
    let is = same_target c.args.types.now c.args.node.0 c.get.result.now own c.args.index c.operand-target.result.now target c.get.ensures keeps c.operand-target.ensures there in
    let stays = stays_as c.args.arena.now c.args.types.now c.args.input.0 c.get-from.result.now.dtype (ty c.operand-target.result.now) (type_of c.args.types.now c.args.input.0 c.get-from.result.now c.get-from.ensures) (sym c.is_same.ensures ∙ c.if-is_same.true) in
    subst (λ (t : DataType). IsChanged c.args.arena.now c.args.arena.now c.args.types.now (record { input = c.args.input.0; changed = c.args.input.0; from = ty from; target = ty t })) is (changed_from c.args.arena.now c.args.arena.now c.args.types.now c.args.input.0 c.args.input.0 c.get-from.result.now.dtype from (ty c.operand-target.result.now) (type_of c.args.types.now c.args.input.0 c.get-from.result.now c.get-from.ensures) known stays)

pub returns-then-is_same-clause-once : goal.returns-then-is_same-clause-once
returns-then-is_same-clause-once c = itself_once c.args.arena.now c.args.input.0

pub returns-then-is_same-clause-adds : goal.returns-then-is_same-clause-adds
returns-then-is_same-clause-adds c = adds_nothing _ c.args.arena.now c.args.types.now

pub put_cast-requires : goal.put_cast-requires
put_cast-requires c = (c.get-from.result.now, c.get-from.ensures, c.in_ok-try_clone-in-None.ensures.ok ∙ sym c.in_ok-target-in-None.ensures.ok, refl, refl, c.none.ensures)

pub returns-in_ok-made-in-None : goal.returns-in_ok-made-in-None
returns-in_ok-made-in-None c =
    let types = c.args.types.now in
    let from0 = c.get-from.result.now in
    let is0 = type_of types c.args.input.0 from0 c.get-from.ensures in
    let at = c.requires.ready c.get.result.now c.get.ensures in
    let apart = sym c.is_same.ensures ∙ c.if-is_same.false in
    let copied = c.in_ok-target-in-None.ensures.ok in
    let target = ty c.in_ok-target-in-None.target in
    let can = ready_becomes types c.args.input.0 c.get.result.now.operands c.args.index from0.dtype c.operand-target.result.now target at c.operand-target.ensures copied is0 apart in
    let casts = becomes_cast (ty from0.dtype) target can c.in-None.ensures in
    let other = ap (same_type (ty from0.dtype)) copied ∙ apart in
    let cast = c.in_ok-made-in-None.made.0 in
    let made = c.in_ok-made-in-None.ensures in
    record {
      changed = λ own to from keeps there known.
          let is = same_target types c.args.node.0 c.get.result.now own c.args.index c.operand-target.result.now to c.get.ensures keeps c.operand-target.ensures there in
          let here = changed_from c.args.arena.now c.put_cast.new.arena types c.args.input.0 cast from0.dtype from target is0 known (cast_round c.args.arena.now c.put_cast.new.arena types c.args.input.0 cast from0.dtype target is0 other casts.0 made.fresh made.denotes) in
          subst (λ t. IsChanged c.args.arena.now c.put_cast.new.arena types (record { input = c.args.input.0; changed = cast; from = ty from; target = t })) (copied ∙ ap ty is) here;
      kept = made.kept;
      adds = record {
        right = λ registry schema. made.right registry schema from0.dtype is0 casts.0 casts.1;
        closed = λ start roots le near. made.closed start roots near;
        added = λ registry schema start le right before. made.added registry schema start from0 le right can.known c.get-from.ensures other before;
        extends = made.extends;
      };
      once = cast_once c.args.arena.now c.put_cast.new.arena c.args.input.0 cast made.once;
      grows = made.grows;
      err = tt;
    }

-- ---- a number without a type

pub number_under-requires-clause-becomes : goal.number_under-requires-clause-becomes
number_under-requires-clause-becomes c =
    let types = c.args.types.now in
    let from0 = c.get-from.result.now in
    let is0 = type_of types c.args.input.0 from0 c.get-from.ensures in
    let at = c.requires.ready c.get.result.now c.get.ensures in
    let apart = sym c.is_same.ensures ∙ c.if-is_same.false in
    let copied = c.in_ok-target-in-Some.ensures.ok in
    let can = ready_becomes types c.args.input.0 c.get.result.now.operands c.args.index from0.dtype c.operand-target.result.now (ty c.in_ok-target-in-Some.target) at c.operand-target.ensures copied is0 apart in
    let fits : FitsSigned w128 c.in-Some.number = search rules in
    let untyped = c.in-Some.ensures ∙ ap Untyped (sym (to_z-of_z w128 c.in-Some.number fits)) in
    subst (λ own. CanBecome own (ty c.in_ok-target-in-Some.target)) untyped can

pub number_under-requires-clause-tree : goal.number_under-requires-clause-tree
number_under-requires-clause-tree c =
    let is = c.requires.right in
    plain_tree (known_typed is.registry is.schema c.args.arena.now c.args.types.now is.right c.args.input.0 (record { own = c.get-from.result.now; keeps = c.get-from.ensures }))

pub returns-in_ok-made-in-Some-clause-changed : goal.returns-in_ok-made-in-Some-clause-changed
returns-in_ok-made-in-Some-clause-changed c = λ own target from keeps there known.
    let types = c.args.types.now in
    let from0 = c.get-from.result.now in
    let is0 = type_of types c.args.input.0 from0 c.get-from.ensures in
    let at = c.requires.ready c.get.result.now c.get.ensures in
    let apart = sym c.is_same.ensures ∙ c.if-is_same.false in
    let copied = c.in_ok-target-in-Some.ensures.ok in
    let fits : FitsSigned w128 c.in-Some.number = search rules in
    let untyped = c.in-Some.ensures ∙ ap Untyped (sym (to_z-of_z w128 c.in-Some.number fits)) in
    let made = c.in_ok-made-in-Some in
    let is = same_target types c.args.node.0 c.get.result.now own c.args.index c.operand-target.result.now target c.get.ensures keeps c.operand-target.ensures there in
    let other = ap (same_type (ty from0.dtype)) copied ∙ apart in
    let here = changed_from c.args.arena.now c.number_under.new.arena types c.args.input.0 made.made.0 from0.dtype from (ty c.in_ok-target-in-Some.target) is0 known (number_for c.args.arena.now c.number_under.new.arena types c.args.input.0 made.made.0 from0.dtype (ty c.in_ok-target-in-Some.target) _ is0 other untyped made.ensures.fresh made.ensures.denotes) in
    subst (λ t. IsChanged c.args.arena.now c.number_under.new.arena types (record { input = c.args.input.0; changed = made.made.0; from = ty from; target = t })) (copied ∙ ap ty is) here

pub returns-in_ok-made-in-Some-clause-adds : goal.returns-in_ok-made-in-Some-clause-adds
returns-in_ok-made-in-Some-clause-adds c = adds_alone _ _ _ _ _ c.in_ok-made-in-Some.ensures.adds

pub returns-in_ok-made-in-Some-clause-once : goal.returns-in_ok-made-in-Some-clause-once
returns-in_ok-made-in-Some-clause-once c = number_once c.args.arena.now c.number_under.new.arena c.args.input.0 c.in_ok-made-in-Some.made.0 c.in_ok-made-in-Some.ensures.once
