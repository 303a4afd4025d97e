use Rattle.std.proofs.Common.{sym, ap, ◌∙◌, subst}
use Rattle.std.specs.Int.{w128}
use Rattle.std.proofs.lemmas.Bool.{and_parts}
use Rattle.std.proofs.lemmas.Int.{to_z-of_z}
use Rattle.plan_types.specs.Types.{Untyped, is_integer, ty}
use Rattle.plan_types.specs.Values.{IntValue, in_range}
use Rattle.plan_dsl.specs.Ops.{LiteralOp}
use Rattle.plan_dsl.specs.Strictness.{cast_to, integer_has, number_literal}
use Rattle.plan_dsl.specs.Literals.{settled_type}
use Rattle.plan_arena.specs.Denotation.{Denotes}
use Rattle.plan_arena.specs.Items.{HoldsFrom}
use Rattle.plan_coerce.proofs.CoercionLemmas.{cast_as, literal_as, literal_is}
use Rattle.plan_coerce.proofs.type_coercion.number_to.Goals as goal

pub returns-in_ok-literal-in-Some-clause-denotes :
    goal.returns-in_ok-literal-in-Some-clause-denotes
returns-in_ok-literal-in-Some-clause-denotes c = λ first le.
    let literal = c.in_ok-literal-in-Some in
    let trip = to_z-of_z w128 c.args.number c.ranges.number in
    literal_as first c.add_literal.new.arena literal.literal.0 (ty c.args.target) c.in-Some.value c.args.number (ap (integer_has (ty c.args.target)) (sym trip) ∙ sym c.in-Some.ensures.has) (c.in-Some.ensures.literal ∙ ap (λ m. LiteralOp (ty c.args.target) (IntValue m)) trip) (literal.ensures.denotes first le)

pub returns-in_ok-cast-in-None-clause-denotes : goal.returns-in_ok-cast-in-None-clause-denotes
returns-in_ok-cast-in-None-clause-denotes c = λ first le.
    let cast = c.in_ok-cast-in-None in
    let trip = to_z-of_z w128 c.args.number c.ranges.number in
    cast_as first c.add_number_cast.new.arena cast.cast.0 (ty c.args.target) c.args.number (ap (integer_has (ty c.args.target)) (sym trip) ∙ sym c.in-None.ensures.has) (subst (λ m. Denotes (HoldsFrom first c.add_number_cast.new.arena) cast.cast.0 (cast_to (ty c.args.target) (number_literal (settled_type (Untyped m)) m))) trip (cast.ensures.denotes first le))

pub returns-in_ok-literal-in-Some-clause-adds : goal.returns-in_ok-literal-in-Some-clause-adds
returns-in_ok-literal-in-Some-clause-adds c =
    let trip = to_z-of_z w128 c.args.number c.ranges.number in
    let target = ty c.args.target in
    let has = ap (integer_has target) (sym trip) ∙ sym c.in-Some.ensures.has in
    let is = literal_is target c.in-Some.value c.args.number c.requires.becomes.known (and_parts (is_integer target) (in_range target c.args.number) has).1 (c.in-Some.ensures.literal ∙ ap (λ m. LiteralOp target (IntValue m)) trip) in
    let literal = c.in_ok-literal-in-Some.ensures in
    record {
      right = λ registry schema. literal.right registry schema is.0 is.1;
      closed = λ start roots le near. literal.closed start roots;
      added = λ registry schema start le right. literal.added registry schema start le right c.requires.becomes.known;
      extends = literal.extends;
    }

pub returns-in_ok-cast-in-None-clause-adds : goal.returns-in_ok-cast-in-None-clause-adds
returns-in_ok-cast-in-None-clause-adds c =
    let cast = c.in_ok-cast-in-None.ensures in
    record {
      right = cast.right;
      closed = λ start roots le near. cast.closed start roots le;
      added = λ registry schema start le right. cast.added registry schema start le right c.requires.becomes.known (sym c.in-None.ensures.has);
      extends = cast.extends;
    }
