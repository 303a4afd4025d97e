use Rattle.plan_coerce.proofs.OnceLemmas.{put_over_new}
use Rattle.std.proofs.Common.{◌≡◌, ◌≤◌, Some, length, sym, ap, ◌∙◌, arith, zero-le}
use Rattle.std.specs.Int.{w128}
use Rattle.std.proofs.lemmas.Int.{to_z-of_z}
use Rattle.plan_types.specs.Casts.{can_cast}
use Rattle.plan_types.specs.CommonTypes.{literal_type, type_alone}
use Rattle.plan_types.specs.Values.{IntValue}
use Rattle.plan_dsl.specs.Literals.{literal_op, settled_type}
use Rattle.plan_dsl.specs.Ops.{LiteralOp}
use Rattle.plan_dsl.specs.Strictness.{number_literal}
use Rattle.plan_dsl.specs.Trees.{node, no_more}
use Rattle.plan_types.specs.Types.{Untyped, is_known, same_type, ty}
use Rattle.plan_types.proofs.CommonLemmas.{literal_has}
use Rattle.plan_arena.proofs.DenotationLemmas.{some_same}
use Rattle.plan_arena.proofs.ItemLemmas.{any_node, length-grown}
use Rattle.plan_infer.proofs.TableLemmas.{extends_then, type_of}
use Rattle.plan_coerce.proofs.CoercionLemmas.{literal_is, own_literal}
use Rattle.plan_coerce.proofs.KindLemmas.{lacks_apart}
use Rattle.plan_coerce.proofs.RightLemmas.{literal_kept}
use Rattle.plan_coerce.proofs.type_coercion.add_number_cast.Goals as goal

pub returns-clause-denotes : goal.returns-clause-denotes
returns-clause-denotes c = λ first le.
    let mid = c.add_literal.new.arena in
    let literal = c.in_ok-literal in
    let trip = to_z-of_z w128 c.args.number c.ranges.number in
    let alone : type_alone (Untyped c.args.number) ≡ Some (ty c.in-Some.own) = ap literal_type (sym trip) ∙ sym c.in-Some.ensures in
    let own = own_literal first mid literal.literal.0 (ty c.in-Some.own) c.in-Some-of_number.value c.args.number alone (c.in-Some-of_number.ensures.literal ∙ ap (λ m. LiteralOp (ty c.in-Some.own) (IntValue m)) trip) (literal.ensures.denotes first le) in
    let later : first ≤ length mid = omega (arith, le, length-grown c.args.arena.now mid literal.ensures.grows) in
    c.in_ok-cast.ensures.denotes first (number_literal (settled_type (Untyped c.args.number)) c.args.number) later own

pub returns-clause-right : goal.returns-clause-right
returns-clause-right c = λ registry schema right.
    let mid = c.add_literal.new.arena in
    let table = c.add_literal.new.types in
    let literal = c.in_ok-literal in
    let own = ty c.in-Some.own in
    let trip = to_z-of_z w128 c.args.number c.ranges.number in
    let alone : type_alone (Untyped c.args.number) ≡ Some own = ap literal_type (sym trip) ∙ sym c.in-Some.ensures in
    let has = literal_has c.args.number own alone in
    let is = literal_is own c.in-Some-of_number.value c.args.number has.1 has.0 (c.in-Some-of_number.ensures.literal ∙ ap (λ m. LiteralOp own (IntValue m)) trip) in
    let right' = literal.ensures.right registry schema is.0 is.1 right in
    let k = literal.ensures.kept in
    let there = any_node 0 mid literal.literal.0 (node (literal_op c.in-Some-of_number.value) no_more) (literal.ensures.denotes 0 zero-le) in
    let from : ty k.own.dtype ≡ own = literal_kept registry schema mid table literal.literal.0 c.in-Some-of_number.value k there is.1 right' ∙ sym is.0 in
    let asked = c.requires.alone in
    let same = some_same (type_alone (Untyped c.args.number)) asked.0 own asked.1 alone in
    let casts = ap (λ t. can_cast t (ty c.args.target)) (from ∙ sym same) ∙ asked.2 in
    c.in_ok-cast.ensures.right registry schema k.own.dtype (type_of table literal.literal.0 k.own k.keeps) (ap is_known from ∙ has.1) casts right'

pub returns-clause-extends : goal.returns-clause-extends
returns-clause-extends c =
    extends_then c.args.types.now c.add_literal.new.types c.add_cast.new.types c.in_ok-literal.ensures.extends c.in_ok-cast.ensures.extends

pub returns-clause-added : goal.returns-clause-added
returns-clause-added c = λ registry schema start le right known lacks before.
    let mid = c.add_literal.new.arena in
    let literal = c.in_ok-literal in
    let own = ty c.in-Some.own in
    let trip = to_z-of_z w128 c.args.number c.ranges.number in
    let alone : type_alone (Untyped c.args.number) ≡ Some own = ap literal_type (sym trip) ∙ sym c.in-Some.ensures in
    let has = literal_has c.args.number own alone in
    let is = literal_is own c.in-Some-of_number.value c.args.number has.1 has.0 (c.in-Some-of_number.ensures.literal ∙ ap (λ m. LiteralOp own (IntValue m)) trip) in
    let right' = literal.ensures.right registry schema is.0 is.1 right in
    let before' = literal.ensures.added registry schema start le right has.1 before in
    let k = literal.ensures.kept in
    let there = any_node 0 mid literal.literal.0 (node (literal_op c.in-Some-of_number.value) no_more) (literal.ensures.denotes 0 zero-le) in
    let from : ty k.own.dtype ≡ own = literal_kept registry schema mid c.add_literal.new.types literal.literal.0 c.in-Some-of_number.value k there is.1 right' ∙ sym is.0 in
    let apart = ap (λ t. same_type t (ty c.args.target)) from ∙ lacks_apart c.args.number own (ty c.args.target) alone lacks in
    c.in_ok-cast.ensures.added registry schema start k.own (omega (arith, le, length-grown c.args.arena.now mid literal.ensures.grows)) right' known k.keeps apart before'

pub returns-clause-once : goal.returns-clause-once
returns-clause-once c =
    put_over_new c.args.arena.now c.add_literal.new.arena c.add_cast.new.arena c.in_ok-literal.literal.0 c.in_ok-cast.cast.0 (length-grown c.args.arena.now c.add_literal.new.arena c.in_ok-literal.ensures.grows) c.in_ok-literal.ensures.once c.in_ok-cast.ensures.once
