use Rattle.plan_arena.proofs.ItemLemmas.{expression_written}
use Rattle.plan_coerce.proofs.OnceLemmas.{above_once, bare_once}
use Rattle.std.proofs.Common.{◌≡◌, [], ◌∷◌, Some, sym, ap, ◌∙◌, subst, arith, zero-le, inl}
use Rattle.std.specs.Int.{w128}
use Rattle.std.proofs.lemmas.Int.{to_z-of_z}
use Rattle.plan_types.specs.Types.{Untyped, ty}
use Rattle.plan_types.specs.Values.{IntValue}
use Rattle.plan_types.specs.CommonTypes.{type_alone, literal_type}
use Rattle.plan_dsl.specs.Aliases.{renamed}
use Rattle.plan_dsl.specs.Strictness.{number_as}
use Rattle.plan_dsl.specs.Ops.{AliasOp, LiteralOp}
use Rattle.plan_arena.specs.Denotation.{Denotes}
use Rattle.plan_arena.specs.Items.{HoldsFrom}
use Rattle.plan_arena.specs.declared.aexpr.AExpr.TheVariants.{Literal, Alias}
use Rattle.plan_arena.proofs.ItemLemmas.{expression_got, expression_inputs, length-grown, tree_within}
use Rattle.plan_coerce.proofs.CoercionLemmas.{adds_nothing}
use Rattle.plan_coerce.proofs.CoercionRuleLemmas.{alias_settles, literal_settles}
use Rattle.plan_coerce.proofs.ReachLemmas.{closed_put, closed_start}
use Rattle.plan_coerce.proofs.SettledLemmas.{number_becomes}
use Rattle.plan_coerce.proofs.coercion_rule.typed_number.Goals as goal

pub get-requires : goal.get-requires
get-requires c = tree_within c.args.arena.now c.args.node.0 c.requires.tree

pub number_under-requires-clause-tree : goal.number_under-requires-clause-tree
number_under-requires-clause-tree c =
    let held = expression_got c.args.arena.now c.args.node.0 c.get.result.now c.get.ensures ∙ ap Some c.in-Some-alias.ensures in
    (expression_inputs c.args.arena.now c.args.node.0 (AliasOp c.in-Some-alias.name.now) (c.in-Some-alias.below.0 ∷ []) held c.requires.tree).0.0

pub number_under-requires-clause-becomes : goal.number_under-requires-clause-becomes
number_under-requires-clause-becomes c = number_becomes _ (ty c.in-Some.own) (sym c.in-Some.ensures)

pub returns-in-Some-of_number-clause-settles : goal.returns-in-Some-of_number-clause-settles
returns-in-Some-of_number-clause-settles c = λ registry schema t d h.
    let trip = to_z-of_z w128 c.args.number c.ranges.number in
    let own = ty c.in-Some.own in
    let alone : type_alone (Untyped c.args.number) ≡ Some own = ap literal_type (sym trip) ∙ sym c.in-Some.ensures in
    let is = c.in-Some-of_number.ensures.literal ∙ ap (λ m. LiteralOp own (IntValue m)) trip in
    literal_settles registry schema c.args.arena.now c.args.node.0 c.get.result.now c.in-Some-of_number.value c.args.number own alone c.get.ensures c.in-None.ensures is t d h

pub returns-in-Some-of_number-clause-closed : goal.returns-in-Some-of_number-clause-closed
returns-in-Some-of_number-clause-closed c =
    closed_put c.args.arena.now (c.args.node.0 ∷ []) c.args.arena.now c.args.node.0 (Literal c.in-Some-of_number.value) (tree_within c.args.arena.now c.args.node.0 c.requires.tree) tt (closed_start c.args.arena.now (c.args.node.0 ∷ []))

pub returns-in-Some-of_number-clause-adds : goal.returns-in-Some-of_number-clause-adds
returns-in-Some-of_number-clause-adds c = adds_nothing _ c.args.arena.now c.args.types.now

pub returns-in_ok-made-in-Some-alias-clause-settles : goal.returns-in_ok-made-in-Some-alias-clause-settles
returns-in_ok-made-in-Some-alias-clause-settles c = λ registry schema t d h.
    let trip = to_z-of_z w128 c.args.number c.ranges.number in
    let own = ty c.in-Some.own in
    let alone : type_alone (Untyped c.args.number) ≡ Some own = ap literal_type (sym trip) ∙ sym c.in-Some.ensures in
    let made = c.in_ok-made-in-Some-alias in
    let closed = made.ensures.adds.closed c.args.arena.now [] (omega arith) tt (closed_start c.args.arena.now []) in
    alias_settles registry schema c.args.arena.now c.number_under.new.arena c.args.node.0 c.in-Some-alias.below c.get.result.now made.made c.in-Some-alias.name.now c.in_ok-name-in-Some-alias.name c.args.number own alone c.get.ensures c.in-Some-alias.ensures c.in_ok-name-in-Some-alias.ensures.ok made.ensures.grows closed made.ensures.fresh (λ u e. subst (λ m. Denotes (HoldsFrom 0 c.number_under.new.arena) made.made.0 (renamed u (number_as m own))) trip (made.ensures.denotes 0 u zero-le e)) t d h

pub returns-in_ok-made-in-Some-alias-clause-closed : goal.returns-in_ok-made-in-Some-alias-clause-closed
returns-in_ok-made-in-Some-alias-clause-closed c =
    let made = c.in_ok-made-in-Some-alias in
    let roots = c.args.node.0 ∷ [] in
    let here = tree_within c.args.arena.now c.args.node.0 c.requires.tree in
    closed_put c.args.arena.now roots c.number_under.new.arena c.args.node.0 (Alias made.made c.in_ok-name-in-Some-alias.name) (omega (arith, here, length-grown c.args.arena.now c.number_under.new.arena made.ensures.grows)) (inl made.ensures.fresh, tt) (made.ensures.adds.closed c.args.arena.now roots (omega arith) tt (closed_start c.args.arena.now roots))

pub returns-in-Some-of_number-clause-once : goal.returns-in-Some-of_number-clause-once
returns-in-Some-of_number-clause-once c =
    bare_once c.args.arena.now c.args.arena.now c.args.node.0 (Literal c.in-Some-of_number.value) _ (expression_written c.args.arena.now c.args.node.0 (Literal c.in-Some-of_number.value) (tree_within c.args.arena.now c.args.node.0 c.requires.tree))

pub returns-in_ok-made-in-Some-alias-clause-once : goal.returns-in_ok-made-in-Some-alias-clause-once
returns-in_ok-made-in-Some-alias-clause-once c =
    let made = c.in_ok-made-in-Some-alias in
    let here = tree_within c.args.arena.now c.args.node.0 c.requires.tree in
    let item = Alias made.made c.in_ok-name-in-Some-alias.name in
    above_once c.args.arena.now c.number_under.new.arena c.args.node.0 made.made.0 item _ here (expression_written c.number_under.new.arena c.args.node.0 item (omega (arith, here, length-grown c.args.arena.now c.number_under.new.arena made.ensures.grows))) made.ensures.once
