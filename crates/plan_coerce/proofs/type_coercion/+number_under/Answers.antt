use Rattle.plan_coerce.proofs.OnceLemmas.{put_over_new}
use Rattle.plan_coerce.proofs.RightLemmas.{kept_within}
use Rattle.std.proofs.Common.{◌≤◌, [], ◌∷◌, Some, length, ap, ◌∙◌, sym, subst, arith, inl}
use Rattle.std.specs.Int.{w128}
use Rattle.std.proofs.lemmas.Int.{to_z-of_z}
use Rattle.plan_types.specs.Types.{Untyped, ty}
use Rattle.plan_dsl.specs.Trees.{node, no_more, more}
use Rattle.plan_dsl.specs.Ops.{AliasOp}
use Rattle.plan_dsl.specs.Strictness.{CanBecome, number_as}
use Rattle.plan_dsl.specs.Aliases.{renamed}
use Rattle.plan_arena.specs.Denotation.{Denotes}
use Rattle.plan_arena.specs.Items.{HoldsFrom}
use Rattle.plan_arena.proofs.ItemLemmas.{expression_got, expression_inputs, grows_then, length-grown, tree_within}
use Rattle.plan_infer.proofs.TableLemmas.{extends_then}
use Rattle.plan_coerce.proofs.CoercionLemmas.{not_renamed, under_alias}
use Rattle.plan_coerce.proofs.type_coercion.+number_under.Goals as goal

pub get-requires : goal.get-requires
get-requires t c = tree_within c.args.arena.now c.args.node.0 c.requires.tree

pub number_under-requires : goal.number_under-requires
number_under-requires t c =
    let held = expression_got c.args.arena.now c.args.node.0 c.get.result.now c.get.ensures ∙ ap Some c.in-Some.ensures in
    let below = (expression_inputs c.args.arena.now c.args.node.0 (AliasOp c.in-Some.name.now) (c.in-Some.below.0 ∷ []) held c.requires.tree).0 in
    let trip = to_z-of_z w128 c.args.number c.ranges.number in
    (omega (arith, c.decreases, below.1), (below.0, subst (λ m. CanBecome (Untyped m) (ty c.args.target)) (sym trip) c.requires.becomes))

pub returns-in_ok-made-in-None-clause-denotes : goal.returns-in_ok-made-in-None-clause-denotes
returns-in_ok-made-in-None-clause-denotes t c = λ first tree le d.
    let other = number_as c.args.number (ty c.args.target) in
    let is = not_renamed first c.args.arena.now c.args.node.0 c.get.result.now tree other c.get.ensures c.in-None.ensures d in
    subst (Denotes (HoldsFrom first c.number_to.new.arena) c.in_ok-made-in-None.made.0) (ap (λ m. number_as m (ty c.args.target)) (to_z-of_z w128 c.args.number c.ranges.number) ∙ sym is) (c.in_ok-made-in-None.ensures.denotes first le)

pub returns-in_ok-alias-in-Some-clause-denotes :
    goal.returns-in_ok-alias-in-Some-clause-denotes
returns-in_ok-alias-in-Some-clause-denotes t c = λ first tree le d.
    let other = number_as c.args.number (ty c.args.target) in
    let under = under_alias first c.args.arena.now c.args.node.0 c.in-Some.below.0 c.get.result.now c.in-Some.name.now tree other c.get.ensures c.in-Some.ensures d in
    let later : first ≤ length c.number_under.new.arena = omega (arith, le, length-grown c.args.arena.now c.number_under.new.arena c.in_ok-made-in-Some.ensures.grows) in
    let trip = to_z-of_z w128 c.args.number c.ranges.number in
    let made = subst (λ m. Denotes (HoldsFrom first c.number_under.new.arena) c.in_ok-made-in-Some.made.0 (renamed under.0 (number_as m (ty c.args.target)))) trip (c.in_ok-made-in-Some.ensures.denotes first under.0 le under.2) in
    let named = c.in_ok-alias-in-Some.ensures.denotes first (renamed under.0 other) later made in
    subst (Denotes (HoldsFrom first c.add_alias.new.arena) c.in_ok-alias-in-Some.alias.0) (ap (λ name. node (AliasOp name) (more (renamed under.0 other) no_more)) (c.in_ok-name-in-Some.ensures.ok) ∙ sym under.1) named

pub returns-in_ok-alias-in-Some-clause-grows : goal.returns-in_ok-alias-in-Some-clause-grows
returns-in_ok-alias-in-Some-clause-grows t c =
    grows_then c.args.arena.now c.number_under.new.arena c.add_alias.new.arena c.in_ok-made-in-Some.ensures.grows c.in_ok-alias-in-Some.ensures.grows

pub returns-in_ok-alias-in-Some-clause-adds : goal.returns-in_ok-alias-in-Some-clause-adds
returns-in_ok-alias-in-Some-clause-adds t c =
    let mid = c.number_under.new.arena in
    let made = c.in_ok-made-in-Some in
    let adds = made.ensures.adds in
    let alias = c.in_ok-alias-in-Some.ensures in
    record {
      right = λ registry schema right. alias.right registry schema (adds.right registry schema right);
      closed = λ start roots le near closed. alias.closed start roots (inl (omega (arith, le, made.ensures.fresh))) (adds.closed start roots le near closed);
      added = λ registry schema start le right before.
          let right' = adds.right registry schema right in
          let before' = adds.added registry schema start le right before in
          let within = kept_within mid c.number_under.new.types made.made.0 (record { registry = registry; schema = schema; right = right' }) made.ensures.kept in
          let strict = before' made.made.0 (omega (arith, le, made.ensures.fresh)) within in
          alias.added registry schema start (omega (arith, le, length-grown c.args.arena.now mid made.ensures.grows)) right' strict.0 before';
      extends = extends_then c.args.types.now c.number_under.new.types c.add_alias.new.types adds.extends alias.extends;
    }

pub returns-in_ok-alias-in-Some-clause-once : goal.returns-in_ok-alias-in-Some-clause-once
returns-in_ok-alias-in-Some-clause-once t c =
    let made = c.in_ok-made-in-Some in
    put_over_new c.args.arena.now c.number_under.new.arena c.add_alias.new.arena made.made.0 c.in_ok-alias-in-Some.alias.0 (length-grown c.args.arena.now c.number_under.new.arena made.ensures.grows) made.ensures.once c.in_ok-alias-in-Some.ensures.once
