use Rattle.std.proofs.Common.{◌≡◌, Ok, true, [], ◌∷◌, refl, ap}
use Rattle.plan_types.specs.Types.{ty}
use Rattle.plan_dsl.specs.Coercion.{coerced}
use Rattle.plan_dsl.specs.InlinedCasts.{stays}
use Rattle.plan_dsl.specs.Ops.{CastOp}
use Rattle.plan_dsl.specs.Trees.{no_more, more}
use Rattle.plan_dsl.specs.Typing.{typing}
use Rattle.plan_arena.specs.Items.{expression_layer}
use Rattle.plan_arena.proofs.ItemLemmas.{expression_inputs, got_held, tree_within}
use Rattle.plan_coerce.proofs.ToldLemmas.{neither_stays, no_cast_item, not_cast_stays, told_cast, told_none, untold_stays}
use Rattle.plan_coerce.proofs.cast_inlining.may_go.Goals as goal

pub get-requires : goal.get-requires
get-requires c = tree_within c.args.arena.now c.args.node.0 c.requires

pub get-requires-in-Cast : goal.get-requires-in-Cast
get-requires-in-Cast c =
    let items = c.args.arena.now in
    let n = c.args.node.0 in
    let op = CastOp (ty c.in-Cast.dtype) c.in-Cast.options in
    let held = got_held items n c.get.result.now op (c.in-Cast.expr.0 ∷ []) c.get.ensures (ap expression_layer c.in-Cast.is) in
    tree_within items c.in-Cast.expr.0 (expression_inputs items n op (c.in-Cast.expr.0 ∷ []) held c.requires).0.0

pub returns-in-Cast : goal.returns-in-Cast
returns-in-Cast c = λ none registry schema t typed d h.
    let items = c.args.arena.now in
    let n = c.args.node.0 in
    let below = c.in-Cast.expr.0 in
    let target = ty c.in-Cast.dtype in
    let options = c.in-Cast.options in
    told_cast registry schema items n c.get.result.now c.get.ensures target options below (λ u. typing registry schema u ≡ Ok typed → stays (coerced registry schema u) ≡ true) (ap expression_layer c.in-Cast.is) (λ x held there is.
    let apart = c.may_be_told.ensures none in
    let untold = told_none registry schema items below c.get-in-Cast.result.now c.get-in-Cast.ensures apart.0 apart.1 x there in
    untold_stays registry schema (CastOp target options) (more x no_more) refl (neither_stays registry schema target options x typed is untold)) t d h

pub returns-in_default : goal.returns-in_default
returns-in_default c = λ none registry schema t typed d h.
    not_cast_stays registry schema c.args.arena.now c.args.node.0 c.get.result.now c.get.ensures (no_cast_item c.get.result.now c.in_default.not-Cast) t d
