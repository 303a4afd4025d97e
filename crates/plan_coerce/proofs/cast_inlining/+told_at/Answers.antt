use Rattle.std.proofs.Common.{◌≡◌, Ok, [], ◌∷◌, sym, ap, ◌∙◌, arith}
use Rattle.plan_types.specs.Types.{ty}
use Rattle.plan_dsl.specs.InlinedCasts.{is_cast_op, is_told_top}
use Rattle.plan_dsl.specs.Ops.{CastOp}
use Rattle.plan_dsl.specs.Typing.{typing}
use Rattle.plan_arena.specs.Items.{expression_layer}
use Rattle.plan_arena.proofs.ItemLemmas.{expression_inputs, got_held, tree_within}
use Rattle.plan_arena.specs.Layers.{op_of}
use Rattle.plan_coerce.specs.ToldCasts.{IsToldBy}
use Rattle.plan_coerce.proofs.ToldLemmas.{cast_below, other_item, told_cast, told_literal, told_logical, told_none}
use Rattle.plan_coerce.proofs.cast_inlining.+told_at.Goals as goal

pub get-requires : goal.get-requires
get-requires t c = tree_within c.args.arena.now c.args.node.0 c.requires

pub told_at-requires : goal.told_at-requires
told_at-requires t c =
    let items = c.args.arena.now in
    let n = c.args.node.0 in
    let held = got_held items n c.get.result.now (CastOp (ty c.in-Cast.dtype) c.in-Cast.options) (c.in-Cast.expr.0 ∷ []) c.get.ensures (ap expression_layer c.in-Cast.is) in
    let below = expression_inputs items n (CastOp (ty c.in-Cast.dtype) c.in-Cast.options) (c.in-Cast.expr.0 ∷ []) held c.requires in
    (omega (arith, c.decreases, below.0.1), below.0.0)

pub returns-in_ok-value-in-Literal-clause-ok : goal.returns-in_ok-value-in-Literal-clause-ok
returns-in_ok-value-in-Literal-clause-ok t c = λ registry schema tree typed d h.
    told_literal registry schema c.args.arena.now c.args.node.0 c.get.result.now c.get.ensures c.in-Literal.value c.in_ok-value-in-Literal.value (ap expression_layer c.in-Literal.is) c.in_ok-value-in-Literal.ensures.ok tree d

pub returns-then-is_logical-clause-ok : goal.returns-then-is_logical-clause-ok
returns-then-is_logical-clause-ok t c = λ registry schema tree typed d h.
    told_logical registry schema c.args.arena.now c.args.node.0 c.get.result.now c.get.ensures c.in-BinaryExpr.op _ (ap expression_layer c.in-BinaryExpr.is) (sym c.is_logical.ensures ∙ c.if-is_logical.true) tree typed d h

pub returns-else-is_logical-clause-ok : goal.returns-else-is_logical-clause-ok
returns-else-is_logical-clause-ok t c = λ registry schema tree typed d h.
    let layer_is = ap expression_layer c.in-BinaryExpr.is in
    told_none registry schema c.args.arena.now c.args.node.0 c.get.result.now c.get.ensures (ap (λ l. is_cast_op (op_of l)) layer_is) (ap (λ l. is_told_top (op_of l)) layer_is ∙ sym c.is_logical.ensures ∙ c.if-is_logical.false) tree d

pub returns-in_ok-cast-in-Cast-clause-ok : goal.returns-in_ok-cast-in-Cast-clause-ok
returns-in_ok-cast-in-Cast-clause-ok t c = λ registry schema tree typed d h.
    let items = c.args.arena.now in
    let n = c.args.node.0 in
    let target = ty c.in-Cast.dtype in
    let options = c.in-Cast.options in
    told_cast registry schema items n c.get.result.now c.get.ensures target options c.in-Cast.expr.0 (λ u. typing registry schema u ≡ Ok typed → IsToldBy registry schema items n u c.in_ok-cast-in-Cast.cast) (ap expression_layer c.in-Cast.is) (λ x held below is.
    let own = cast_below registry schema target options x typed is in
    c.in_ok-cast-in-Cast.ensures.ok registry schema items n c.in-Cast.expr.0 x typed held is (c.in_ok-told-in-Cast.ensures.ok registry schema x own.0 below own.1)) tree d h

pub returns-in_default-clause-ok : goal.returns-in_default-clause-ok
returns-in_default-clause-ok t c = λ registry schema tree typed d h.
    let other = other_item c.get.result.now c.in_default.not-Literal c.in_default.not-BinaryExpr c.in_default.not-Cast in
    told_none registry schema c.args.arena.now c.args.node.0 c.get.result.now c.get.ensures other.0 other.1 tree d
