use Rattle.std.proofs.Common.{sym, ap, ◌∙◌}
use Rattle.plan_dsl.specs.InlinedCasts.{is_cast_op, is_told_top}
use Rattle.plan_arena.specs.Items.{expression_layer}
use Rattle.plan_arena.specs.Layers.{op_of}
use Rattle.plan_coerce.proofs.ToldLemmas.{other_item}
use Rattle.plan_coerce.proofs.cast_inlining.may_be_told.Goals as goal

pub returns-in-BinaryExpr : goal.returns-in-BinaryExpr
returns-in-BinaryExpr c = λ none.
    let layer_is = ap expression_layer c.in-BinaryExpr.is in
    (ap (λ l. is_cast_op (op_of l)) layer_is, ap (λ l. is_told_top (op_of l)) layer_is ∙ sym c.is_logical.ensures ∙ none)

pub returns-in_default : goal.returns-in_default
returns-in_default c = λ none. other_item c.args.item.now c.in_default.not-Literal c.in_default.not-BinaryExpr c.in_default.not-Cast
