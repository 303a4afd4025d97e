use Rattle.std.proofs.Common.{sym, ◌∙◌, arith}
use Rattle.plan_dsl.specs.Expressions.{tree_of}
use Rattle.plan_expand.specs.Walks.{operand_trees}
use Rattle.plan_expand.proofs.WalkLemmas.{not_past, operand_below, plan_operands_are, root_behind, root_found, root_of_operands}
use Rattle.plan_expand.proofs.walks.+root_name.Goals as goal

pub loop-place-init : goal.loop-place-init
loop-place-init t c =
    sym (root_of_operands c.args.expr.now (operand_trees c.in_ok-operands.operands) c.in_ok-operands.ensures c.in_default.not-Column)

pub returns-in_err-operand : goal.returns-in_err-operand
returns-in_err-operand t c =
    absurd (not_past (operand_trees c.in_ok-operands.operands) c.loop-place.place c.count_of-place-end.result c.count_of-place-end.ensures c.loop-place-test.true c.in_err-operand.ensures)

pub root_name-requires : goal.root_name-requires
root_name-requires t c =
    let below = operand_below (tree_of c.args.expr.now) (operand_trees c.in_ok-operands.operands) c.loop-place.place (tree_of c.in_ok-operand.operand.now) (plan_operands_are (tree_of c.args.expr.now) (operand_trees c.in_ok-operands.operands) c.in_ok-operands.ensures) c.in_ok-operand.ensures in
    (omega (arith, c.decreases, below), tt)

pub returns-in-Some : goal.returns-in-Some
returns-in-Some t c =
    root_found (operand_trees c.in_ok-operands.operands) c.loop-place.place (tree_of c.in_ok-operand.operand.now) c.in_ok-operand.ensures c.in-Some.name.now c.in-Some.ensures ∙ sym c.loop-place.invariant

pub loop-place-preserved : goal.loop-place-preserved
loop-place-preserved t c =
    c.loop-place.invariant ∙ root_behind (operand_trees c.in_ok-operands.operands) c.loop-place.place (tree_of c.in_ok-operand.operand.now) c.in_ok-operand.ensures c.in_default-root_name.ensures
