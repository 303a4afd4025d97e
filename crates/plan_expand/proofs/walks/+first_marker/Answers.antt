use Rattle.std.proofs.Common.{ap, sym, ◌∙◌, arith}
use Rattle.plan_dsl.specs.Expressions.{tree_of}
use Rattle.plan_expand.specs.Walks.{first_of, operand_trees}
use Rattle.plan_expand.proofs.WalkLemmas.{first_behind, first_found, markers_of_operands, not_past, operand_below}
use Rattle.plan_expand.proofs.walks.+first_marker.Goals as goal

pub loop-place-init : goal.loop-place-init
loop-place-init t c = ap first_of (markers_of_operands (tree_of c.args.expr.now) (operand_trees c.in-Some.operands) c.in-Some.ensures)

pub returns-in_err-operand : goal.returns-in_err-operand
returns-in_err-operand t c =
    absurd (not_past (operand_trees c.in-Some.operands) c.loop-place.place c.count_of-place-end.result c.count_of-place-end.ensures c.loop-place-test.true c.in_err-operand.ensures)

pub first_marker-requires : goal.first_marker-requires
first_marker-requires t c =
    let below = operand_below (tree_of c.args.expr.now) (operand_trees c.in-Some.operands) c.loop-place.place (tree_of c.in_ok-operand.operand.now) c.in-Some.ensures c.in_ok-operand.ensures in
    (omega (arith, c.decreases, below), tt)

pub returns-in-Some-first_marker : goal.returns-in-Some-first_marker
returns-in-Some-first_marker t c =
    first_found (operand_trees c.in-Some.operands) c.loop-place.place (tree_of c.in_ok-operand.operand.now) c.in_ok-operand.ensures (tree_of c.in-Some-first_marker.marker.now) c.in-Some-first_marker.ensures ∙ sym c.loop-place.invariant

pub loop-place-preserved : goal.loop-place-preserved
loop-place-preserved t c =
    c.loop-place.invariant ∙ first_behind (operand_trees c.in-Some.operands) c.loop-place.place (tree_of c.in_ok-operand.operand.now) c.in_ok-operand.ensures c.in_default-first_marker.ensures
