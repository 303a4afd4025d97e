use Rattle.std.proofs.Common.{ap, sym, ◌∙◌, arith}
use Rattle.std.specs.List.{list_all}
use Rattle.plan_dsl.specs.Expressions.{tree_of}
use Rattle.plan_dsl.specs.Sources.{same_source}
use Rattle.plan_expand.specs.Walks.{operand_trees}
use Rattle.plan_expand.proofs.WalkLemmas.{markers_of_operands, not_past, only_behind, operand_below, other_found}
use Rattle.plan_expand.proofs.walks.+has_only.Goals as goal

pub loop-place-init : goal.loop-place-init
loop-place-init t c =
    ap (list_all (same_source (tree_of c.args.marker.now))) (markers_of_operands (tree_of c.args.expr.now) (operand_trees c.in-Some.operands) c.in-Some.ensures)

pub returns-in_default-operand_at : goal.returns-in_default-operand_at
returns-in_default-operand_at t c =
    absurd (not_past (operand_trees c.in-Some.operands) c.loop-place.place c.count_of-place-end.result c.count_of-place-end.ensures c.loop-place-test.true c.in_default-operand_at.ensures)

pub has_only-requires : goal.has_only-requires
has_only-requires t c =
    let below = operand_below (tree_of c.args.expr.now) (operand_trees c.in-Some.operands) c.loop-place.place (tree_of c.in-Some-operand_at.operand.now) c.in-Some.ensures c.in-Some-operand_at.ensures in
    (omega (arith, c.decreases, below), tt)

pub returns-then-not-has_only : goal.returns-then-not-has_only
returns-then-not-has_only t c =
    other_found (operand_trees c.in-Some.operands) c.loop-place.place (tree_of c.in-Some-operand_at.operand.now) c.in-Some-operand_at.ensures (same_source (tree_of c.args.marker.now)) c.if-not-has_only.ensures ∙ sym c.loop-place.invariant

pub loop-place-preserved : goal.loop-place-preserved
loop-place-preserved t c =
    c.loop-place.invariant ∙ only_behind (operand_trees c.in-Some.operands) c.loop-place.place (tree_of c.in-Some-operand_at.operand.now) c.in-Some-operand_at.ensures (same_source (tree_of c.args.marker.now)) c.if-not-has_only.ensures
