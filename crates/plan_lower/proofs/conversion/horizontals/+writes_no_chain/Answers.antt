use Rattle.std.proofs.Common.{◌&&◌, map, not, ap, sym, ◌∙◌, arith}
use Rattle.std.specs.List.{list_all}
use Rattle.plan_dsl.specs.Expressions.{tree_of}
use Rattle.plan_dsl.specs.Sources.{unwritten}
use Rattle.plan_expand.specs.Walks.{operand_trees}
use Rattle.plan_expand.proofs.WalkLemmas.{none_of_plans, not_past, operand_below, plan_operands_are}
use Rattle.plan_lower.specs.Horizontals.{writes_no_chain}
use Rattle.plan_lower.proofs.HorizontalLemmas.{walk_start, walk_step}
use Rattle.plan_lower.proofs.conversion.horizontals.+writes_no_chain.Goals as goal

pub returns-in_default : goal.returns-in_default
returns-in_default t c = sym (ap writes_no_chain (none_of_plans (tree_of c.args.expr.now) c.in_default.ensures))

pub returns-then-is_chain : goal.returns-then-is_chain
returns-then-is_chain t c =
    let trees = operand_trees c.in-Some.operands in
    let walk = walk_start (tree_of c.args.expr.now) trees c.count_of-count.result c.in-Some.ensures c.count_of-count.ensures in
    sym (walk ∙ ap (λ b. not b && list_all writes_no_chain (map unwritten trees)) (sym c.is_chain.ensures ∙ c.if-is_chain.true))

pub loop-place-init : goal.loop-place-init
loop-place-init t c =
    let trees = operand_trees c.in-Some.operands in
    let walk = walk_start (tree_of c.args.expr.now) trees c.count_of-count.result c.in-Some.ensures c.count_of-count.ensures in
    walk ∙ ap (λ b. not b && list_all writes_no_chain (map unwritten trees)) (sym c.is_chain.ensures ∙ c.if-is_chain.false)

pub returns-in_default-operand_at : goal.returns-in_default-operand_at
returns-in_default-operand_at t c =
    absurd (not_past (operand_trees c.in-Some.operands) c.loop-place.place c.count_of-count.result c.count_of-count.ensures c.loop-place-test.true c.in_default-operand_at.ensures)

pub writes_no_chain-requires : goal.writes_no_chain-requires
writes_no_chain-requires t c =
    let source = tree_of c.args.expr.now in
    let trees = operand_trees c.in-Some.operands in
    let below = operand_below source trees c.loop-place.place (tree_of c.in-Some-operand_at.operand.now) (plan_operands_are source trees c.in-Some.ensures) c.in-Some-operand_at.ensures in
    (omega (arith, c.decreases, below), tt)

pub returns-then-not-writes_no_chain : goal.returns-then-not-writes_no_chain
returns-then-not-writes_no_chain t c =
    let step = walk_step (operand_trees c.in-Some.operands) c.loop-place.place (tree_of c.in-Some-operand_at.operand.now) _ c.in-Some-operand_at.ensures c.if-not-writes_no_chain.ensures in
    sym (c.loop-place.invariant ∙ step)

pub loop-place-preserved : goal.loop-place-preserved
loop-place-preserved t c =
    c.loop-place.invariant ∙ walk_step (operand_trees c.in-Some.operands) c.loop-place.place (tree_of c.in-Some-operand_at.operand.now) _ c.in-Some-operand_at.ensures c.if-not-writes_no_chain.ensures
