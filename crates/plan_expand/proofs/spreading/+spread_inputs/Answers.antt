use Rattle.std.proofs.Common.{◌<◌, subst, ◌∙◌, arith}
use Rattle.plan_types.proofs.ResultLemmas.{passed_on}
use Rattle.plan_types.specs.Schemas.{columns}
use Rattle.plan_dsl.specs.Expansion.{in_place}
use Rattle.plan_dsl.specs.Expressions.{tree_of}
use Rattle.plan_expand.proofs.ChangeLemmas.{changed_end, changed_refused, changed_start, changed_step, operand_less_deep, place_between, place_now, unmarked_count}
use Rattle.plan_expand.proofs.ExpansionLemmas.{refused_as}
use Rattle.plan_expand.proofs.SpreadLemmas.{operands_refused, own_then}
use Rattle.plan_expand.proofs.spreading.+spread_inputs.Goals as goal

pub loop-place-init : goal.loop-place-init
loop-place-init t c =
    let source = tree_of c.args.expr.now in
    changed_start (in_place c.args.keys.now.keys (columns c.args.schema.now)) source (unmarked_count source c.in-Some.count c.in-Some.ensures).0

pub swap_operand-requires : goal.swap_operand-requires
swap_operand-requires t c =
    let source = tree_of c.args.expr.now in
    let place = c.loop-place.place in
    place_now (in_place c.args.keys.now.keys (columns c.args.schema.now)) source (tree_of c.loop-place.expr) place c.loop-place.invariant (subst (λ n. place < n) (unmarked_count source c.in-Some.count c.in-Some.ensures).1 c.loop-place-test.true)

pub spread_inputs-spread-requires : goal.spread_inputs-spread-requires
spread_inputs-spread-requires t c =
    let placed = in_place c.args.keys.now.keys (columns c.args.schema.now) in
    let source = tree_of c.args.expr.now in
    let now = tree_of c.loop-place.expr in
    let place = c.loop-place.place in
    let operand = tree_of c.swap_operand.new.other in
    let less = operand_less_deep placed source now place c.loop-place.invariant operand c.swap_operand.ensures.other in
    omega (arith, c.decreases, less)

pub swap_operand-requires-in-loop-place : goal.swap_operand-requires-in-loop-place
swap_operand-requires-in-loop-place t c =
    place_between (in_place c.args.keys.now.keys (columns c.args.schema.now)) (tree_of c.args.expr.now) (tree_of c.loop-place.expr) c.loop-place.place c.loop-place.invariant (tree_of c.swap_operand.new.other) c.swap_operand.ensures.other (tree_of c.swap_operand.new.expr) _ c.swap_operand.ensures.expr

pub returns-in_err-spread-clause-err : goal.returns-in_err-spread-clause-err
returns-in_err-spread-clause-err t c =
    let placed = in_place c.args.keys.now.keys (columns c.args.schema.now) in
    let source = tree_of c.args.expr.now in
    passed_on c.from_residual.result c.in_err-spread.field-0.0 _ c.from_residual.ensures.1
    (operands_refused c.args.keys.now.keys (columns c.args.schema.now) source _ c.loop-place.invariant.marks (changed_refused placed source (tree_of c.loop-place.expr) c.loop-place.place c.loop-place.invariant (tree_of c.swap_operand.new.other) c.swap_operand.ensures.other _ c.in_err-spread.ensures.err))

pub loop-place-preserved : goal.loop-place-preserved
loop-place-preserved t c =
    changed_step (in_place c.args.keys.now.keys (columns c.args.schema.now)) (tree_of c.args.expr.now) (tree_of c.loop-place.expr) c.loop-place.place c.loop-place.invariant (tree_of c.swap_operand.new.other) c.swap_operand.ensures.other (tree_of c.swap_operand.new.expr) _ c.swap_operand.ensures.expr (tree_of c.spread_inputs-spread.new.expr) _ c.in_ok-spread.ensures.ok c.swap_operand-in-loop-place.ensures.expr

pub returns-in_err-spread_own-clause-err : goal.returns-in_err-spread_own-clause-err
returns-in_err-spread_own-clause-err t c =
    let placed = in_place c.args.keys.now.keys (columns c.args.schema.now) in
    let source = tree_of c.args.expr.now in
    let now = tree_of c.loop-place.expr in
    let done = changed_end placed source now c.loop-place.place c.loop-place.invariant c.in-Some.count (unmarked_count source c.in-Some.count c.in-Some.ensures).1 c.loop-place-test.false in
    passed_on c.from_residual-in_err-spread_own.result c.in_err-spread_own.field-0.0 _ c.from_residual-in_err-spread_own.ensures.1 (refused_as _ _ _ (own_then c.args.keys.now.keys (columns c.args.schema.now) source now c.loop-place.invariant.marks done) c.in_err-spread_own.ensures.err)

pub returns-clause-ok : goal.returns-clause-ok
returns-clause-ok t c =
    let placed = in_place c.args.keys.now.keys (columns c.args.schema.now) in
    let source = tree_of c.args.expr.now in
    let now = tree_of c.loop-place.expr in
    let done = changed_end placed source now c.loop-place.place c.loop-place.invariant c.in-Some.count (unmarked_count source c.in-Some.count c.in-Some.ensures).1 c.loop-place-test.false in
    own_then c.args.keys.now.keys (columns c.args.schema.now) source now c.loop-place.invariant.marks done ∙ c.in_ok-spread_own.ensures.ok
