use Rattle.std.proofs.Common.{◌<◌, length, arith, inl, inr, ⊎_elim}
use Rattle.plan_types.specs.Schemas.{columns}
use Rattle.plan_dsl.specs.Registry.{registry}
use Rattle.plan_arena.specs.Items.{numbers}
use Rattle.plan_arena.proofs.ItemLemmas.{length-grown, tree_within}
use Rattle.plan_coerce.specs.Turns.{finds, places}
use Rattle.plan_coerce.proofs.StackLemmas.{pushed, pushed_one}
use Rattle.plan_coerce.proofs.TurnLemmas.{found_now, on_refusal, placed_keeps, placed_now, some_said}
use Rattle.plan_coerce.proofs.stack_opt.visit.Goals as goal

pub get-requires : goal.get-requires
get-requires g c =
    omega (arith, tree_within c.args.arena.now c.args.node.0 c.requires.tree, length-grown c.args.arena.now c.optimize_expr.new.expr_arena c.in_ok-optimize_expr.ensures.grows)

pub put_in_place-requires : goal.put_in_place-requires
put_in_place-requires g c =
    let there : c.args.node.0 < length c.optimize_expr.new.expr_arena = omega (arith, tree_within c.args.arena.now c.args.node.0 c.requires.tree, length-grown c.args.arena.now c.optimize_expr.new.expr_arena c.in_ok-optimize_expr.ensures.grows) in
    record { there = there }

pub returns-then-push_below-clause-ok : goal.returns-then-push_below-clause-ok
returns-then-push_below-clause-ok g c = finds
    (found_now _ _ _ _ _ _ _ _ _ c.in-None.is c.in_ok-optimize_expr.ensures.same c.in_ok-optimize_expr.ensures.answer)
    (pushed c.optimize_expr.new.expr_arena c.args.node.0 c.get.result.now (numbers c.args.stack.now.items) (numbers c.push_below.new.stack.items) c.get.ensures (c.push_below.ensures.ok c.if-push_below.true))
    c.tick.ensures

pub returns-in_ok-push-in-Some-clause-ok : goal.returns-in_ok-push-in-Some-clause-ok
returns-in_ok-push-in-Some-clause-ok g c =
    let made = c.in_ok-optimize_expr.ensures in
    places (placed_now _ _ _ _ _ _ _ _ _ _ _ _ c.in-Some.is made.grows c.put_in_place.ensures.item made.answer made.numbers made.reaches made.once) (pushed_one _ _ _ c.in_ok-push-in-Some.ensures.ok) (omega (arith, c.tick.ensures, c.tick-in-Some.ensures))

pub returns-in_ok-push-in-Some-clause-right : goal.returns-in_ok-push-in-Some-clause-right
returns-in_ok-push-in-Some-clause-right g c =
    c.put_in_place.ensures.right (registry c.args.udfs.now) (columns c.args.schema.now) (some_said _ _ c.in_ok-optimize_expr.field-0 c.in-Some.item c.in-Some.is c.in_ok-optimize_expr.ensures.placed)

pub returns-in_err-push-in-Some-clause-stopped : goal.returns-in_err-push-in-Some-clause-stopped
returns-in_err-push-in-Some-clause-stopped g c =
    let made = c.in_ok-optimize_expr.ensures in
    on_refusal c.from_residual-in_err-push-in-Some.result (inr (placed_now _ _ _ _ _ _ _ _ _ _ _ _ c.in-Some.is made.grows c.put_in_place.ensures.item made.answer made.numbers made.reaches made.once))

pub returns-in_err-push-in-Some-clause-right : goal.returns-in_err-push-in-Some-clause-right
returns-in_err-push-in-Some-clause-right g c =
    c.put_in_place.ensures.right (registry c.args.udfs.now) (columns c.args.schema.now) (some_said _ _ c.in_ok-optimize_expr.field-0 c.in-Some.item c.in-Some.is c.in_ok-optimize_expr.ensures.placed)

pub returns-then-push_below-clause-kept : goal.returns-then-push_below-clause-kept
returns-then-push_below-clause-kept g c = λ never.
    ⊎_elim (λ extends. inl extends) (λ f. absurd (f.0.0 c.in-None.is)) c.in_ok-optimize_expr.ensures.kept

pub returns-in_ok-push-in-Some-clause-kept : goal.returns-in_ok-push-in-Some-clause-kept
returns-in_ok-push-in-Some-clause-kept g c =
    let made = c.in_ok-optimize_expr.ensures in
    let r = registry c.args.udfs.now in
    let s = columns c.args.schema.now in
    let rule = g.R.OptimizationRule in
    placed_keeps (rule.forgets c.args.rule.now) (rule.settled c.args.rule.now r s) r s c.args.arena.now c.optimize_expr.new.expr_arena c.args.types.now c.optimize_expr.new.types c.put_in_place.new.types c.args.node.0 c.in_ok-optimize_expr.field-0 c.in-Some.item c.in-Some.is made.grows made.right made.kept made.numbers c.requires.tree c.put_in_place.ensures.kept
