use Rattle.std.proofs.Common.{◌≡◌, ◌∙◌, ◌+◌, ◌++◌, ap, arith, map, replicate}
use Rattle.plan_types.specs.ValueViews.{val_of}
use Rattle.plan_exec.proofs.ItemLemmas.{once_more}
use Rattle.plan_exec.proofs.explode.push_times.Goals as goal

pub loop-preserved : goal.loop-preserved
loop-preserved c =
    (once_more c.args.values.now.items c.loop.values.items c.push.new.self.items c.args.value c.in_ok-copy.copy c.loop.counter c.loop.invariant.0 c.in_ok-push.ensures.items (c.in_ok-copy.ensures.ok ∙ c.loop.invariant.1), c.loop.invariant.1)

pub returns-clause-ok : goal.returns-clause-ok
returns-clause-ok c =
    let many : c.loop.counter + 1 ≡ c.args.count = omega (arith, c.loop.auto.counter-end, c.loop-test.false, c.if-count-eq0.false) in
    once_more c.args.values.now.items c.loop.values.items c.push-2.new.self.items c.args.value _ c.loop.counter c.loop.invariant.0 c.in_ok-push-2.ensures.items c.loop.invariant.1 ∙ ap (λ n. map val_of c.args.values.now.items ++ replicate n (val_of c.args.value)) many
