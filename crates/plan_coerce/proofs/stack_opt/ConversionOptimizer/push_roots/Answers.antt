use Rattle.std.proofs.Common.{length, refl, sym, ap, ◌∙◌, arith}
use Rattle.std.proofs.lemmas.List.{append-nil, length_push}
use Rattle.plan_coerce.specs.Optimizer.{roots_of}
use Rattle.plan_coerce.proofs.StackLemmas.{pushed_one, roots_next}
use Rattle.plan_coerce.proofs.stack_opt.ConversionOptimizer.push_roots.Goals as goal

pub loop-expr-init : goal.loop-expr-init
loop-expr-init c = record { roots = sym (append-nil (roots_of c.args.self.now)); stacked = refl; room = omega (arith, c.requires) }

pub loop-expr-preserved : goal.loop-expr-preserved
loop-expr-preserved c =
    let before = c.loop-expr.invariant in
    let nodes = c.loop-expr.self.roots.items in
    let longer = ap length c.push_reserved.ensures.items ∙ length_push nodes c.node.result in
    record {
      roots = roots_next c.args.exprs.now c.loop-expr.expr-index c.expr-item.result c.loop-expr-test.true c.expr-item.is (roots_of c.args.self.now) (roots_of c.loop-expr.self) _ c.node.result.0 c.node.ensures before.roots (pushed_one nodes c.push_reserved.new.self.items c.node.result c.push_reserved.ensures.items);
      stacked = before.stacked;
      room = omega (arith, before.room, longer, c.push_reserved.ensures.capacity);
    }
