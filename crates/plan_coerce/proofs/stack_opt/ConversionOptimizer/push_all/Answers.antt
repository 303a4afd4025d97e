use Rattle.std.proofs.Common.{◌<◌, length, sym, ◌∙◌, subst}
use Rattle.std.proofs.lemmas.List.{append-nil}
use Rattle.plan_arena.proofs.NumberLemmas.{all_there}
use Rattle.plan_coerce.specs.Optimizer.{roots_of, stacked}
use Rattle.plan_coerce.proofs.StackLemmas.{expr_there, roots_next, stacked_next}
use Rattle.plan_coerce.proofs.stack_opt.ConversionOptimizer.push_all.Goals as goal

pub loop-expr-init : goal.loop-expr-init
loop-expr-init c = record { roots = sym (append-nil (roots_of c.args.self.now)); stacked = sym (append-nil (stacked c.args.self.now)) }

pub push_scratch-requires : goal.push_scratch-requires
push_scratch-requires c =
    let there = expr_there c.args.exprs.now c.loop-expr.expr-index c.expr-item.result c.loop-expr-test.true c.expr-item.is in
    subst (λ n. n < length c.args.expr_arena.now) (sym c.node.ensures) (all_there (λ n. n < length c.args.expr_arena.now) _ c.requires c.loop-expr.expr-index _ there)

pub loop-expr-preserved : goal.loop-expr-preserved
loop-expr-preserved c = record {
  roots = roots_next c.args.exprs.now c.loop-expr.expr-index c.expr-item.result c.loop-expr-test.true c.expr-item.is (roots_of c.args.self.now) (roots_of c.loop-expr.self) (roots_of c.push_scratch.new.self) c.node.result.0 c.node.ensures c.loop-expr.invariant.roots c.in_ok-push_scratch.ensures.roots;
  stacked = stacked_next c.args.exprs.now c.loop-expr.expr-index c.expr-item.result c.loop-expr-test.true c.expr-item.is c.args.expr_arena.now (stacked c.args.self.now) (stacked c.loop-expr.self) (stacked c.push_scratch.new.self) c.node.result.0 c.node.ensures c.loop-expr.invariant.stacked c.in_ok-push_scratch.ensures.stacked;
}

pub returns-in_err-push_scratch-clause-more_roots : goal.returns-in_err-push_scratch-clause-more_roots
returns-in_err-push_scratch-clause-more_roots c = record { added = _; longer = c.in_err-push_scratch.ensures.same_roots ∙ c.loop-expr.invariant.roots }

pub returns-in_err-push_scratch-clause-more : goal.returns-in_err-push_scratch-clause-more
returns-in_err-push_scratch-clause-more c = record { added = _; longer = c.in_err-push_scratch.ensures.same_stack ∙ c.loop-expr.invariant.stacked }
