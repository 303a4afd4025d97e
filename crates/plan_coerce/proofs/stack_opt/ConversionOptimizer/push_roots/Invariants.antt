use Rattle.std.proofs.Common.{◌≡◌, ◌++◌, ◌+◌, ◌≤◌, length, map, take}
use Rattle.plan_arena.specs.Items.{named_node}
use Rattle.plan_coerce.specs.Optimizer.{roots_of, stacked}
use Rattle.plan_coerce.proofs.stack_opt.ConversionOptimizer.push_roots.Given as goal

abbrev pub invariant-loop-expr : goal.invariant-loop-expr
invariant-loop-expr l = record {
  roots : roots_of l.self ≡ roots_of l.initial.self ++ map (λ e. (named_node e).expression) (take l.expr-index l.exprs);
  stacked : stacked l.self ≡ stacked l.initial.self;
  room : length l.self.roots.items + length l.exprs ≤ l.self.roots.capacity + l.expr-index;
}
