use Rattle.std.proofs.Common.{◌++◌, map, ap, ◌∙◌}
use Rattle.plan_arena.specs.Items.{named_node}
use Rattle.plan_lower.proofs.conversion.coercion.stacked_all.Goals as goal

pub returns-clause-ok : goal.returns-clause-ok
returns-clause-ok c = c.in_ok-fill_roots.ensures.roots ∙ ap (λ l. l ++ map (λ e. (named_node e).expression) c.args.exprs.now) c.new-optimizer.ensures.roots
