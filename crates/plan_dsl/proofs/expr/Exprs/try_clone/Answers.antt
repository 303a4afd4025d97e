use Rattle.std.proofs.Common.{◌∙◌}
use Rattle.plan_dsl.specs.Expressions.{trees_of}
use Rattle.plan_dsl.proofs.ExprLemmas.{own_list}
use Rattle.plan_dsl.proofs.expr.Exprs.try_clone.Goals as goal

pub returns-clause-ok : goal.returns-clause-ok
returns-clause-ok c = c.in_ok-copy.ensures.ok ∙ own_list (trees_of c.args.self.now)
