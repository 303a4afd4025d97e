use Rattle.plan_dsl.proofs.ExprLemmas.{exclude_fed}
use Rattle.plan_dsl.proofs.expr.Expr.feed_own.Goals as goal

pub returns-in-Exclude : goal.returns-in-Exclude
returns-in-Exclude g c = exclude_fed g.H.Hasher.write c.args.state.now c.in-Exclude.field-0 c.in-Exclude.excluded c.in-Exclude.is c.write_u8-in-Exclude.ensures c.hash-in-Exclude.ensures
