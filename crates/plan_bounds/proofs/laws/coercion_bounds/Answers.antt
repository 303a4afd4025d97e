use Rattle.plan_bounds.proofs.CountLemmas.{written_casts, written_others, written_idle, settled_casts, settled_others, settled_idle}
use Rattle.plan_bounds.proofs.SpelledLemmas.{spelled_is_counted}
use Rattle.plan_bounds.proofs.StrictLemmas.{strict_plan_needs}
use Rattle.plan_bounds.proofs.WideLemmas.{plan_wide, written_wide}
use Rattle.plan_bounds.proofs.laws.coercion_bounds.Goals as goal

pub returns-clause-casts : goal.returns-clause-casts
returns-clause-casts c registry schema tree typed h = written_casts registry schema tree typed h

pub returns-clause-other_nodes : goal.returns-clause-other_nodes
returns-clause-other_nodes c registry schema tree typed h = written_others registry schema tree typed h

pub returns-clause-idle : goal.returns-clause-idle
returns-clause-idle c registry schema tree typed h = written_idle registry schema tree typed h

pub returns-clause-settled : goal.returns-clause-settled
returns-clause-settled c write registry schema tree = (settled_casts registry schema tree, settled_others registry schema write tree, settled_idle registry schema write tree)

pub returns-clause-taken : goal.returns-clause-taken
returns-clause-taken c = plan_wide

pub returns-clause-written : goal.returns-clause-written
returns-clause-written c = written_wide

pub returns-clause-spelled : goal.returns-clause-spelled
returns-clause-spelled c = spelled_is_counted

pub returns-clause-plans : goal.returns-clause-plans
returns-clause-plans c = strict_plan_needs
