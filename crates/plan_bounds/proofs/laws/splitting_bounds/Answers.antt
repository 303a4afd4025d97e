use Rattle.plan_bounds.proofs.PartLemmas.{split_casts, split_nodes, split_size, split_idle}
use Rattle.plan_bounds.proofs.WideLemmas.{split_wide}
use Rattle.plan_bounds.proofs.laws.splitting_bounds.Goals as goal

pub returns-clause-casts : goal.returns-clause-casts
returns-clause-casts c = split_casts

pub returns-clause-other_nodes : goal.returns-clause-other_nodes
returns-clause-other_nodes c = split_nodes

pub returns-clause-idle : goal.returns-clause-idle
returns-clause-idle c = split_idle

pub returns-clause-size : goal.returns-clause-size
returns-clause-size c = split_size

pub returns-clause-wide : goal.returns-clause-wide
returns-clause-wide c = split_wide
