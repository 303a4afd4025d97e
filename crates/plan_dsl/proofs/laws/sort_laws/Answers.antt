use Rattle.plan_dsl.proofs.OrderLemmas.{by_keys_same, keys_in_order, rows_sorted, sorts_by_keys, values_in_order, values_sorted}
use Rattle.plan_dsl.proofs.laws.sort_laws.Goals as goal

pub returns-clause-order : goal.returns-clause-order
returns-clause-order c = values_in_order

pub returns-clause-key_order : goal.returns-clause-key_order
returns-clause-key_order c = keys_in_order

pub returns-clause-values : goal.returns-clause-values
returns-clause-values c = values_sorted

pub returns-clause-rows : goal.returns-clause-rows
returns-clause-rows c = rows_sorted

pub returns-clause-same : goal.returns-clause-same
returns-clause-same c = by_keys_same

pub returns-clause-keys : goal.returns-clause-keys
returns-clause-keys c = sorts_by_keys
