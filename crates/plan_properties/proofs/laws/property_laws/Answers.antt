use Rattle.plan_properties.proofs.ElementwiseLemmas.{elementwise_goes_by_rows}
use Rattle.plan_properties.proofs.HarmlessLemmas.{pushdowns_have_no_fault}
use Rattle.plan_properties.proofs.RowLemmas.{rows_decide}
use Rattle.plan_properties.proofs.ScalarLemmas.{scalars_have_one_value}
use Rattle.plan_properties.proofs.laws.property_laws.Goals as goal

pub returns-clause-scalar : goal.returns-clause-scalar
returns-clause-scalar c = scalars_have_one_value

pub returns-clause-pushdown : goal.returns-clause-pushdown
returns-clause-pushdown c = pushdowns_have_no_fault

pub returns-clause-elementwise : goal.returns-clause-elementwise
returns-clause-elementwise c = elementwise_goes_by_rows

pub returns-clause-rows : goal.returns-clause-rows
returns-clause-rows c = rows_decide
