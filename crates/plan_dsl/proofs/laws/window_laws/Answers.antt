use Rattle.plan_dsl.proofs.WindowLemmas.{value_for_each_row}
use Rattle.plan_dsl.proofs.WindowValueLemmas.{groups_in_order, rows_have_what_is_given, windows_of_columns}
use Rattle.plan_dsl.proofs.laws.window_laws.Goals as goal

pub returns : goal.returns
returns c = record { each_row = value_for_each_row; groups = rows_have_what_is_given; order = groups_in_order; columns = windows_of_columns }
