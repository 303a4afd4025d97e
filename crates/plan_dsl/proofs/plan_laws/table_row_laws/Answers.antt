use Rattle.plan_dsl.proofs.RenameLemmas.{other_names_stay, renames_can_be_undone, the_last_name_counts}
use Rattle.plan_dsl.proofs.TableLawLemmas.{indexes_change_no_other, renames_keep_rows_and_types, rows_are_numbered, unpivots_give_a_row_for_each, unpivots_go_column_by_column, unpivots_keep_values}
use Rattle.plan_dsl.proofs.plan_laws.table_row_laws.Goals as goal

pub returns : goal.returns
returns c = record {
  numbered = rows_are_numbered;
  others = indexes_change_no_other;
  each_value = unpivots_give_a_row_for_each;
  by_column = unpivots_go_column_by_column;
  values = unpivots_keep_values;
  renamed = renames_keep_rows_and_types;
  other_names = other_names_stay;
  last_name = the_last_name_counts;
  undone = renames_can_be_undone;
}
