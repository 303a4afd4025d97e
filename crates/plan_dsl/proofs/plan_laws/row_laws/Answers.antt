use Rattle.plan_dsl.proofs.FrameRowLemmas.{any_row_is_the_first, first_rows_stand_in_order, from_the_end, front_from_the_end, long_slices, one_row_of_one_key, rows_are_kept_once, slices_are_parts, sorts_have_the_rows, sorts_put_rows_in_order}
use Rattle.plan_dsl.proofs.GroupLemmas.{each_is_in_one_group, items_go_to_the_end}
use Rattle.plan_dsl.proofs.plan_laws.row_laws.Goals as goal

pub returns : goal.returns
returns c = record {
  slices = slices_are_parts;
  long_slices = long_slices;
  from_end = from_the_end;
  from_front = front_from_the_end;
  sorted = sorts_have_the_rows;
  in_order = sorts_put_rows_in_order;
  groups = (each_is_in_one_group, items_go_to_the_end);
  once = rows_are_kept_once;
  first = first_rows_stand_in_order;
  any = any_row_is_the_first;
  one_key = one_row_of_one_key;
}
