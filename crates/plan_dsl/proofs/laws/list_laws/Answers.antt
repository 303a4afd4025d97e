use Rattle.plan_dsl.proofs.ListLawLemmas.{aggregates_of_all, casts_of_each, columns_for_rows, filters_keep, frames_take, gather_each, groups_of_each, indices_are_places, members_found, one_is_less, operands_of_each, operators_each, parts_found, rows_have_columns, rows_of_each, series_of_each, shifts_move, slices_between}
use Rattle.std.proofs.lemmas.Grind.{flat_map-append}
use Rattle.plan_dsl.specs.Picks.{exploded}
use Rattle.plan_dsl.proofs.laws.list_laws.Goals as goal

pub returns-clause-aggregates : goal.returns-clause-aggregates
returns-clause-aggregates c = aggregates_of_all

pub returns-clause-members : goal.returns-clause-members
returns-clause-members c = members_found

pub returns-clause-gathered : goal.returns-clause-gathered
returns-clause-gathered c = gather_each

pub returns-clause-casts : goal.returns-clause-casts
returns-clause-casts c = casts_of_each

pub returns-clause-by_row : goal.returns-clause-by_row
returns-clause-by_row c = rows_of_each

pub returns-clause-operands : goal.returns-clause-operands
returns-clause-operands c = operands_of_each

pub returns-clause-series : goal.returns-clause-series
returns-clause-series c = series_of_each

pub returns-clause-groups : goal.returns-clause-groups
returns-clause-groups c = groups_of_each

pub returns-clause-operators : goal.returns-clause-operators
returns-clause-operators c = operators_each

pub returns-clause-for_rows : goal.returns-clause-for_rows
returns-clause-for_rows c = columns_for_rows

pub returns-clause-rows : goal.returns-clause-rows
returns-clause-rows c = rows_have_columns

pub returns-clause-filters : goal.returns-clause-filters
returns-clause-filters c = filters_keep

pub returns-clause-indices : goal.returns-clause-indices
returns-clause-indices c = indices_are_places

pub returns-clause-shifts : goal.returns-clause-shifts
returns-clause-shifts c = shifts_move

pub returns-clause-order : goal.returns-clause-order
returns-clause-order c = one_is_less

pub returns-clause-exploded : goal.returns-clause-exploded
returns-clause-exploded c = flat_map-append exploded

pub returns-clause-parts : goal.returns-clause-parts
returns-clause-parts c = parts_found

pub returns-clause-slices : goal.returns-clause-slices
returns-clause-slices c = slices_between

pub returns-clause-stacked : goal.returns-clause-stacked
returns-clause-stacked c = frames_take
