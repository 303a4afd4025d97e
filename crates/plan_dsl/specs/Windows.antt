-- Windows.
-- Rows are in groups by their keys, and each group is put in order. A function is asked on the rows of each group, and gives
-- a value for each of them, or a single one that is repeated. The values go to the places of their rows. Without rows there
-- is no group, and nothing is asked.
use Rattle.std.specs.Prelude.{ℕ, suc, List, [], ◌∷◌, ◌++◌, ◌==◌, map, length, replicate, zip, Option, Some, None, if◌then◌else◌}
use Rattle.std.specs.List.{range_with_len}
use Rattle.plan_types.specs.Values.{Val, NullValue}
use Rattle.plan_types.specs.Outcomes.{Outcome, Done, Stuck, then_do}
use Rattle.plan_dsl.specs.declared.sort_options.SortOptions.{SortOptions}
use Rattle.plan_dsl.specs.Groups.{Group, groups}
use Rattle.plan_dsl.specs.Kernels.{Meaning, for_rows, key_rows}
use Rattle.plan_dsl.specs.Sorting.{comes_before, sorted}

-- a row among others: its place there, its number in the frame, and the value by which it is put in order
pub record Spot : Type 0 where
  pub place : ℕ
  pub number : ℕ
  pub by : Val

-- rows from a place on, each with the value beside it
abbrev pub spots_from : ℕ → List ℕ → List Val → List Spot
spots_from place [] by = []
spots_from place (number ∷ rows) [] = []
spots_from place (number ∷ rows) (value ∷ by) = record { place = place; number = number; by = value } ∷ spots_from (suc place) rows by

-- in order, if there is one
abbrev pub put_in_order : Option SortOptions → List Spot → List Spot
put_in_order None spots = spots
put_in_order (Some options) spots = sorted (λ left right. comes_before options left.by right.by) spots

-- what the function gives on the rows of a group, each value with the place of its row
abbrev pub on_group : Meaning → List Spot → Outcome (List (ℕ × Val))
on_group function spots =
    then_do (function (map (λ spot. spot.number) spots)) (λ values. then_do (for_rows (length spots) values) (λ column. Done (zip (map (λ spot. spot.place) spots) column)))

abbrev pub on_groups : Option SortOptions → Meaning → List (Group Spot) → Outcome (List (ℕ × Val))
on_groups order function [] = Done []
on_groups order function (group ∷ rest) =
    then_do (on_group function (put_in_order order group.items)) (λ first. then_do (on_groups order function rest) (λ others. Done (first ++ others)))

-- the value that has this place
abbrev pub value_at : List (ℕ × Val) → ℕ → Val
value_at [] place = NullValue
value_at (first ∷ rest) place = if first.0 == place then first.1 else value_at rest place

-- a function over the groups of rows, of which each stands beside a value by which it is put in order, by columns of keys
abbrev pub over_keys : Option SortOptions → Meaning → List ℕ → List Val → List (List Val) → Outcome (List Val)
over_keys order function rows by keys =
    then_do (key_rows (length rows) keys) (λ each. then_do (on_groups order function (groups each (spots_from 0 rows by))) (λ placed. Done (map (value_at placed) (range_with_len 0 (length rows)))))

-- what a window gives: of columns of keys, behind that by which rows are put in order, if there is one
abbrev pub window_values : Option SortOptions → Meaning → List ℕ → List (List Val) → Outcome (List Val)
window_values None function rows keys = over_keys None function rows (replicate (length rows) NullValue) keys
window_values (Some options) function rows (column ∷ keys) = then_do (for_rows (length rows) column) (λ by. over_keys (Some options) function rows by keys)
window_values (Some options) function rows [] = Stuck
