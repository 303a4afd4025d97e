-- Laws of windows.
-- A window gives a value for each row. In each group of rows, which is put in order, the function is asked on the numbers of
-- the group's rows, and what it gives stands at the places of these, in turn. Of a column, which has a value of its own for
-- each row, a window gives that column, whatever the keys and the order.
use Rattle.std.specs.Prelude.{◌≡◌, ◌==◌, ◌||◌, ℕ, Bool, true, List, ◌∷◌, length, map, replicate, slice_get, Option, Some, None, IsTrue}
use Rattle.std.specs.List.{AllByRecursion, list_all}
use Rattle.plan_types.specs.Types.{Ty}
use Rattle.plan_types.specs.Values.{Val, NullValue, fits}
use Rattle.plan_types.specs.Frames.{Row}
use Rattle.plan_types.specs.Outcomes.{Outcome, Done, then_do}
use Rattle.plan_dsl.specs.declared.sort_options.SortOptions.{SortOptions}
use Rattle.plan_dsl.specs.Groups.{groups}
use Rattle.plan_dsl.specs.Kernels.{Meaning, for_rows, key_rows}
use Rattle.plan_dsl.specs.SortLaws.{IsSortOf}
use Rattle.plan_dsl.specs.Sorting.{comes_before}
use Rattle.plan_dsl.specs.Windows.{Spot, put_in_order, spots_from, window_values}

abbrev pub WindowsHaveAValueForEachRow : Type 0
WindowsHaveAValueForEachRow = (order : Option SortOptions) (function : Meaning) (rows : List ℕ) (columns : List (List Val)) (found : List Val) → window_values order function rows columns ≡ Done found → length found ≡ length rows

-- what rows in this order have among the values found: what the function gives on them, a value for each or one for all,
-- of which each stands at its row's place
pub record HaveWhatIsGiven (function : Meaning) (spots : List Spot) (found : List Val) : Type 0 where
  pub values : List Val
  pub given : then_do (function (map (λ spot. spot.number) spots)) (for_rows (length spots)) ≡ Done values
  pub placed : map (λ spot. slice_get found spot.place) spots ≡ map Some values

-- so it is in each group of rows, which have their keys, and are put in order by a value for each
pub record AreOfGroups (order : Option SortOptions) (function : Meaning) (rows : List ℕ) (by : Outcome (List Val)) (keys : List (List Val)) (found : List Val) : Type 0 where
  pub order_of_rows : List Val
  pub keys_of_rows : List Row
  pub order_is : by ≡ Done order_of_rows
  pub keys_are : key_rows (length rows) keys ≡ Done keys_of_rows
  pub order_each : length order_of_rows ≡ length rows
  pub keys_each : length keys_of_rows ≡ length rows
  pub in_groups : AllByRecursion (λ group. HaveWhatIsGiven function (put_in_order order group.items) found) (groups keys_of_rows (spots_from 0 rows order_of_rows))

-- of windows without an order, and of those with one
pub record RowsHaveWhatTheirGroupIsGiven : Type 0 where
  pub unordered : (function : Meaning) (rows : List ℕ) (keys : List (List Val)) (found : List Val) → window_values None function rows keys ≡ Done found → AreOfGroups None function rows (Done (replicate (length rows) NullValue)) keys found
  pub ordered : (options : SortOptions) (function : Meaning) (rows : List ℕ) (column : List Val) (keys : List (List Val)) (found : List Val) → window_values (Some options) function rows (column ∷ keys) ≡ Done found → AreOfGroups (Some options) function rows (for_rows (length rows) column) keys found

-- rows beside values of a type are sorted by these
abbrev pub GroupsArePutInOrder : Type 0
GroupsArePutInOrder = (options : SortOptions) (type : Ty) (spots : List Spot) → AllByRecursion (λ spot. fits spot.by type ≡ true) spots
    → IsSortOf (λ spot. fits spot.by type) (λ left right. comes_before options left.by right.by) spots (put_in_order (Some options) spots)

-- whether each of these columns has a value for each of so many rows, or a single one
abbrev pub are_for_rows : ℕ → List (List Val) → Bool
are_for_rows count columns = list_all (λ column. length column == count || length column == 1) columns

-- a function that has a value of its own for each row
abbrev pub of_each : (ℕ → Val) → Meaning
of_each value rows = Done (map value rows)

pub record WindowsOfColumnsAreTheColumns : Type 0 where
  pub unordered : (value : ℕ → Val) (rows : List ℕ) (keys : List (List Val)) → IsTrue (are_for_rows (length rows) keys) → window_values None (of_each value) rows keys ≡ of_each value rows
  pub ordered : (options : SortOptions) (value : ℕ → Val) (rows : List ℕ) (column : List Val) (keys : List (List Val)) → IsTrue (are_for_rows (length rows) (column ∷ keys)) → window_values (Some options) (of_each value) rows (column ∷ keys) ≡ of_each value rows
