-- Laws of columns in order: a sorted column has the values of its input, as often, in order, and those of which none comes
-- before the other in the order in which the input has them.
use Rattle.std.specs.Prelude.{◌≡◌, Bool, true, false, ◌&&◌, List, [], ◌∷◌, length, map, IsTrue, IsPermutation, zip}
use Rattle.std.specs.List.{AllByRecursion, filter, list_all}
use Rattle.std.specs.List.Sorted.{ties}
use Rattle.plan_types.specs.Types.{Ty}
use Rattle.plan_types.specs.Values.{Val, all_fit, fits}
use Rattle.plan_types.specs.Frames.{Row}
use Rattle.plan_types.specs.Outcomes.{Done}
use Rattle.plan_dsl.specs.declared.sort_options.SortOptions.{SortOptions}
use Rattle.plan_dsl.specs.Kernels.{key_rows, sort_by_values}
use Rattle.plan_dsl.specs.Sorting.{comes_before, key_options, keys_before, sort_values, sorted_rows}

-- the test puts items of a class in an order: of two at most one comes before the other, and where x doesn't come before y,
-- nor y before z, x doesn't come before z
pub record IsOrderOf {A : Type 0} (class : A → Bool) (before : A → A → Bool) : Type 0 where
  pub one_way : (x y : A) → class x ≡ true → class y ≡ true → before x y ≡ true → before y x ≡ false
  pub chain : (x y z : A) → class x ≡ true → class y ≡ true → class z ≡ true → before x y ≡ false → before y z ≡ false → before x z ≡ false

-- no item comes before one that stands in front of it
abbrev pub IsInOrder : {A : Type 0} → (A → A → Bool) → List A → Type 0
IsInOrder before [] = Unit {0}
IsInOrder before (item ∷ later) = AllByRecursion (λ other. before other item ≡ false) later × IsInOrder before later

-- items that were put in order: those that tie with an item of the class stay as they stood
pub record IsSortOf {A : Type 0} (class : A → Bool) (before : A → A → Bool) (items found : List A) : Type 0 where
  pub same : IsPermutation items found
  pub in_order : IsInOrder before found
  pub stable : (item : A) → class item ≡ true → filter (ties before item) found ≡ filter (ties before item) items

-- whether keys fit these types, one by one
abbrev pub keys_fit : List Ty → List Val → Bool
keys_fit [] [] = true
keys_fit [] (key ∷ keys) = false
keys_fit (type ∷ types) [] = false
keys_fit (type ∷ types) (key ∷ keys) = fits key type && keys_fit types keys

-- values of a type are in an order, and so are keys of types
abbrev pub ValuesHaveAnOrder : Type 0
ValuesHaveAnOrder = (options : SortOptions) (type : Ty) → IsOrderOf (λ value. fits value type) (comes_before options)

abbrev pub KeysHaveAnOrder : Type 0
KeysHaveAnOrder = (options : List SortOptions) (types : List Ty) → IsOrderOf (keys_fit types) (keys_before options)

-- a sort of values of a type
abbrev pub ValuesAreSorted : Type 0
ValuesAreSorted = (options : SortOptions) (type : Ty) (values : List Val) → IsTrue (all_fit values type) → IsSortOf (λ value. fits value type) (comes_before options) values (sort_values options values)

-- a sort of values, each beside its keys, which are of these types
abbrev pub RowsAreSorted : Type 0
RowsAreSorted = (options : List SortOptions) (types : List Ty) (keys : List (List Val)) (values : List Val) → IsTrue (list_all (keys_fit types) keys)
    → IsSortOf (λ row. keys_fit types row.1) (λ left right. keys_before options left.1 right.1) (zip values keys) (sorted_rows options keys values)

-- whether columns of keys are of these types, one by one
abbrev pub columns_fit : List Ty → List (List Val) → Bool
columns_fit [] [] = true
columns_fit [] (key ∷ keys) = false
columns_fit (type ∷ types) [] = false
columns_fit (type ∷ types) (key ∷ keys) = all_fit key type && columns_fit types keys

-- what a sort by columns of keys gives: the values, each beside its keys, sorted by these
pub record IsSortByKeys (options : List SortOptions) (types : List Ty) (values : List Val) (keys : List (List Val)) (found : List Val) : Type 0 where
  pub rows : List Row
  pub beside : key_rows (length values) keys ≡ Done rows
  pub as_many : length rows ≡ length values
  pub sorted : IsSortOf (λ row. keys_fit types row.1) (λ left right. keys_before options left.1 right.1) (zip values rows) (sorted_rows options rows values)
  pub found_is : found ≡ map (λ row. row.0) (sorted_rows options rows values)

abbrev pub SortsByKeysAreSorted : Type 0
SortsByKeysAreSorted = (descending nulls_last : List Bool) (types : List Ty) (values : List Val) (keys : List (List Val)) (found : List Val) → IsTrue (columns_fit types keys) → sort_by_values descending nulls_last values keys ≡ Done found
    → IsSortByKeys (key_options (length keys) descending nulls_last) types values keys found

-- a sort by keys gives the values of its input, whatever the keys
abbrev pub SortedByKeysAreTheSame : Type 0
SortedByKeysAreTheSame = (descending nulls_last : List Bool) (values : List Val) (keys : List (List Val)) (found : List Val) → sort_by_values descending nulls_last values keys ≡ Done found → IsPermutation values found
