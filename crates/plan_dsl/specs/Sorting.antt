-- Sorted columns.
-- Values are in the order of comparisons: false before true, numbers by size, texts by their bytes; from the greatest on
-- where a column descends. Nulls come first or last, whichever way the others go. What none comes before stays in order.
use Rattle.std.specs.Prelude.{ℕ, Bool, false, not, ◌&&◌, ◌||◌, ◌==◌, List, [], ◌∷◌, length, replicate, map, zip, if◌then◌else◌}
use Rattle.plan_types.specs.Values.{Val, NullValue}
use Rattle.plan_dsl.specs.declared.sort_options.SortOptions.{SortOptions}
use Rattle.plan_dsl.specs.Operators.{is_less}

-- whether a value comes before another in a column that is sorted so
abbrev pub comes_before : SortOptions → Val → Val → Bool
comes_before options NullValue NullValue = false
comes_before options NullValue value = not options.nulls_last
comes_before options value NullValue = options.nulls_last
comes_before options left right = if options.descending then is_less right left else is_less left right

-- an item put behind those that come before it, and in front of all others
abbrev pub inserted : {A : Type 0} → (A → A → Bool) → A → List A → List A
inserted before item [] = item ∷ []
inserted before item (first ∷ rest) = if before first item then first ∷ inserted before item rest else item ∷ first ∷ rest

-- items in order
abbrev pub sorted : {A : Type 0} → (A → A → Bool) → List A → List A
sorted before [] = []
sorted before (item ∷ items) = inserted before item (sorted before items)

abbrev pub sort_values : SortOptions → List Val → List Val
sort_values options values = sorted (comes_before options) values

-- ---- by keys

-- whether there is a flag for each of so many keys, or one for all
abbrev pub are_for : List Bool → ℕ → Bool
are_for flags keys = length flags == keys || length flags == 1

-- a flag for each key, and how each is sorted
abbrev pub for_keys : ℕ → List Bool → List Bool
for_keys keys (flag ∷ []) = replicate keys flag
for_keys keys flags = flags

abbrev pub key_options : ℕ → List Bool → List Bool → List SortOptions
key_options keys descending nulls_last = map (λ (flags : Bool × Bool). record { descending = flags.0; nulls_last = flags.1 }) (zip (for_keys keys descending) (for_keys keys nulls_last))

-- whether keys come before others: the first key that does so in one way or the other says it
abbrev pub keys_before : List SortOptions → List Val → List Val → Bool
keys_before (options ∷ rest) (x ∷ left) (y ∷ right) = comes_before options x y || (not (comes_before options y x) && keys_before rest left right)
keys_before options left right = false

-- values, each beside its keys, in the order of the keys
abbrev pub sorted_rows : List SortOptions → List (List Val) → List Val → List (Val × List Val)
sorted_rows options keys values = sorted (λ left right. keys_before options left.1 right.1) (zip values keys)
