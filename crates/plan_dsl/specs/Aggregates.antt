-- Aggregates: the one value that each makes of a column.
-- The least and the greatest value leave nulls out. They are null where nothing else is there, and so is the first or the
-- last value of none. A sum takes a null for nothing and a true value for one, and wraps around in its type. A null counts as a
-- value of its own among distinct ones.
use Rattle.std.specs.Prelude.{ℕ, ℤ, pos, ◌+ℤ◌, Bool, true, false, not, List, [], ◌∷◌, map, length}
use Rattle.std.specs.List.{filter}
use Rattle.plan_types.specs.Types.{Ty, Integer}
use Rattle.plan_types.specs.Values.{Val, NullValue, TruthValue, IntValue, ListValue, same_value}
use Rattle.plan_types.specs.ValueViews.{values_from}
use Rattle.plan_types.specs.Casts.{number_of, wrapped}
use Rattle.plan_dsl.specs.declared.aggregate.GroupByMethod.{GroupByMethod}
use Rattle.plan_dsl.specs.declared.aggregate.GroupByMethod.TheVariants.{Min, NanMin, Max, NanMax, NUnique, First, Last, Implode, Sum, Count, Groups}
use Rattle.plan_dsl.specs.Sorting.{sort_values}
use Rattle.plan_dsl.specs.Groups.{firsts}

-- the first value, and the last
abbrev pub first_value : List Val → Val
first_value [] = NullValue
first_value (value ∷ values) = value

abbrev pub last_value : List Val → Val
last_value [] = NullValue
last_value (value ∷ []) = value
last_value (value ∷ second ∷ rest) = last_value (second ∷ rest)

-- the value that comes first in order, with nulls last: the least, or the greatest where the order descends
abbrev pub extreme : Bool → List Val → Val
extreme descending values = first_value (sort_values (record { descending = descending; nulls_last = true }) values)

-- what a value adds to a sum
abbrev pub summand : Val → ℤ
summand (TruthValue truth) = number_of truth
summand (IntValue number) = number
summand value = pos 0

abbrev pub sum_of : List Val → ℤ
sum_of [] = pos 0
sum_of (value ∷ values) = summand value +ℤ sum_of values

-- how many there are, as a value of the type
abbrev pub count_value : Ty → ℕ → Val
count_value type count = IntValue (wrapped type (pos count))

-- whether a value is counted
abbrev pub is_counted : Bool → Val → Bool
is_counted true value = true
is_counted false value = not (same_value value NullValue)

-- the value that a method makes of a column, in the aggregate's own type, on the rows of these numbers
abbrev pub aggregate_value : GroupByMethod → Ty → List ℕ → List Val → Val
aggregate_value Min type rows values = extreme false values
aggregate_value NanMin type rows values = extreme false values
aggregate_value Max type rows values = extreme true values
aggregate_value NanMax type rows values = extreme true values
aggregate_value NUnique type rows values = count_value type (length (firsts same_value values))
aggregate_value First type rows values = first_value values
aggregate_value Last type rows values = last_value values
aggregate_value Implode type rows values = ListValue (values_from values)
aggregate_value Sum type rows values = IntValue (wrapped type (sum_of values))
aggregate_value (Count include_nulls) type rows values = count_value type (length (filter (is_counted include_nulls) values))
aggregate_value Groups type rows values = ListValue (values_from (map (count_value (Integer false 32)) rows))
