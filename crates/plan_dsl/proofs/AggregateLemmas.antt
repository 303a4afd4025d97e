-- What an aggregate makes of a column that fits the type fits its own type.
use Rattle.std.proofs.Common.{◌≡◌, ℕ, pos, nat_lt, Bool, true, false, cond, List, [], ◌∷◌, length, map, IsTrue, refl}
use Rattle.std.specs.List.{filter}
use Rattle.std.proofs.lemmas.Bool.{and_parts, and_from}
use Rattle.plan_types.specs.Types.{Ty, Truth, Integer, DurationType, ListType}
use Rattle.plan_types.specs.Values.{Val, IntValue, ListValue, all_fit, fits, same_value}
use Rattle.plan_types.specs.ValueViews.{values_from}
use Rattle.plan_types.specs.Casts.{wrapped}
use Rattle.plan_types.proofs.ValueLemmas.{wrapped_in_range}
use Rattle.plan_dsl.specs.declared.aggregate.GroupByMethod.{GroupByMethod}
use Rattle.plan_dsl.specs.declared.aggregate.GroupByMethod.TheVariants.{Min, NanMin, Max, NanMax, NUnique, First, Last, Implode, Sum, Count, Groups}
use Rattle.plan_dsl.specs.Aggregates.{count_value, extreme, first_value, is_counted, last_value, sum_of}
use Rattle.plan_dsl.specs.declared.sort_options.SortOptions.{SortOptions}
use Rattle.plan_dsl.specs.Groups.{firsts}
use Rattle.plan_dsl.specs.Ops.{AggOp}
use Rattle.plan_dsl.specs.Typing.{Typed}
use Rattle.plan_dsl.specs.Signatures.{is_summable, sum_type}
use Rattle.plan_dsl.specs.Sorting.{sort_values}
use Rattle.plan_dsl.specs.Laws.{AreOf}
use Rattle.plan_dsl.proofs.ColumnLemmas.{list_of_fitting}
use Rattle.plan_dsl.proofs.SignatureLemmas.{KernelGives}
use Rattle.plan_dsl.proofs.SortLemmas.{sort_values_fit}

first_fits : (values : List Val) (type : Ty) → IsTrue (all_fit values type) → IsTrue (fits (first_value values) type)
first_fits [] type h = refl
first_fits (value ∷ values) type h = (and_parts (fits value type) (all_fit values type) h).0

last_fits : (values : List Val) (type : Ty) → IsTrue (all_fit values type) → IsTrue (fits (last_value values) type)
last_fits [] type h = refl
last_fits (value ∷ []) type h = (and_parts (fits value type) true h).0
last_fits (value ∷ second ∷ rest) type h = last_fits (second ∷ rest) type (and_parts (fits value type) (all_fit (second ∷ rest) type) h).1

extreme_fits : (descending : Bool) (values : List Val) (type : Ty) → IsTrue (all_fit values type) → IsTrue (fits (extreme descending values) type)
extreme_fits descending values type h =
    let options : SortOptions = record { descending = descending; nulls_last = true } in
    let typed : Typed = record { type = type; many = true } in
    let of : AreOf typed values = record { fitting = h; single = λ one. cc } in
    let found : AreOf typed (sort_values options values) = sort_values_fit options typed values of in
    first_fits (sort_values options values) type found.fitting

-- numbers of rows are counts
rows_fit : (rows : List ℕ) → IsTrue (all_fit (map (count_value (Integer false 32)) rows) (Integer false 32))
rows_fit [] = refl
rows_fit (row ∷ rows) = and_from _ (all_fit (map (count_value (Integer false 32)) rows) (Integer false 32)) (wrapped_in_range false 32 (pos row)) (rows_fit rows)

sum_fits : (type : Ty) (values : List Val) → is_summable type ≡ true → IsTrue (fits (IntValue (wrapped (sum_type type) (sum_of values))) (sum_type type))
sum_fits Truth values h = wrapped_in_range false 32 (sum_of values)
sum_fits (Integer signed bits) values h =
    elim (nat_lt bits 32) as (λ b. IsTrue (fits (IntValue (wrapped (cond b (Integer true 64) (Integer signed bits)) (sum_of values))) (cond b (Integer true 64) (Integer signed bits)))) [
      | true ↦ wrapped_in_range true 64 (sum_of values)
      | false ↦ wrapped_in_range signed bits (sum_of values)
    ]
sum_fits (DurationType unit) values h = wrapped_in_range true 64 (sum_of values)
sum_fits _ values h = cc

-- a column of one value
alone : (type : Ty) (value : Val) → IsTrue (fits value type) → AreOf (record { type = type; many = false }) (value ∷ [])
alone type value h = record { fitting = and_from (fits value type) true h refl; single = λ one. refl }

-- a count
counted : (count : ℕ) → AreOf (record { type = Integer false 32; many = false }) (count_value (Integer false 32) count ∷ [])
counted count = alone (Integer false 32) (count_value (Integer false 32) count) (wrapped_in_range false 32 (pos count))

pub aggregate_gives : (method : GroupByMethod) → KernelGives (AggOp method)
aggregate_gives Min registry frame rows shared (input ∷ []) = λ values i. alone input.type _ (extreme_fits false values input.type i.of.fitting)
aggregate_gives NanMin registry frame rows shared (input ∷ []) = λ values i. alone input.type _ (extreme_fits false values input.type i.of.fitting)
aggregate_gives Max registry frame rows shared (input ∷ []) = λ values i. alone input.type _ (extreme_fits true values input.type i.of.fitting)
aggregate_gives NanMax registry frame rows shared (input ∷ []) = λ values i. alone input.type _ (extreme_fits true values input.type i.of.fitting)
aggregate_gives NUnique registry frame rows shared (input ∷ []) = λ values i. counted (length (firsts same_value values))
aggregate_gives First registry frame rows shared (input ∷ []) = λ values i. alone input.type _ (first_fits values input.type i.of.fitting)
aggregate_gives Last registry frame rows shared (input ∷ []) = λ values i. alone input.type _ (last_fits values input.type i.of.fitting)
aggregate_gives Implode registry frame rows shared (input ∷ []) = λ values i. alone (ListType input.type) (ListValue (values_from values)) (list_of_fitting values input.type i.of.fitting)
aggregate_gives Sum registry frame rows shared (input ∷ []) = λ values i. alone (sum_type input.type) (IntValue (wrapped (sum_type input.type) (sum_of values))) (sum_fits input.type values (i.passes refl))
aggregate_gives (Count include_nulls) registry frame rows shared (input ∷ []) = λ values i. counted (length (filter (is_counted include_nulls) values))
aggregate_gives Groups registry frame rows shared (input ∷ []) = λ values i. alone (ListType (Integer false 32)) (ListValue (values_from (map (count_value (Integer false 32)) rows))) (list_of_fitting (map (count_value (Integer false 32)) rows) (Integer false 32) (rows_fit rows))
aggregate_gives _ registry frame rows shared _ = tt
