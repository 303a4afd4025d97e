-- Values that are picked out of columns fit as those of the columns do.
use Rattle.std.proofs.Common.{◌≡◌, ◌∙◌, ℕ, zero, suc, ℤ, pos, negsuc, Bool, true, false, cond, List, [], ◌∷◌, ◌++◌, length, Some, None, IsTrue, refl, ap}
use Rattle.std.specs.Prelude.{not, ◌&&◌, int_lt, slice_get}
use Rattle.std.proofs.lemmas.Bool.{and_parts, and_from}
use Rattle.plan_types.specs.Types.{Ty, Truth, TextType, ListType, StructType}
use Rattle.plan_types.specs.Values.{Val, Vals, no_value, with_value, NullValue, TruthValue, IntValue, TextValue, ListValue, StructValue, fits, items_fit, all_fit}
use Rattle.plan_types.specs.Outcomes.{Done, Meets, then_do}
use Rattle.plan_types.proofs.ValueLemmas.{meets_then, meets_as}
use Rattle.plan_dsl.specs.declared.signature.OwnType.TheVariants.{Item}
use Rattle.plan_dsl.specs.Kernels.{common_length, stretched, at_length, filter_values}
use Rattle.plan_dsl.specs.Laws.{AreOf}
use Rattle.plan_dsl.specs.Picks.{items_in, or_null, exploded, explode_values, or_fault, at_place, gathered, gather_values, is_true, where_true}
use Rattle.plan_dsl.specs.Signatures.{own_type}
use Rattle.plan_dsl.specs.Slices.{slice_start}
use Rattle.plan_dsl.proofs.ColumnLemmas.{AreSoMany, stretched_fits}

-- ---- out of lists

pub joined_fit : (left right : List Val) (type : Ty) → IsTrue (all_fit left type) → IsTrue (all_fit right type) → IsTrue (all_fit (left ++ right) type)
joined_fit [] right type h k = k
joined_fit (value ∷ left) right type h k =
    let parts = and_parts (fits value type) (all_fit left type) h in
    and_from (fits value type) (all_fit (left ++ right) type) parts.0 (joined_fit left right type parts.1 k)

pub items_in_fit : (items : Vals) (type : Ty) → items_fit items type ≡ true → IsTrue (all_fit (items_in items) type)
items_in_fit no_value type h = refl
items_in_fit (with_value first rest) type h =
    let parts = and_parts (fits first type) (items_fit rest type) h in
    and_from (fits first type) (all_fit (items_in rest) type) parts.0 (items_in_fit rest type parts.1)

or_null_fits : (values : List Val) (type : Ty) → IsTrue (all_fit values type) → IsTrue (all_fit (or_null values) type)
or_null_fits [] type h = refl
or_null_fits (value ∷ values) type h = h

-- no number is in a range without numbers
pub no_number : (below : Bool) → (not below && below) ≡ true → ⊥
no_number true h = cc
no_number false h = cc

pub exploded_fits : (value : Val) (type : Ty) → fits value type ≡ true → IsTrue (all_fit (exploded value) (own_type Item type))
exploded_fits NullValue type h = refl
exploded_fits (TruthValue truth) Truth h = refl
exploded_fits (TruthValue truth) _ h = cc
exploded_fits (IntValue number) (ListType item) h = absurd (no_number (int_lt number (pos 0)) h)
exploded_fits (IntValue number) _ h = and_from _ true h refl
exploded_fits (TextValue text) TextType h = refl
exploded_fits (TextValue text) _ h = cc
exploded_fits (ListValue items) (ListType item) h = or_null_fits (items_in items) item (items_in_fit items item h)
exploded_fits (ListValue items) _ h = cc
exploded_fits (StructValue parts) (StructType fields) h = and_from _ true h refl
exploded_fits (StructValue parts) _ h = cc

pub explode_values_fit : (values : List Val) (type : Ty) → IsTrue (all_fit values type) → IsTrue (all_fit (explode_values values) (own_type Item type))
explode_values_fit [] type h = refl
explode_values_fit (value ∷ values) type h =
    let parts = and_parts (fits value type) (all_fit values type) h in
    joined_fit (exploded value) (explode_values values) (own_type Item type) (exploded_fits value type parts.0) (explode_values_fit values type parts.1)

-- ---- at indices

found_fits : (values : List Val) (place : ℕ) (type : Ty) → IsTrue (all_fit values type) → Meets (λ value. IsTrue (fits value type)) (or_fault (slice_get values place))
found_fits [] place type h = tt
found_fits (value ∷ values) zero type h = (and_parts (fits value type) (all_fit values type) h).0
found_fits (value ∷ values) (suc place) type h = found_fits values place type (and_parts (fits value type) (all_fit values type) h).1

placed_fits : (values : List Val) (place : ℤ) (type : Ty) → IsTrue (all_fit values type) → Meets (λ value. IsTrue (fits value type)) (at_place values place)
placed_fits values (pos place) type h = found_fits values place type h
placed_fits values (negsuc before) type h = tt

gathered_fits : (values : List Val) (index : Val) (type : Ty) → IsTrue (all_fit values type) → Meets (λ value. IsTrue (fits value type)) (gathered values index)
gathered_fits values (IntValue index) type h = placed_fits values (slice_start index (length values)) type h
gathered_fits values _ type h = refl

gathered_all : (values indices : List Val) (type : Ty) → IsTrue (all_fit values type) → Meets (AreSoMany type (length indices)) (gather_values values indices)
gathered_all values [] type h = record { fitting = refl; as_many = refl }
gathered_all values (index ∷ indices) type h =
    let Next = AreSoMany type (suc (length indices)) in
    meets_then (λ value. IsTrue (fits value type)) Next (gathered values index) (λ value. then_do (gather_values values indices) (λ rest. Done (value ∷ rest))) (gathered_fits values index type h) (λ value fit.
    meets_then (AreSoMany type (length indices)) Next (gather_values values indices) (λ rest. Done (value ∷ rest)) (gathered_all values indices type h) (λ rest of.
    record { fitting = and_from (fits value type) (all_fit rest type) fit of.fitting; as_many = ap suc of.as_many }))

-- one index gathers one value
pub gather_values_fit : (type : Ty) (values indices : List Val) (many : Bool) → IsTrue (all_fit values type) → (many ≡ false → length indices ≡ 1) → Meets (AreOf (record { type = type; many = many })) (gather_values values indices)
gather_values_fit type values indices many fit single =
    meets_as (AreSoMany type (length indices)) (AreOf (record { type = type; many = many })) (gather_values values indices) (gathered_all values indices type fit) (λ found made. record { fitting = made.fitting; single = λ one. made.as_many ∙ single one })

-- ---- where it is true

where_true_fits : (truths values : List Val) (type : Ty) → IsTrue (all_fit values type) → IsTrue (all_fit (where_true truths values) type)
where_true_fits [] values type h = refl
where_true_fits (truth ∷ truths) [] type h = refl
where_true_fits (truth ∷ truths) (value ∷ values) type h =
    let parts = and_parts (fits value type) (all_fit values type) h in
    let rest = where_true_fits truths values type parts.1 in
    elim (is_true truth) as (λ b. IsTrue (all_fit (cond b (value ∷ where_true truths values) (where_true truths values)) type)) [
      | true ↦ and_from (fits value type) (all_fit (where_true truths values) type) parts.0 rest
      | false ↦ rest
    ]

pub filter_values_fit : (type : Ty) (values truths : List Val) → IsTrue (all_fit values type) → Meets (AreOf (record { type = type; many = true })) (filter_values values truths)
filter_values_fit type values truths fit =
    elim (common_length (length values) (length truths)) as (λ o. Meets (AreOf (record { type = type; many = true })) (at_length o (λ count. where_true (stretched count truths) (stretched count values)))) [
      | None ↦ tt
      | Some count ↦ record { fitting = where_true_fits (stretched count truths) (stretched count values) type (stretched_fits count values type fit); single = λ one. cc }
    ]
