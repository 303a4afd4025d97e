-- Items that are put in order are the same items: sorted columns fit, and are as long.
use Rattle.std.proofs.Common.{◌≡◌, ◌∙◌, ℕ, zero, suc, Bool, true, false, cond, List, [], ◌∷◌, length, map, refl, ap, subst, arith}
use Rattle.std.specs.Prelude.{◌||◌, ◌==◌, IsPermutation, zip}
use Rattle.std.specs.List.{AllByRecursion}
use Rattle.std.proofs.lemmas.Bool.{and_parts, and_from}
use Rattle.std.proofs.lemmas.List.{length-replicate}
use Rattle.std.proofs.lemmas.List.Elements.{All-from_recursion, recursion_from_All}
use Rattle.std.proofs.lemmas.List.Sorted.{All-permutation, IsPermutation-cons, IsPermutation-map, IsPermutation-middle, IsPermutation-refl, IsPermutation-trans, length_permutation}
use Rattle.std.proofs.lemmas.Slice.Zip.{firsts-zip}
use Rattle.plan_types.specs.Types.{Ty}
use Rattle.plan_types.specs.Values.{Val, fits, all_fit}
use Rattle.plan_types.specs.Frames.{Row}
use Rattle.plan_types.specs.Outcomes.{Done, Fault, Meets, then_do}
use Rattle.plan_types.proofs.ValueLemmas.{meets_as, meets_then}
use Rattle.plan_dsl.specs.declared.sort_options.SortOptions.{SortOptions}
use Rattle.plan_dsl.specs.Typing.{Typed}
use Rattle.plan_dsl.specs.Kernels.{for_rows, in_front, key_rows, sort_by_values, stretched}
use Rattle.plan_dsl.specs.Laws.{AreOf}
use Rattle.plan_dsl.specs.Sorting.{comes_before, inserted, key_options, keys_before, sorted, sorted_rows, sort_values}

-- ---- the same items

module _ {A : Type 0} (before : A → A → Bool) where
  pub inserted_same : (item : A) (items : List A) → IsPermutation (item ∷ items) (inserted before item items)
  inserted_same item [] = IsPermutation-refl (item ∷ [])
  inserted_same item (first ∷ rest) =
      elim (before first item) as (λ b. IsPermutation (item ∷ first ∷ rest) (cond b (first ∷ inserted before item rest) (item ∷ first ∷ rest))) [
        | true ↦ IsPermutation-trans (item ∷ first ∷ rest) (first ∷ item ∷ rest) (first ∷ inserted before item rest) (IsPermutation-middle (item ∷ []) first rest) (IsPermutation-cons first (item ∷ rest) (inserted before item rest) (inserted_same item rest))
        | false ↦ IsPermutation-refl (item ∷ first ∷ rest)
      ]

  pub sorted_same : (items : List A) → IsPermutation items (sorted before items)
  sorted_same [] = IsPermutation-refl []
  sorted_same (item ∷ items) =
      IsPermutation-trans (item ∷ items) (item ∷ sorted before items) (inserted before item (sorted before items)) (IsPermutation-cons item items (sorted before items) (sorted_same items)) (inserted_same item (sorted before items))

-- what each of some items has, each of the same items has
pub permuted_each : {A : Type 0} (P : A → Type 0) (items found : List A) → IsPermutation items found → AllByRecursion P items → AllByRecursion P found
permuted_each P items found same h = recursion_from_All P found (All-permutation P items found same (All-from_recursion P items h))

-- ---- columns

pub each_fits : (values : List Val) (type : Ty) → all_fit values type ≡ true → AllByRecursion (λ value. fits value type ≡ true) values
each_fits [] type h = tt
each_fits (value ∷ values) type h = let parts = and_parts (fits value type) (all_fit values type) h in (parts.0, each_fits values type parts.1)

fits_from_each : (values : List Val) (type : Ty) → AllByRecursion (λ value. fits value type ≡ true) values → all_fit values type ≡ true
fits_from_each [] type h = refl
fits_from_each (value ∷ values) type h = and_from (fits value type) (all_fit values type) h.0 (fits_from_each values type h.1)

-- values that are a permutation of others have the typing of these
permuted_of : (typed : Typed) (values found : List Val) → IsPermutation values found → AreOf typed values → AreOf typed found
permuted_of typed values found same of = record {
  fitting = fits_from_each found typed.type (permuted_each (λ value. fits value typed.type ≡ true) values found same (each_fits values typed.type of.fitting));
  single = λ one. length_permutation values found same ∙ of.single one;
}

pub sort_values_fit : (options : SortOptions) (typed : Typed) (values : List Val) → AreOf typed values → AreOf typed (sort_values options values)
sort_values_fit options typed values of = permuted_of typed values (sort_values options values) (sorted_same (comes_before options) values) of

-- ---- by keys

-- keys brought to so many values are as many
pub as_many_rows : (count : ℕ) (values : List Val) → (length values == count || length values == 1) ≡ true → length (stretched count values) ≡ count
as_many_rows count [] h = grind arith
as_many_rows count (value ∷ []) h = length-replicate count value
as_many_rows count (first ∷ second ∷ rest) h = grind arith

pub in_front_many : (count : ℕ) (values : List Val) (rows : List Row) → length values ≡ count → length rows ≡ count → length (in_front values rows) ≡ count
in_front_many count [] rows h k = h
in_front_many count (value ∷ values) [] h k = k
in_front_many zero (value ∷ values) (row ∷ rows) h k = cc
in_front_many (suc count) (value ∷ values) (row ∷ rows) h k = ap suc (in_front_many count values rows (omega (arith, h)) (omega (arith, k)))

pub column_for_rows : (count : ℕ) (values : List Val) → Meets (λ column. length column ≡ count) (for_rows count values)
column_for_rows count values =
    elim (length values == count || length values == 1) as (λ b. (length values == count || length values == 1) ≡ b → Meets (λ column. length column ≡ count) (cond b (Done (stretched count values)) Fault)) [
      | true ↦ λ e. as_many_rows count values e
      | false ↦ λ e. tt
    ] refl

pub key_rows_many : (count : ℕ) (keys : List (List Val)) → Meets (λ rows. length rows ≡ count) (key_rows count keys)
key_rows_many count [] = length-replicate count []
key_rows_many count (key ∷ keys) =
    let Many : List Row → Type 0 = λ rows. length rows ≡ count in
    meets_then (λ column. length column ≡ count) Many (for_rows count key) (λ column. then_do (key_rows count keys) (λ rows. Done (in_front column rows))) (column_for_rows count key) (λ column h.
    meets_then Many Many (key_rows count keys) (λ rows. Done (in_front column rows)) (key_rows_many count keys) (λ rows k. in_front_many count column rows h k))

-- a sort by keys gives the same values, whatever the keys
pub sort_by_values_same : (descending nulls_last : List Bool) (values : List Val) (keys : List (List Val)) → Meets (IsPermutation values) (sort_by_values descending nulls_last values keys)
sort_by_values_same descending nulls_last values keys =
    let options = key_options (length keys) descending nulls_last in
    meets_then (λ rows. length rows ≡ length values) (IsPermutation values) (key_rows (length values) keys) (λ rows. Done (map (λ row. row.0) (sorted_rows options rows values))) (key_rows_many (length values) keys) (λ rows many.
    subst (λ l. IsPermutation l (map (λ row. row.0) (sorted_rows options rows values))) (firsts-zip values rows many)
    (IsPermutation-map (λ row. row.0) (zip values rows) (sorted_rows options rows values) (sorted_same (λ (left right : Val × Row). keys_before options left.1 right.1) (zip values rows))))

pub sort_by_values_fit : (descending nulls_last : List Bool) (typed : Typed) (values : List Val) (keys : List (List Val)) → AreOf typed values → Meets (AreOf typed) (sort_by_values descending nulls_last values keys)
sort_by_values_fit descending nulls_last typed values keys of =
    meets_as (IsPermutation values) (AreOf typed) (sort_by_values descending nulls_last values keys) (sort_by_values_same descending nulls_last values keys) (λ found same. permuted_of typed values found same of)
