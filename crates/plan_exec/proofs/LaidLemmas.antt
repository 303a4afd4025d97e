-- Rows of columns side by side: how many there are, those of more values, and those that functions of rows give.
use Rattle.std.proofs.Common.{◌≡◌, ◌∙◌, ◌+◌, ℕ, List, [], ◌∷◌, ◌++◌, length, map, replicate, refl, sym, ap, arith}
use Rattle.std.specs.List.{AllByRecursion}
use Rattle.std.proofs.lemmas.List.{length-replicate, replicate-append-replicate}
use Rattle.plan_types.specs.Values.{Val}
use Rattle.plan_types.specs.Frames.{Row}
use Rattle.plan_dsl.specs.Rows.{in_front}
use Rattle.plan_dsl.proofs.SortLemmas.{in_front_many}
use Rattle.plan_exec.specs.LaidFrames.{Shown, HaveRows, beside, contents}

-- columns of so many values have as many rows
pub beside_many : (count : ℕ) (columns : List Shown) → HaveRows count columns → length (beside count (contents columns)) ≡ count
beside_many count [] h = length-replicate count []
beside_many count (column ∷ columns) h = in_front_many count column.1 (beside count (contents columns)) h.0 (beside_many count columns h.1)

-- values in front of rows, and then others in front of others
in_front_joined : (values others : List Val) (rows later : List Row) → length values ≡ length rows → in_front (values ++ others) (rows ++ later) ≡ in_front values rows ++ in_front others later
in_front_joined [] others [] later h = refl
in_front_joined [] others (row ∷ rows) later h = cc
in_front_joined (value ∷ values) others [] later h = cc
in_front_joined (value ∷ values) others (row ∷ rows) later h = ap (λ l. (value ∷ row) ∷ l) (in_front_joined values others rows later (omega (arith, h)))

-- of columns that are made of two parts the rows are those of the first, and then those of the second
module _ {A : Type 0} (first later : A → List Val) (count more : ℕ) where
  abbrev pub Many : List A → Type 0
  Many items = AllByRecursion (λ item. length (first item) ≡ count) items

  first_many : (items : List A) → Many items → length (beside count (map first items)) ≡ count
  first_many [] h = length-replicate count []
  first_many (item ∷ items) h = in_front_many count (first item) (beside count (map first items)) h.0 (first_many items h.1)

  pub beside_joined : (items : List A) → Many items → beside (count + more) (map (λ item. first item ++ later item) items) ≡ beside count (map first items) ++ beside more (map later items)
  beside_joined [] h = sym (replicate-append-replicate count more [])
  beside_joined (item ∷ items) h =
      ap (in_front (first item ++ later item)) (beside_joined items h.1) ∙ in_front_joined (first item) (later item) (beside count (map first items)) (beside more (map later items)) (h.0 ∙ sym (first_many items h.1))

-- the values that a function gives of rows, in front of what another gives of them
in_front_mapped : {A : Type 0} (f : A → Val) (g : A → Row) (items : List A) → map (λ item. f item ∷ g item) items ≡ in_front (map f items) (map g items)
in_front_mapped f g [] = refl
in_front_mapped f g (item ∷ items) = ap (λ l. (f item ∷ g item) ∷ l) (in_front_mapped f g items)

abbrev no_values : Row
no_values = []

empty_mapped : {A : Type 0} (items : List A) → map (λ item. no_values) items ≡ replicate (length items) no_values
empty_mapped [] = refl
empty_mapped (item ∷ items) = ap (λ l. [] ∷ l) (empty_mapped items)

-- rows that are made value by value are columns of what each function gives
pub rows_by_columns : {A : Type 0} (functions : List (A → Val)) (items : List A) → map (λ item. map (λ f. f item) functions) items ≡ beside (length items) (map (λ f. map f items) functions)
rows_by_columns [] items = empty_mapped items
rows_by_columns (f ∷ functions) items =
    in_front_mapped f (λ item. map (λ f. f item) functions) items ∙ ap (in_front (map f items)) (rows_by_columns functions items)
