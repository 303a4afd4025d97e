-- Values that are repeated, each as often as its row makes rows.
use Rattle.std.proofs.Common.{◌≡◌, ◌∙◌, ℕ, List, [], ◌∷◌, ◌++◌, map, replicate, refl, sym, ap, append_assoc, append-nil, Bor}
use Rattle.std.specs.List.{zip}
use Rattle.plan_types.specs.Values.{Val}
use Rattle.plan_types.specs.ValueViews.{val_of}
use Rattle.plan_types.specs.declared.value.Value.{Value}
use Rattle.plan_types.proofs.ListLemmas.{map-map}
use Rattle.plan_exec.specs.ColumnFunctions.{repeated}

-- values beside how often each is repeated
abbrev Pairs : Type 0
Pairs = List (Value × Bor ℕ)

abbrev counts_of : Pairs → List ℕ
counts_of pairs = map (λ pair. pair.1.now) pairs

abbrev values_of : Pairs → List Val
values_of pairs = map (λ pair. val_of pair.0) pairs

repeated_more : (pairs : Pairs) (own : Value × Bor ℕ) → repeated (counts_of (pairs ++ own ∷ [])) (values_of (pairs ++ own ∷ [])) ≡ repeated (counts_of pairs) (values_of pairs) ++ replicate own.1.now (val_of own.0)
repeated_more [] own = append-nil (replicate own.1.now (val_of own.0))
repeated_more (pair ∷ pairs) own =
    let first = replicate pair.1.now (val_of pair.0) in
    ap (λ l. first ++ l) (repeated_more pairs own) ∙ sym (append_assoc first (repeated (counts_of pairs) (values_of pairs)) (replicate own.1.now (val_of own.0)))

-- one more value is repeated
pub repeated_next : (pairs : Pairs) (own : Value × Bor ℕ) (made new : List Value) → map val_of made ≡ repeated (counts_of pairs) (values_of pairs) → map val_of new ≡ map val_of made ++ replicate own.1.now (val_of own.0) → map val_of new ≡ repeated (counts_of (pairs ++ own ∷ [])) (values_of (pairs ++ own ∷ []))
repeated_next pairs own made new so_far put = put ∙ ap (λ l. l ++ replicate own.1.now (val_of own.0)) so_far ∙ sym (repeated_more pairs own)

none_repeated : (counts : List ℕ) → repeated counts [] ≡ []
none_repeated [] = refl
none_repeated (count ∷ counts) = refl

repeated_zip : (items : List Value) (counts : List ℕ) → repeated (map (λ pair. pair.1) (zip items counts)) (map (λ pair. val_of pair.0) (zip items counts)) ≡ repeated counts (map val_of items)
repeated_zip [] counts = sym (none_repeated counts)
repeated_zip (item ∷ items) [] = refl
repeated_zip (item ∷ items) (count ∷ counts) = ap (λ l. replicate count (val_of item) ++ l) (repeated_zip items counts)

-- all pairs of values and numbers were repeated
pub all_repeated : (counts : List ℕ) (items : List Value) (pairs : Pairs) (made values : List Val) → map (λ pair. (pair.0, pair.1.now)) pairs ≡ zip items counts → made ≡ repeated (counts_of pairs) (values_of pairs) → map val_of items ≡ values → made ≡ repeated counts values
all_repeated counts items pairs made values are so_far shown =
    let pair_of : Value × Bor ℕ → Value × ℕ = λ pair. (pair.0, pair.1.now) in
    let numbers = sym (map-map (λ (pair : Value × ℕ). pair.1) pair_of pairs) ∙ ap (map (λ (pair : Value × ℕ). pair.1)) are in
    let own = sym (map-map (λ (pair : Value × ℕ). val_of pair.0) pair_of pairs) ∙ ap (map (λ (pair : Value × ℕ). val_of pair.0)) are in
    so_far ∙ (λ i. repeated (numbers i) (own i)) ∙ repeated_zip items counts ∙ ap (repeated counts) shown
