-- The inputs of windows, in their own order and as passes go over them.
use Rattle.std.proofs.Common.{◌≡◌, ℕ, suc, ◌-◌, List, [], ◌∷◌, ◌++◌, get_or, length, take, Option, Some, None, refl, sym, ap, ◌∙◌, arith}
use Rattle.std.proofs.Math.Seq.{take-suc}
use Rattle.std.proofs.lemmas.List.{append-nil, length-append, map-append, take_all}
use Rattle.plan_dsl.specs.declared.sort_options.SortOptions.{SortOptions}
use Rattle.plan_dsl.specs.Ops.{WindowOp}
use Rattle.plan_arena.specs.declared.arena.Node.{Node}
use Rattle.plan_arena.specs.Items.{numbers, ordered, ordering, passed}
use Rattle.plan_arena.specs.Layers.{layer}

pub passed_window : (function : ℕ) (keys : List ℕ) (order : Option (Node × SortOptions)) → passed (layer (WindowOp (ordered order)) (function ∷ (ordering order ++ keys))) ≡ function ∷ (keys ++ ordering order)
passed_window function keys None = ap (λ ns. function ∷ ns) (sym (append-nil keys))
passed_window function keys (Some order) = refl

-- nodes, and a last one
last_joined : (inputs : List Node) (d : Node) (last : ℕ) → length inputs ≡ suc last → inputs ≡ take last inputs ++ get_or inputs last d ∷ []
last_joined inputs d last long = sym (take_all (suc last) inputs (omega (arith, long))) ∙ take-suc inputs last d (omega (arith, long))

-- lists with a last number are the same where what is in front of it is, and it
same_ends : (xs ys : List ℕ) (x y : ℕ) → xs ++ x ∷ [] ≡ ys ++ y ∷ [] → (xs ≡ ys) × (x ≡ y)
same_ends [] [] x y e = (refl, cc)
same_ends (a ∷ xs) (b ∷ ys) x y e =
    let first : a ≡ b = cc in
    let rest = same_ends xs ys x y cc in
    ((λ i. first i ∷ rest.0 i), rest.1)
same_ends [] (b ∷ ys) x y e = absurd (omega (arith, ap length e, length-append ys (y ∷ [])))
same_ends (a ∷ xs) [] x y e = absurd (omega (arith, ap length e, length-append xs (x ∷ [])))

with_last : (inputs front : List Node) (d by : Node) (last : ℕ) → length inputs ≡ suc last → take last inputs ≡ front → by ≡ get_or inputs last d → numbers inputs ≡ numbers front ++ by.0 ∷ []
with_last inputs front d by last long is at =
    ap numbers (last_joined inputs d last long ∙ (λ i. is i ++ sym at i ∷ [])) ∙ map-append (λ n. n.0) front (by ∷ [])

-- so where the numbers are those that were there, what is in front is the same, and the last
ends_stay : (inputs front : List Node) (d by : Node) (last : ℕ) (old : List ℕ) (before : ℕ) → length inputs ≡ suc last → take last inputs ≡ front → by ≡ get_or inputs last d → numbers inputs ≡ old ++ before ∷ [] → (numbers front ≡ old) × (by.0 ≡ before)
ends_stay inputs front d by last old before long is at same = same_ends (numbers front) old by.0 before (sym (with_last inputs front d by last long is at) ∙ same)

-- and what is in front of a last one is what was there
pub front_stays : (inputs keys : List Node) (function by : Node) → numbers inputs ≡ function.0 ∷ (numbers keys ++ by.0 ∷ []) → numbers (take (length inputs - 1) inputs) ≡ numbers (function ∷ keys)
front_stays [] keys function by same = cc
front_stays (n ∷ ns) keys function by same =
    let last = length (n ∷ ns) - 1 in
    (ends_stay (n ∷ ns) (take last (n ∷ ns)) n (get_or (n ∷ ns) last n) last (numbers (function ∷ keys)) by.0 (omega arith) refl refl same).0
