-- Numbers of rows, one by one, in 32 bits.
use Rattle.std.proofs.Common.{◌≡◌, ◌∙◌, ◌+◌, ◌<◌, ◌%◌, ℕ, pos, false, List, [], ◌∷◌, ◌++◌, map, sym, ap, arith}
use native.Mathlib.Numerals.{unary_clauses}
use mir.Val.{of_z, to_z}
use Rattle.std.specs.Int.{w128}
use Rattle.std.specs.List.{range_with_len}
use Rattle.std.proofs.Math.Nat.{suc-mod}
use Rattle.std.proofs.lemmas.Int.{of_z-to_z, to_z_pos}
use Rattle.std.proofs.lemmas.List.{map-append}
use Rattle.std.proofs.lemmas.List.FromFn.{map-range_with_len_more}
use Rattle.plan_types.specs.Types.{Integer}
use Rattle.plan_types.specs.Values.{Val, IntValue}
use Rattle.plan_types.specs.ValueViews.{val_of}
use Rattle.plan_types.specs.declared.value.Value.{Value}
use Rattle.plan_types.specs.declared.value.Value.TheVariants.{Int}
use Rattle.plan_dsl.specs.Aggregates.{count_value}

-- the value of a row's number
abbrev pub number_from : ℕ → ℕ → Val
number_from first number = count_value (Integer false 32) (first + number)

-- a number of 32 bits stays what it is in 128
pub number_kept : (number : ℕ) → number < 4294967296 → to_z w128 (of_z w128 (pos number)) ≡ pos number
number_kept number small =
    let is = to_z_pos w128 number (omega (arith, small)) in
    let whole = of_z-to_z w128 number (omega (arith, small)) in
    ap (λ z. to_z w128 (of_z w128 z)) (sym is) ∙ ap (to_z w128) whole ∙ is

-- the next number, in 32 bits
pub next_number : (first row number : ℕ) → number ≡ (first + row) % 4294967296 → (number + 1) % 4294967296 ≡ (first + (row + 1)) % 4294967296
next_number first row number is =
    let next : first + (row + 1) ≡ first + row + 1 = omega arith in
    let stepped : (first + row + 1) % 4294967296 ≡ ((first + row) % 4294967296 + 1) % 4294967296 = simp unary_clauses (suc-mod (first + row) 4294967296) in
    ap (λ n. (n + 1) % 4294967296) is ∙ sym stepped ∙ ap (λ n. n % 4294967296) (sym next)

-- one more number is put behind the others
pub number_put : (first row number : ℕ) (values new : List Value) (converted : _) → new ≡ values ++ Int converted ∷ [] → converted ≡ pos number → map val_of values ≡ map (number_from first) (range_with_len 0 row) → number ≡ (first + row) % 4294967296 → map val_of new ≡ map (number_from first) (range_with_len 0 (row + 1))
number_put first row number values new converted put is so_far own =
    ap (map val_of) put ∙ map-append val_of values (Int converted ∷ []) ∙ ap (λ n. map val_of values ++ IntValue n ∷ []) (is ∙ ap pos own) ∙ ap (λ l. l ++ number_from first row ∷ []) so_far
    ∙ sym (map-range_with_len_more (number_from first) 0 row row (omega arith))
