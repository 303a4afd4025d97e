-- Bytes that stand in a JSON string as they are.
use Rattle.std.proofs.Common.{◌≡◌, ℕ, ◌≤◌, ◌<◌, Bool, false, ◌||◌, ◌==◌, cond, [], ◌∷◌, ◌≢◌, refl, arith}
use Rattle.std.proofs.lemmas.Bool.{ne_eqb, le-ltb}
use Rattle.json.specs.Print.{escape_byte, escape_letter}

no_letter : (q b bs ff lf cr tab : Bool) (x : ℕ) → q ≡ false → b ≡ false → bs ≡ false → ff ≡ false → lf ≡ false → cr ≡ false → tab ≡ false
    → cond (q || b) x (cond bs 98 (cond ff 102 (cond lf 110 (cond cr 114 (cond tab 116 0))))) ≡ 0
no_letter false false false false false false false x a b c d e f g = refl
no_letter q b bs ff lf cr tab x a b' c d e f g = cc

-- no control, quote or backslash
pub plain_byte : (x : ℕ) → 32 ≤ x → x ≢ 34 → x ≢ 92 → escape_byte x ≡ x ∷ []
unfolding escape_byte
plain_byte x high quote backslash =
    let letter : escape_letter x ≡ 0 = no_letter (x == 34) (x == 92) (x == 8) (x == 12) (x == 10) (x == 13) (x == 9) x (ne_eqb x 34 quote) (ne_eqb x 92 backslash) (apart 8 (omega arith)) (apart 12 (omega arith)) (apart 10 (omega arith)) (apart 13 (omega arith)) (apart 9 (omega arith)) in
    rw (letter, le-ltb x 32 high) refl
  where
    apart : (n : ℕ) → n < 32 → (x == n) ≡ false
    apart n low = ne_eqb x n (λ e. absurd (omega (arith, e, low, high)))
