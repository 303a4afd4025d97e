-- Whole numbers in two halves of 64 bits.
use Rattle.std.specs.Prelude.{◌≡◌, ℕ, ℤ, ◌+◌, ◌*◌, ◌/◌, ◌%◌, ◌<◌}
use Rattle.std.specs.Int.{w128, cast_signed, cast_unsigned}
use Rattle.std.proofs.Common.{◌∙◌, ap, arith}
use Rattle.std.proofs.lemmas.Int.{of_z-to_z}

-- how many numbers a half has
abbrev pub half : ℕ
half = 18446744073709551616

-- the signed number of 128 bits with these halves
abbrev pub whole_of : ℕ → ℕ → ℤ
whole_of high low = cast_signed w128 (high * half + low)

-- its halves
abbrev pub high_of : ℤ → ℕ
high_of number = cast_unsigned w128 number / half

abbrev pub low_of : ℤ → ℕ
low_of number = cast_unsigned w128 number % half

pub high_again : (high low : ℕ) → high < half → low < half → high_of (whole_of high low) ≡ high
high_again high low some few = ap (λ n. n / half) (of_z-to_z w128 (high * half + low) (omega (arith, some, few))) ∙ omega (arith, some, few)

pub low_again : (high low : ℕ) → high < half → low < half → low_of (whole_of high low) ≡ low
low_again high low some few = ap (λ n. n % half) (of_z-to_z w128 (high * half + low) (omega (arith, some, few))) ∙ omega (arith, some, few)
