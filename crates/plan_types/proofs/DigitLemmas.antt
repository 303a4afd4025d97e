-- Numbers as texts: what is written has ASCII characters alone, and what is read has digits.
use Rattle.std.proofs.Common.{◌≡◌, ℕ, zero, suc, ◌+◌, ◌^◌, ◌<◌, true, false, ◌&&◌, cond, List, [], ◌∷◌, Option, Some, None, Result, Ok, Err, ℤ, encode_utf8_all, refl, sym, ap, ◌∙◌, subst, arith, nat_lt, FitsSigned}
use Rattle.std.specs.Prelude.{codes, pos, negsuc, neg_ℤ, ◌≤ℤ◌, int_lt, not}
use Rattle.std.specs.Char.{digit_value}
use Rattle.std.specs.Int.{w128}
use Rattle.std.specs.Result.{OkIff}
use Rattle.std.specs.Str.{chars, IsUtf8}
use Rattle.std.specs.Str.Parse.{AllDigits, IsNumeral, ParsesSigned, without_leading_sign, signed_digits_value}
use Rattle.std.proofs.lemmas.Bool.{lt-ltb, ltb-true, and_parts, and_from}
use Rattle.std.proofs.lemmas.Str.{encodes-chars}
use Rattle.std.specs.Str.{IsAscii}
use Rattle.std.specs.Fmt.{signed_decimal}
use Rattle.std.proofs.lemmas.Str.{chars-encodes, chars-IsAscii}
use Rattle.std.proofs.lemmas.Fmt.{IsAscii-decimal_wide}
use Rattle.std.proofs.lemmas.Int.{ints}
use Rattle.plan_types.specs.Types.{Ty, Integer, ty, is_integer}
use Rattle.plan_types.specs.Values.{IntValue, in_range}
use Rattle.plan_types.specs.declared.dtype.CastOptions.{CastOptions}
use Rattle.plan_types.specs.declared.dtype.DataType.{DataType}
use Rattle.plan_types.specs.declared.dtype.DataType.TheVariants.{Int8, Int16, Int32, Int64, UInt8, UInt16, UInt32, UInt64}
use Rattle.plan_types.specs.Casts.{Gives, are_digits, is_numeral, no_place, number_in, placed, read_as, text_to}

digits_test : (ds : List ℕ) → AllDigits 10 ds → are_digits ds ≡ true
digits_test [] h = refl
digits_test (d ∷ ds) h = and_from _ _ (lt-ltb (digit_value d) 10 h.0) (digits_test ds h.1)

test_digits : (ds : List ℕ) → are_digits ds ≡ true → AllDigits 10 ds
test_digits [] h = tt
test_digits (d ∷ ds) h = let parts = and_parts (nat_lt (digit_value d) 10) (are_digits ds) h in (ltb-true (digit_value d) 10 parts.0, test_digits ds parts.1)

numeral_test : (ds : List ℕ) → IsNumeral 10 ds → is_numeral ds ≡ true
numeral_test [] h = absurd (omega (arith, h.0))
numeral_test (d ∷ ds) h = digits_test (d ∷ ds) h.1

test_numeral : (ds : List ℕ) → is_numeral ds ≡ true → IsNumeral 10 ds
test_numeral [] h = cc
test_numeral (d ∷ ds) h = (omega arith, test_digits (d ∷ ds) h)

-- a number that is read is the one that the bytes write
pub read_number : {E : Type 0} (bytes : List ℕ) (r : Result ℤ E) (number : ℤ) → ParsesSigned w128 10 bytes r → r ≡ Ok number → number_in bytes ≡ Some number
read_number bytes r number parses is =
    let ok = subst (λ r. OkIff r (IsNumeral 10 (without_leading_sign bytes) × FitsSigned w128 (signed_digits_value 10 bytes)) (signed_digits_value 10 bytes)) is parses in
    ap (λ b. cond b (Some (signed_digits_value 10 bytes)) None) (numeral_test (without_leading_sign bytes) ok.0.0) ∙ ap Some (sym ok.1)

pub read_fits : {E : Type 0} (bytes : List ℕ) (r : Result ℤ E) (number : ℤ) → ParsesSigned w128 10 bytes r → r ≡ Ok number → FitsSigned w128 number
read_fits bytes r number parses is =
    let ok = subst (λ r. OkIff r (IsNumeral 10 (without_leading_sign bytes) × FitsSigned w128 (signed_digits_value 10 bytes)) (signed_digits_value 10 bytes)) is parses in
    subst (FitsSigned w128) (sym ok.1) ok.0.1

-- and where none is read, they write none of so many bits
pub no_number_read : {E : Type 0} (bytes : List ℕ) (r : Result ℤ E) (error : E) → ParsesSigned w128 10 bytes r → r ≡ Err error → (number : ℤ) → number_in bytes ≡ Some number → FitsSigned w128 number → ⊥
no_number_read bytes r error parses is number e fits =
    let none = subst (λ r. OkIff r (IsNumeral 10 (without_leading_sign bytes) × FitsSigned w128 (signed_digits_value 10 bytes)) (signed_digits_value 10 bytes)) is parses in
    let ds = without_leading_sign bytes in
    elim (is_numeral ds) as (λ b. is_numeral ds ≡ b → cond b (Some (signed_digits_value 10 bytes)) None ≡ Some number → ⊥) [
      | true ↦ λ t e. let same : signed_digits_value 10 bytes ≡ number = cc in none (test_numeral ds t, subst (FitsSigned w128) (sym same) fits)
      | false ↦ λ t e. cc
    ] refl e

pub text_bytes : (bytes text : List ℕ) → IsUtf8 bytes → chars bytes ≡ text → encode_utf8_all text ≡ bytes
text_bytes bytes text utf8 is = ap encode_utf8_all (sym is) ∙ encodes-chars bytes utf8

small : (n : ℕ) → n < 2 ^ 127 → n + 1 < 10 ^ 64
small n h = omega (arith, h)

written_is_ascii : (z : ℤ) → FitsSigned w128 z → IsAscii (signed_decimal z)
written_is_ascii (pos n) fits i = IsAscii-decimal_wide n (omega (arith, small n fits.sfits)) i
written_is_ascii (negsuc n) fits zero = omega arith
written_is_ascii (negsuc n) fits (suc i) = IsAscii-decimal_wide (suc n) (omega (arith, small n fits.sfits)) i

-- the characters of a number's bytes
pub written : (bytes : List ℕ) (number : ℤ) → FitsSigned w128 number → bytes ≡ signed_decimal number → chars bytes ≡ signed_decimal number
written bytes number fits is = ap chars is ∙ chars-IsAscii (signed_decimal number) (written_is_ascii number fits)

inside : (n : ℕ) → n < 2 ^ 64 → n < 2 ^ 127
inside n h = omega (arith, h)

within_pos : (n : ℕ) (low high : ℤ) → high ≤ℤ pos 18446744073709551616 → (not (int_lt (pos n) low) && int_lt (pos n) high) ≡ true → n < 2 ^ 64
within_pos n low high h b = grind (arith, ints)

within_neg : (n : ℕ) (low high : ℤ) → neg_ℤ (pos 9223372036854775808) ≤ℤ low → (not (int_lt (negsuc n) low) && int_lt (negsuc n) high) ≡ true → n < 2 ^ 64
within_neg n low high l b = grind (arith, ints)

-- a number between -(2 ^ 63) and 2 ^ 64
narrow : (number low high : ℤ) → neg_ℤ (pos 9223372036854775808) ≤ℤ low → high ≤ℤ pos 18446744073709551616 → (not (int_lt number low) && int_lt number high) ≡ true → FitsSigned w128 number
narrow (pos n) low high l h b = record { sfits = inside n (within_pos n low high h b) }
narrow (negsuc n) low high l h b = record { sfits = inside n (within_neg n low high l b) }

-- an integer type of columns has no number of more bits
pub integer_is_narrow : (dtype : DataType) (number : ℤ) → is_integer (ty dtype) ≡ true → in_range (ty dtype) number ≡ true → FitsSigned w128 number
integer_is_narrow Int8 number i h = narrow number _ _ (omega (arith, ints)) (omega (arith, ints)) h
integer_is_narrow Int16 number i h = narrow number _ _ (omega (arith, ints)) (omega (arith, ints)) h
integer_is_narrow Int32 number i h = narrow number _ _ (omega (arith, ints)) (omega (arith, ints)) h
integer_is_narrow Int64 number i h = narrow number _ _ (omega (arith, ints)) (omega (arith, ints)) h
integer_is_narrow UInt8 number i h = narrow number _ _ (omega (arith, ints)) (omega (arith, ints)) h
integer_is_narrow UInt16 number i h = narrow number _ _ (omega (arith, ints)) (omega (arith, ints)) h
integer_is_narrow UInt32 number i h = narrow number _ _ (omega (arith, ints)) (omega (arith, ints)) h
integer_is_narrow UInt64 number i h = narrow number _ _ (omega (arith, ints)) (omega (arith, ints)) h
integer_is_narrow _ number i h = cc

placed_out : (options : CastOptions) (type : Ty) (number : ℤ) → (in_range type number ≡ true → ⊥) → placed options type number ≡ no_place options
placed_out options type number out =
    elim (in_range type number) as (λ b. in_range type number ≡ b → cond b (Gives (IntValue number)) (no_place options) ≡ no_place options) [ true ↦ λ e. absurd (out e) | false ↦ λ e. refl ] refl

integer_reads : (text : List ℕ) (type : Ty) (options : CastOptions) → is_integer type ≡ true → text_to text type options ≡ read_as type options (number_in (encode_utf8_all text))
integer_reads text (Integer signed bits) options i = refl
integer_reads text _ options i = cc

read_none : (options : CastOptions) (text : List ℕ) (dtype : DataType) → is_integer (ty dtype) ≡ true → (o : Option ℤ) → number_in (encode_utf8_all text) ≡ o → ((number : ℤ) → number_in (encode_utf8_all text) ≡ Some number → FitsSigned w128 number → ⊥) → text_to text (ty dtype) options ≡ no_place options
read_none options text dtype i None e none = integer_reads text (ty dtype) options i ∙ ap (read_as (ty dtype) options) e
read_none options text dtype i (Some number) e none =
    integer_reads text (ty dtype) options i ∙ ap (read_as (ty dtype) options) e ∙ placed_out options (ty dtype) number (λ r. none number e (integer_is_narrow dtype number i r))

pub read_some : (options : CastOptions) (text : List ℕ) (dtype : DataType) (number : ℤ) → is_integer (ty dtype) ≡ true → number_in (encode_utf8_all text) ≡ Some number → text_to text (ty dtype) options ≡ placed options (ty dtype) number
read_some options text dtype number i e = integer_reads text (ty dtype) options i ∙ ap (read_as (ty dtype) options) e

-- so where none of so many bits is read, the text has none of the type
pub unread : (options : CastOptions) (text : List ℕ) (dtype : DataType) → is_integer (ty dtype) ≡ true → ((number : ℤ) → number_in (encode_utf8_all text) ≡ Some number → FitsSigned w128 number → ⊥) → text_to text (ty dtype) options ≡ no_place options
unread options text dtype i none = read_none options text dtype i (number_in (encode_utf8_all text)) refl none

-- how truth values are written
pub true_characters : chars (codes "true") ≡ codes "true"
unfolding lib.Utf8.encode
true_characters = chars-encodes (codes "true") refl

pub false_characters : chars (codes "false") ≡ codes "false"
unfolding lib.Utf8.encode
false_characters = chars-encodes (codes "false") refl
