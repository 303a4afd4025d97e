-- Literals: numbers that texts write, and types of numbers.
use Rattle.plan_json.proofs.Names.{Bool, Err, FitsSigned, List, None, Ok, Result, Some, ap, arith, cond, false, option_and_then, option_map, refl, slice_index, sym, true, ℕ, ℤ, ◌&&◌, ◌<◌, ◌==◌, ◌^◌, ◌∙◌, ◌≡◌, FaultKind, a_counted_type, a_number_of, a_type, a_typed_literal, has_type_shape, key, may_be_counted, number, own_fault, part, part_of, shape_fault, typed_part, unless, two_items, whole_number, Data, counted_of, narrow, number_of, number_written, type_of, typed_op, fits, option_map_or, Integer, Ty, is_counted, IsErrorOf, negsuc, pos, w128, ints, JsonError, no_number_read, read_fits, read_number, LiteralOp, false_from_ne_true, none-some}
use Rattle.std.specs.Str.Parse.{ParsesSigned}
use Rattle.std.proofs.Math.Bool.{and-false}
use Rattle.plan_types.specs.Casts.{number_in}
use Rattle.plan_types.specs.Values.{IntValue, in_range}
use Rattle.plan_json.proofs.FaultLemmas.{stricter_error}
use Rattle.plan_json.proofs.ItemLemmas.{unchained}

-- ---- 128 bits with a sign

fits_wide : (z : ℤ) → FitsSigned w128 z → in_range (Integer true 128) z ≡ true
fits_wide (pos n) fits = let h : n < 2 ^ 127 = fits.sfits in grind (arith, ints, h)
fits_wide (negsuc n) fits = let h : n < 2 ^ 127 = fits.sfits in grind (arith, ints, h)

wide_fits : (z : ℤ) → in_range (Integer true 128) z ≡ true → FitsSigned w128 z
wide_fits (pos n) h = let below : n < 2 ^ 127 = grind (arith, ints) in record { sfits = below }
wide_fits (negsuc n) h = let below : n < 2 ^ 127 = grind (arith, ints) in record { sfits = below }

-- ---- numbers that texts write

pub written : {E : Type 0} (bytes : List ℕ) (r : Result ℤ E) (z : ℤ) → ParsesSigned w128 10 bytes r → r ≡ Ok z → (slice_index bytes 0 == 43) ≡ false → number_written bytes ≡ Some z
written bytes r z parses is plain =
    ap (λ b. cond b None (option_and_then narrow (number_in bytes))) plain ∙ ap (option_and_then narrow) (read_number bytes r z parses is) ∙ ap (λ b. cond b (Some z) None) (fits_wide z (read_fits bytes r z parses is))

pub unwritten : {E : Type 0} (bytes : List ℕ) (r : Result ℤ E) (error : E) → ParsesSigned w128 10 bytes r → r ≡ Err error → (slice_index bytes 0 == 43) ≡ false → number_written bytes ≡ None
unwritten bytes r error parses is plain =
    ap (λ b. cond b None (option_and_then narrow (number_in bytes))) plain
    ∙ unchained narrow (number_in bytes) (λ z e. ap (λ b. cond b (Some z) None) (false_from_ne_true _ (λ wide. no_number_read bytes r error parses is z e (wide_fits z wide))))

-- ---- types of integers and of time

-- an error of a value that must be a type is one of a value that must be such a type
pub counted_error : (d : Data) (error : JsonError) → IsErrorOf a_type d error → IsErrorOf a_counted_type d error
counted_error d error bad =
    let own : Bool → FaultKind → Type 0 = λ b kind. unless (shape_fault d) b ≡ Some kind in
    stricter_error a_type a_counted_type d (λ kind. elim (has_type_shape d) as (λ b. own b kind → own (b && may_be_counted d) kind) [ true ↦ λ h. absurd (none-some kind h) | false ↦ λ h. h ])
    (λ step. elim step as (λ s. part_of a_type s d ≡ part_of a_counted_type s d) [ key word ↦ refl | number n ↦ refl ]) error bad

-- a type of another kind is at fault itself
pub other_kind : (d : Data) (type : Ty) → type_of d ≡ Some type → is_counted type ≡ false → own_fault a_counted_type d ≡ Some (shape_fault d)
other_kind d type is other =
    ap (λ o. unless (shape_fault d) (has_type_shape d && option_map_or is_counted o true)) is ∙ ap (λ b. unless (shape_fault d) (has_type_shape d && b)) other ∙ ap (unless (shape_fault d)) (and-false (has_type_shape d))

-- a number that the type has
pub number_had : (type : Ty) (d : Data) (z : ℤ) → Some z ≡ whole_number d → (is_counted type && in_range type z) ≡ true → number_of type d ≡ Some (LiteralOp type (IntValue z))
number_had type d z is has = ap (option_and_then (typed_op type)) (sym is) ∙ ap (λ b. cond b (Some (LiteralOp type (IntValue z))) None) has

-- the number stands behind the type
pub number_place : (d : Data) (pair : Data × Data) (type : Ty) → Some pair ≡ two_items d → counted_of pair.0 ≡ Some type → part_of a_typed_literal (number 1) d ≡ Some (part (a_number_of type) pair.1)
number_place d pair type is counts = ap (option_and_then (typed_part 1)) (sym is) ∙ ap (option_map (λ t. part (a_number_of t) pair.1)) counts
