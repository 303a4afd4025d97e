-- Values of a type: numbers that wrap around, casts, columns of frames; outcomes that are not stuck.
use Rattle.std.specs.Prelude.{◌/◌}
use Rattle.std.proofs.Math.Nat.{add-zero}
use Rattle.std.proofs.Common.{◌≡◌, ℕ, zero, suc, ◌+◌, ◌*◌, ◌-◌, sym, ◌∙◌, ◌^◌, ◌<◌, ◌≤◌, Bool, true, false, ◌&&◌, not, cond, List, [], ◌∷◌, IsTrue, refl, ap, arith, subst, map, Option, Some, None, encode_utf8_all, slice_get, unwrap_or}
use Rattle.std.specs.List.{AllByRecursion}
use Rattle.std.specs.Prelude.{ℤ, pos, negsuc, neg_ℤ, ◌*ℤ◌, ◌-ℤ◌, ◌≤ℤ◌, int_lt, nat_lt}
use Rattle.std.proofs.Math.Nat.{mod-lt, pow-suc, suc-mul}
use Rattle.std.proofs.lemmas.Nat.{div-mul-add, pow_pos}
use Rattle.std.proofs.lemmas.Int.{ints}
use Rattle.std.proofs.lemmas.Bool.{ltb-true, ltb-false, and_from, and_parts}
use Rattle.std.specs.Int.{int_div_euclid}
use Rattle.plan_types.specs.Types.{Ty, Truth, Integer, TextType, DateType, DatetimeType, DurationType, ListType, StructType, Untyped, Fields, no_field, with_field, per_day}
use Rattle.plan_types.specs.Values.{Val, NullValue, TruthValue, IntValue, TextValue, ListValue, StructValue, Vals, no_value, with_value, in_range, fits, items_fit, parts_fit, all_fit}
use Rattle.plan_types.specs.Schemas.{Name, Columns, same_name, type_at}
use Rattle.plan_types.specs.Frames.{Row, Frame, RowFits, IsFrame, value_in, row_at}
use Rattle.plan_types.specs.declared.dtype.TimeUnit.{TimeUnit}
use Rattle.plan_types.specs.declared.dtype.TimeUnit.TheVariants.{Nanoseconds, Microseconds, Milliseconds}
use Rattle.plan_types.specs.declared.dtype.CastOptions.{CastOptions}
use Rattle.plan_types.specs.declared.dtype.CastOptions.TheVariants.{Strict, NonStrict, Overflowing}
use Rattle.plan_types.specs.Outcomes.{Outcome, Done, Fault, Stuck, Meets, then_do}
use Rattle.plan_types.specs.Casts.{Converted, Gives, Fails, can_cast, can_cast_fields, cast, cast_items, cast_parts, converted_in_front, gathered, integer_to, low_bits, no_place, number_in, number_of, number_to, out_of_range, placed, read_as, rescaled, text_to, truth_to, wrapped, wrapped_signed}

-- the low bits are as few as they are
low_bits_below : (bits : ℕ) (number : ℤ) → low_bits bits number < 2 ^ bits
low_bits_below bits (pos n) = mod-lt n (pow_pos bits)
low_bits_below bits (negsuc n) = let p = pow_pos bits in omega arith

within_unsigned : (low whole : ℕ) → low < whole → (not (int_lt (pos low) (pos 0)) && int_lt (pos low) (pos whole)) ≡ true
within_unsigned low whole h = grind (arith, ints)

within_upper : (low half : ℕ) → low < half → (not (int_lt (pos low) (neg_ℤ (pos half))) && int_lt (pos low) (pos half)) ≡ true
within_upper low half h = grind (arith, ints)

within_lower : (low half whole : ℕ) → low < whole → half ≤ low → whole ≤ half + half → (not (int_lt (pos low -ℤ pos whole) (neg_ℤ (pos half))) && int_lt (pos low -ℤ pos whole) (pos half)) ≡ true
within_lower low half whole h k l = grind (arith, ints)

half_of : (bits : ℕ) → 2 ^ bits ≤ 2 ^ (bits - 1) + 2 ^ (bits - 1)
half_of zero = omega arith
half_of (suc bits) = let e : suc bits - 1 ≡ bits = omega arith in omega (arith, pow-suc 2 bits, ap (λ n. 2 ^ n) e)

-- a number that wraps around in an integer type is in its range
pub wrapped_signed_in_range : (bits : ℕ) (number : ℤ) → in_range (Integer true bits) (wrapped_signed bits number) ≡ true
wrapped_signed_in_range bits number =
    let low = low_bits bits number in
    let half = 2 ^ (bits - 1) in
    elim (nat_lt low half) as (λ b. nat_lt low half ≡ b → in_range (Integer true bits) (cond b (pos low) (pos low -ℤ pos (2 ^ bits))) ≡ true) [ true ↦ λ e. within_upper low half (ltb-true low half e) | false ↦ λ e. within_lower low half (2 ^ bits) (low_bits_below bits number) (ltb-false low half e) (half_of bits) ] refl

pub wrapped_in_range : (signed : Bool) (bits : ℕ) (number : ℤ) → in_range (Integer signed bits) (wrapped (Integer signed bits) number) ≡ true
wrapped_in_range false bits number = within_unsigned (low_bits bits number) (2 ^ bits) (low_bits_below bits number)
wrapped_in_range true bits number = wrapped_signed_in_range bits number

-- a number that is counted in the unit that it has
scaled_back : (p : ℕ) (number : ℤ) → 0 < p → int_div_euclid (number *ℤ pos p) (pos p) ≡ number
scaled_back zero number h = absurd (omega (arith, h))
scaled_back (suc q) (pos n) h = ap pos (ap (λ m. m / suc q) (sym (add-zero (n * suc q))) ∙ div-mul-add n (suc q) 0 (omega arith))
scaled_back (suc q) (negsuc n) h =
    let e : suc n * suc q ≡ suc (n * suc q + q) = omega (arith, suc-mul n (suc q)) in
    ap (λ m. int_div_euclid (neg_ℤ (pos m)) (pos (suc q))) e ∙ ap negsuc (div-mul-add n (suc q) q (omega arith))

pub rescaled_itself : (unit : TimeUnit) (number : ℤ) → rescaled (per_day unit) (per_day unit) number ≡ number
rescaled_itself Nanoseconds number = scaled_back 86400000000000 number (omega arith)
rescaled_itself Microseconds number = scaled_back 86400000000 number (omega arith)
rescaled_itself Milliseconds number = scaled_back 86400000 number (omega arith)

-- what a cast gives, where it gives a value, fits the type
abbrev pub ConvertedFits : Ty → Converted → Type 0
ConvertedFits type (Gives value) = IsTrue (fits value type)
ConvertedFits type Fails = Unit {0}

out_of_range_fits : (options : CastOptions) (signed : Bool) (bits : ℕ) (number : ℤ) → ConvertedFits (Integer signed bits) (out_of_range options (Integer signed bits) number)
out_of_range_fits Strict signed bits number = tt
out_of_range_fits NonStrict signed bits number = refl
out_of_range_fits Overflowing signed bits number = wrapped_in_range signed bits number

no_place_fits : (options : CastOptions) (type : Ty) → ConvertedFits type (no_place options)
no_place_fits Strict type = tt
no_place_fits NonStrict type = refl
no_place_fits Overflowing type = refl

placed_fits : (options : CastOptions) (type : Ty) (number : ℤ) → ConvertedFits type (placed options type number)
placed_fits options type number =
    elim (in_range type number) as (λ b. in_range type number ≡ b → ConvertedFits type (cond b (Gives (IntValue number)) (no_place options))) [ true ↦ λ r. r | false ↦ λ r. no_place_fits options type ] refl

integer_to_fits : (number : ℤ) (target : Ty) (options : CastOptions) → ConvertedFits target (integer_to number target options)
integer_to_fits number Truth options = refl
integer_to_fits number (Integer signed bits) options =
    elim (in_range (Integer signed bits) number) as (λ b. in_range (Integer signed bits) number ≡ b → ConvertedFits (Integer signed bits) (cond b (Gives (IntValue number)) (out_of_range options (Integer signed bits) number))) [ true ↦ λ r. r | false ↦ λ r. out_of_range_fits options signed bits number ] refl
integer_to_fits number TextType options = refl
integer_to_fits number target options = placed_fits options target number

pub number_to_fits : (from : Ty) (number : ℤ) (target : Ty) (options : CastOptions) → ConvertedFits target (number_to from number target options)
number_to_fits DateType number (DatetimeType unit) options = placed_fits options (DatetimeType unit) (rescaled 1 (per_day unit) number)
number_to_fits (DatetimeType unit) number DateType options = placed_fits options DateType (rescaled (per_day unit) 1 number)
number_to_fits (DatetimeType unit) number (DatetimeType other) options = placed_fits options (DatetimeType other) (rescaled (per_day unit) (per_day other) number)
number_to_fits (DurationType unit) number (DurationType other) options = placed_fits options (DurationType other) (rescaled (per_day unit) (per_day other) number)
number_to_fits from number target options = integer_to_fits number target options

truth_to_fits : (truth : Bool) (target : Ty) (options : CastOptions) → ConvertedFits target (truth_to truth target options)
truth_to_fits truth Truth options = refl
truth_to_fits truth (Integer signed bits) options = integer_to_fits (number_of truth) (Integer signed bits) options
truth_to_fits truth TextType options = refl
truth_to_fits truth target options = no_place_fits options target

text_to_fits : (text : List ℕ) (target : Ty) (options : CastOptions) → ConvertedFits target (text_to text target options)
text_to_fits text (Integer signed bits) options =
    elim (number_in (encode_utf8_all text)) as (λ o. ConvertedFits (Integer signed bits) (read_as (Integer signed bits) options o)) [ None ↦ no_place_fits options (Integer signed bits) | Some number ↦ placed_fits options (Integer signed bits) number ]
text_to_fits text TextType options = refl
text_to_fits text target options = no_place_fits options target

-- what a cast gives of the values of a list, and of those of a struct, fits
abbrev ItemsFit : Ty → Option Vals → Type 0
ItemsFit type None = Unit {0}
ItemsFit type (Some values) = IsTrue (items_fit values type)

abbrev PartsFit : Fields → Option Vals → Type 0
PartsFit fields None = Unit {0}
PartsFit fields (Some values) = IsTrue (parts_fit values fields)

list_fits : (type : Ty) (values : Option Vals) → ItemsFit type values → ConvertedFits (ListType type) (gathered ListValue values)
list_fits type None h = tt
list_fits type (Some values) h = h

struct_fits : (fields : Fields) (values : Option Vals) → PartsFit fields values → ConvertedFits (StructType fields) (gathered StructValue values)
struct_fits fields None h = tt
struct_fits fields (Some values) h = h

item_in_front : (type : Ty) (c : Converted) (rest : Option Vals) → ConvertedFits type c → ItemsFit type rest → ItemsFit type (converted_in_front c rest)
item_in_front type Fails rest f g = tt
item_in_front type (Gives first) None f g = tt
item_in_front type (Gives first) (Some rest) f g = and_from _ _ f g

part_in_front : (name : List ℕ) (type : Ty) (others : Fields) (c : Converted) (rest : Option Vals) → ConvertedFits type c → PartsFit others rest → PartsFit (with_field name type others) (converted_in_front c rest)
part_in_front name type others Fails rest f g = tt
part_in_front name type others (Gives first) None f g = tt
part_in_front name type others (Gives first) (Some rest) f g = and_from _ _ f g

-- what a cast gives fits the target, where there is such a cast and the value fits its own type
mutual
  pub cast_fits : (value : Val) (from target : Ty) (options : CastOptions) → fits value from ≡ true → can_cast from target ≡ true → ConvertedFits target (cast value from target options)
  cast_fits NullValue from target options h k = refl
  cast_fits (TruthValue truth) from target options h k = truth_to_fits truth target options
  cast_fits (IntValue number) from target options h k = number_to_fits from number target options
  cast_fits (TextValue text) from target options h k = text_to_fits text target options
  cast_fits (ListValue items) (ListType item) (ListType other) options h k = list_fits other (cast_items items item other options) (items_fit_cast items item other options h k)
  cast_fits (ListValue items) (ListType item) target options h k = no_place_fits options target
  cast_fits (ListValue items) from target options h k = no_place_fits options target
  cast_fits (StructValue parts) (StructType fields) (StructType others) options h k = struct_fits others (cast_parts parts fields others options) (parts_fit_cast parts fields others options h k)
  cast_fits (StructValue parts) (StructType fields) target options h k = no_place_fits options target
  cast_fits (StructValue parts) from target options h k = no_place_fits options target

  items_fit_cast : (items : Vals) (from target : Ty) (options : CastOptions) → items_fit items from ≡ true → can_cast from target ≡ true → ItemsFit target (cast_items items from target options)
  items_fit_cast no_value from target options h k = refl
  items_fit_cast (with_value first rest) from target options h k =
      let p = and_parts (fits first from) (items_fit rest from) h in
      item_in_front target (cast first from target options) (cast_items rest from target options) (cast_fits first from target options p.0 k) (items_fit_cast rest from target options p.1 k)

  parts_fit_cast : (parts : Vals) (fields others : Fields) (options : CastOptions) → parts_fit parts fields ≡ true → can_cast_fields fields others ≡ true → PartsFit others (cast_parts parts fields others options)
  parts_fit_cast no_value no_field no_field options h k = refl
  parts_fit_cast no_value no_field (with_field other target targets) options h k = cc
  parts_fit_cast no_value (with_field name from froms) others options h k = cc
  parts_fit_cast (with_value first rest) no_field others options h k = cc
  parts_fit_cast (with_value first rest) (with_field name from froms) no_field options h k = cc
  parts_fit_cast (with_value first rest) (with_field name from froms) (with_field other target targets) options h k =
      let p = and_parts (fits first from) (parts_fit rest froms) h in
      let q = and_parts (can_cast from target) (can_cast_fields froms targets) k in
      part_in_front other target targets (cast first from target options) (cast_parts rest froms targets options) (cast_fits first from target options p.0 q.0) (parts_fit_cast rest froms targets options p.1 q.1)

-- a row's value in a column fits the column's type
pub value_in_fits : (columns : Columns) (name : Name) (row : Row) (type : Ty) → RowFits columns row → type_at columns name ≡ Some type → IsTrue (fits (value_in columns name row) type)
value_in_fits [] name row type h at = refl
value_in_fits (column ∷ columns) name [] type h at = refl
value_in_fits (column ∷ columns) name (value ∷ values) type h at =
    elim (same_name name column.0) as (λ b. cond b (Some column.1) (type_at columns name) ≡ Some type → IsTrue (fits (cond b value (value_in columns name values)) type)) [ true ↦ λ e. let same : column.1 ≡ type = cc in subst (λ t. IsTrue (fits value t)) same h.0 | false ↦ λ e. value_in_fits columns name values type h.1 e ] at

value_in_none : (columns : Columns) (name : Name) → value_in columns name [] ≡ NullValue
value_in_none [] name = refl
value_in_none (column ∷ columns) name = refl

-- also where there is no row of the number
pub value_at_fits : (columns : Columns) (rows : List Row) (name : Name) (type : Ty) → AllByRecursion (RowFits columns) rows → type_at columns name ≡ Some type → (number : ℕ) → IsTrue (fits (value_in columns name (unwrap_or (slice_get rows number) [])) type)
value_at_fits columns [] name type h at number = ap (λ value. fits value type) (value_in_none columns name)
value_at_fits columns (row ∷ rows) name type h at zero = value_in_fits columns name row type h.0 at
value_at_fits columns (row ∷ rows) name type h at (suc number) = value_at_fits columns rows name type h.1 at number

-- a column of a frame fits its type, at any rows
pub column_fits : (frame : Frame) (name : Name) (type : Ty) → IsFrame frame → type_at frame.schema name ≡ Some type → (rows : List ℕ) → IsTrue (all_fit (map (λ number. value_in frame.schema name (row_at frame number)) rows) type)
column_fits frame name type h at [] = refl
column_fits frame name type h at (number ∷ rows) =
    and_from _ _ (value_at_fits frame.schema frame.rows name type h.fitting at number) (column_fits frame name type h at rows)

-- what is not stuck goes on to what is not
pub meets_then : {A B : Type 0} (P : A → Type 0) (Q : B → Type 0) (outcome : Outcome A) (next : A → Outcome B) → Meets P outcome → ((found : A) → P found → Meets Q (next found)) → Meets Q (then_do outcome next)
meets_then P Q (Done found) next h each = each found h
meets_then P Q Fault next h each = tt
meets_then P Q Stuck next h each = absurd h

pub meets_as : {A : Type 0} (P Q : A → Type 0) (outcome : Outcome A) → Meets P outcome → ((found : A) → P found → Q found) → Meets Q outcome
meets_as P Q (Done found) h each = each found h
meets_as P Q Fault h each = tt
meets_as P Q Stuck h each = absurd h

-- a number that fits the type of a number without one is that number
pub int_eq_exact : (own number : ℤ) → in_range (Untyped own) number ≡ true → own ≡ number
int_eq_exact own number h = let parts : (own ≤ℤ number) × (number ≤ℤ own) = grind (arith, ints) in omega (arith, ints, parts)
