-- Values.
-- A value is null, a truth value, a whole number, a text, a list or a struct. Null fits every type, a truth value and a
-- text their own type, and a number an integer type or one of time whose range has it. A number without a type fits its
-- own. Two values are one where they are of one kind and have the same number, text or values in order; a null is the same
-- as another.
use Rattle.std.specs.Prelude.{◌-◌, ◌^◌, ℕ, ℤ, ◌+ℤ◌, pos, neg_ℤ, int_lt, Bool, true, false, ◌&&◌, not, List, [], ◌∷◌, if◌then◌else◌}
use Rattle.std.specs.Ordering.{int_eq}
use Rattle.std.specs.Str.{bytes_eq}
use Rattle.plan_types.specs.Types.{Ty, Truth, Integer, TextType, DateType, TimeType, DatetimeType, DurationType, ListType, StructType, Untyped, Fields, no_field, with_field}

-- a value, and the values that a list or a struct has, in order
mutual
  pub data Val : Type 0 where
    NullValue : Val
    TruthValue : (truth : Bool) → Val
    IntValue : (number : ℤ) → Val
    TextValue : (text : List ℕ) → Val
    ListValue : (items : Vals) → Val
    StructValue : (parts : Vals) → Val

  pub data Vals : Type 0 where
    no_value : Vals
    with_value : (first : Val) (rest : Vals) → Vals

-- the first number past the greatest of a signed type of so many bits: its least one is the same below 0
abbrev pub signed_end : ℕ → ℤ
signed_end bits = pos (2 ^ (bits - 1))

-- the least number of a type, and the first number past its greatest: days are counted in 32 bits, nanoseconds of a
-- day from 0 on, and moments and spans in 64 bits
abbrev pub least : Ty → ℤ
least (Integer true bits) = neg_ℤ (signed_end bits)
least DateType = neg_ℤ (signed_end 32)
least (DatetimeType unit) = neg_ℤ (signed_end 64)
least (DurationType unit) = neg_ℤ (signed_end 64)
least (Untyped number) = number
least type = pos 0

abbrev pub past_greatest : Ty → ℤ
past_greatest (Integer true bits) = signed_end bits
past_greatest (Integer false bits) = pos (2 ^ bits)
past_greatest DateType = signed_end 32
past_greatest TimeType = pos 86400000000000
past_greatest (DatetimeType unit) = signed_end 64
past_greatest (DurationType unit) = signed_end 64
past_greatest (Untyped number) = number +ℤ pos 1
past_greatest type = pos 0

-- whether the type's range has the number
abbrev pub in_range : Ty → ℤ → Bool
in_range type number = not (int_lt number (least type)) && int_lt number (past_greatest type)

-- whether the value fits the type: each item of a list fits the items' type, and a struct has a fitting part for each
-- field
abbrev mutual
  pub fits : Val → Ty → Bool
  fits NullValue type = true
  fits (TruthValue truth) Truth = true
  fits (TruthValue truth) type = false
  fits (IntValue number) type = in_range type number
  fits (TextValue text) TextType = true
  fits (TextValue text) type = false
  fits (ListValue items) (ListType item) = items_fit items item
  fits (ListValue items) type = false
  fits (StructValue parts) (StructType fields) = parts_fit parts fields
  fits (StructValue parts) type = false

  pub items_fit : Vals → Ty → Bool
  items_fit no_value type = true
  items_fit (with_value first rest) type = fits first type && items_fit rest type

  pub parts_fit : Vals → Fields → Bool
  parts_fit no_value no_field = true
  parts_fit no_value (with_field name type others) = false
  parts_fit (with_value first rest) no_field = false
  parts_fit (with_value first rest) (with_field name type others) = fits first type && parts_fit rest others

-- whether each value does
abbrev pub all_fit : List Val → Ty → Bool
all_fit [] type = true
all_fit (first ∷ rest) type = fits first type && all_fit rest type

-- whether two values are one
abbrev mutual
  pub same_value : Val → Val → Bool
  same_value NullValue NullValue = true
  same_value (TruthValue left) (TruthValue right) = if left then right else not right
  same_value (IntValue left) (IntValue right) = int_eq left right
  same_value (TextValue left) (TextValue right) = bytes_eq left right
  same_value (ListValue left) (ListValue right) = same_values left right
  same_value (StructValue left) (StructValue right) = same_values left right
  same_value left right = false

  pub same_values : Vals → Vals → Bool
  same_values no_value no_value = true
  same_values no_value (with_value first rest) = false
  same_values (with_value first rest) no_value = false
  same_values (with_value first rest) (with_value other others) = same_value first other && same_values rest others
