-- An order of types, which common types keep to, and the common type of any number of types.
-- Null is below all types. Truth values and integers are below texts, truth values below integers, integers below those
-- that have their numbers, days below moments, and units below coarser ones. Lists and structs go by their parts, in
-- order. A number's own type is below itself alone.
use Rattle.std.specs.Prelude.{ℕ, ◌-◌, Bool, true, false, ◌&&◌, nat_le, List, [], ◌∷◌, Option, Some, option_and_then}
use Rattle.std.specs.Ordering.{int_eq}
use Rattle.std.specs.Str.{bytes_eq}
use Rattle.plan_types.specs.Types.{Ty, NullType, Truth, Integer, TextType, DateType, TimeType, DatetimeType, DurationType, ListType, StructType, Untyped, Fields, no_field, with_field, unit_rank}
use Rattle.plan_types.specs.declared.dtype.TimeUnit.{TimeUnit}
use Rattle.plan_types.specs.Supertypes.{supertype}

-- whether integers of a sign and so many bits are all of another sign and number of bits
abbrev pub is_narrower : Bool → ℕ → Bool → ℕ → Bool
is_narrower true bits true width = nat_le bits width
is_narrower true bits false width = false
is_narrower false bits true width = nat_le bits (width - 1)
is_narrower false bits false width = nat_le bits width

-- whether the one unit is the other or finer
abbrev pub unit_is_below : TimeUnit → TimeUnit → Bool
unit_is_below unit other = nat_le (unit_rank unit) (unit_rank other)

-- whether the one type is the other or below it
abbrev mutual
  pub is_below : Ty → Ty → Bool
  is_below NullType other = true
  is_below Truth Truth = true
  is_below Truth (Integer signed bits) = true
  is_below Truth TextType = true
  is_below (Integer signed bits) (Integer other width) = is_narrower signed bits other width
  is_below (Integer signed bits) TextType = true
  is_below TextType TextType = true
  is_below DateType DateType = true
  is_below DateType (DatetimeType unit) = true
  is_below TimeType TimeType = true
  is_below (DatetimeType unit) (DatetimeType other) = unit_is_below unit other
  is_below (DurationType unit) (DurationType other) = unit_is_below unit other
  is_below (ListType item) (ListType other) = is_below item other
  is_below (StructType fields) (StructType others) = are_below fields others
  is_below (Untyped number) (Untyped other) = int_eq number other
  is_below type other = false

  -- whether fields side by side have the same names, each with a type below the other's
  pub are_below : Fields → Fields → Bool
  are_below no_field no_field = true
  are_below no_field (with_field other found others) = false
  are_below (with_field name type rest) no_field = false
  are_below (with_field name type rest) (with_field other found others) = bytes_eq name other && (is_below type found && are_below rest others)

-- the common type of a type and further ones, one after another
abbrev pub folded_from : Ty → List Ty → Option Ty
folded_from found [] = Some found
folded_from found (type ∷ types) = option_and_then (λ common. folded_from common types) (supertype found type)

-- the common type of types: null where there are none
abbrev pub folded_type : List Ty → Option Ty
folded_type types = folded_from NullType types
