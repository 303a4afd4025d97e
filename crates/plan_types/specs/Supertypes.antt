-- Common types.
-- Null is of any type. Integers of one sign have the wider of the two. A signed and an unsigned one have the least
-- signed type that holds both, which UInt64 has with none. Truth values beside an integer are of its type, and both
-- beside a text are written as texts. Days beside moments are moments, and of two units the coarser is taken. Lists have
-- lists of their items' common type, and structs of the same names in order have structs of their fields' common types.
-- A number without a type has a common type with itself and null alone. The relation is symmetric.
use Rattle.std.specs.Prelude.{ℕ, ◌*◌, true, false, not, ◌&&◌, Option, Some, None, List, max, nat_lt, if◌then◌else◌}
use Rattle.std.specs.Ordering.{int_eq}
use Rattle.std.specs.Option.{option_map}
use Rattle.std.specs.Str.{bytes_eq}
use Rattle.plan_types.specs.Types.{Ty, NullType, Truth, Integer, TextType, DateType, TimeType, DatetimeType, DurationType, ListType, StructType, Untyped, Fields, no_field, with_field, coarser, is_integer, same_type}

-- the least signed type that holds a signed and an unsigned type of these widths
abbrev pub signed_above : ℕ → ℕ → Option Ty
signed_above signed unsigned =
    if nat_lt unsigned signed
    then Some (Integer true signed)
    else (if nat_lt unsigned 64 then Some (Integer true (2 * unsigned)) else None)

-- a field in front of others, where there are all of these
abbrev pub in_front : List ℕ → Option Ty → Option Fields → Option Fields
in_front name None rest = None
in_front name (Some type) None = None
in_front name (Some type) (Some rest) = Some (with_field name type rest)

-- the type that holds the values of both
abbrev mutual
  pub supertype : Ty → Ty → Option Ty
  supertype NullType right = Some right
  supertype left NullType = Some left
  supertype Truth Truth = Some Truth
  supertype Truth (Integer signed bits) = Some (Integer signed bits)
  supertype Truth TextType = Some TextType
  supertype (Integer signed bits) Truth = Some (Integer signed bits)
  supertype (Integer true left) (Integer true right) = Some (Integer true (max left right))
  supertype (Integer false left) (Integer false right) = Some (Integer false (max left right))
  supertype (Integer true left) (Integer false right) = signed_above left right
  supertype (Integer false left) (Integer true right) = signed_above right left
  supertype (Integer signed bits) TextType = Some TextType
  supertype TextType Truth = Some TextType
  supertype TextType (Integer signed bits) = Some TextType
  supertype TextType TextType = Some TextType
  supertype DateType DateType = Some DateType
  supertype DateType (DatetimeType unit) = Some (DatetimeType unit)
  supertype TimeType TimeType = Some TimeType
  supertype (DatetimeType unit) DateType = Some (DatetimeType unit)
  supertype (DatetimeType unit) (DatetimeType other) = Some (DatetimeType (coarser unit other))
  supertype (DurationType unit) (DurationType other) = Some (DurationType (coarser unit other))
  supertype (ListType item) (ListType other) = option_map ListType (supertype item other)
  supertype (StructType fields) (StructType others) = option_map StructType (super_fields fields others)
  supertype (Untyped number) (Untyped other) = if int_eq number other then Some (Untyped number) else None
  supertype left right = None

  -- the common types of fields side by side, whose names are the same
  pub super_fields : Fields → Fields → Option Fields
  super_fields no_field no_field = Some no_field
  super_fields no_field (with_field other found others) = None
  super_fields (with_field name type rest) no_field = None
  super_fields (with_field name type rest) (with_field other found others) =
      if bytes_eq name other then in_front name (supertype type found) (super_fields rest others) else None

-- the common type of two integer types that differ
abbrev pub upcast : Ty → Ty → Option Ty
upcast left right =
    if is_integer left && (is_integer right && not (same_type left right)) then supertype left right else None
