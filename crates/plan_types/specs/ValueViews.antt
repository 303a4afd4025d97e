-- Values as the code keeps them, and why a cast of one gives none.
use Rattle.std.specs.Prelude.{◌≡◌, [], ◌∷◌, map, Option, None}
use Rattle.std.specs.Prelude.{List as Many}
use Rattle.plan_types.specs.Values.{Val, NullValue, TruthValue, IntValue, TextValue, ListValue, StructValue, Vals, no_value, with_value}
use Rattle.plan_types.specs.Casts.{Converted, Fails}
use Rattle.plan_types.specs.declared.value.Value.{Value, Row_of-Value, end_of-Value, more_of-Value}
use Rattle.plan_types.specs.declared.value.Value.TheVariants.{Null, Boolean, Int, Text, List', Struct'}
use Rattle.plan_types.specs.declared.value.Parts.{Parts}
use Rattle.plan_types.specs.declared.error.CastError.{CastError}
use Rattle.plan_types.specs.declared.error.CastError.TheVariants.{Failing, NoMemory}

-- the value that the code keeps
abbrev mutual
  pub val_of : Value → Val
  val_of Null = NullValue
  val_of (Boolean truth) = TruthValue truth
  val_of (Int number) = IntValue number
  val_of (Text text) = TextValue text
  val_of (List' shape items) = ListValue (row_values items)
  val_of (Struct' shape parts) = StructValue (row_values parts)

  -- the values of a row
  pub row_values : {n : _} → Row_of-Value n → Vals
  row_values end_of-Value = no_value
  row_values (more_of-Value first rest) = with_value (val_of first) (row_values rest)

-- the values of a list
abbrev pub values_from : Many Val → Vals
values_from [] = no_value
values_from (first ∷ rest) = with_value first (values_from rest)

abbrev pub values_in : Many Value → Vals
values_in values = values_from (map val_of values)

abbrev pub parts_of : Parts → Vals
parts_of parts = values_in parts.items.items

-- the refusal is out of memory, which may stand in place of any answer, or the cast fails
abbrev pub IsCastError : Converted → CastError → Type 0
IsCastError converted NoMemory = Unit {0}
IsCastError converted Failing = converted ≡ Fails

-- the refusal is out of memory, or a value of a list or a struct fails
abbrev pub IsPartsError : Option Vals → CastError → Type 0
IsPartsError converted NoMemory = Unit {0}
IsPartsError converted Failing = converted ≡ None
