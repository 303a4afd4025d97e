-- The types to which functions take operands that have no signature.
use Rattle.std.specs.Prelude.{nat_lt, [], ◌∷◌, Option, Some, None, Result, Ok, Err, if◌then◌else◌}
use Rattle.plan_types.specs.Types.{Ty, NullType, Truth, Integer, DatetimeType, DurationType, ListType, StructType, Fields, no_field, with_field, same_type, unit_rank}
use Rattle.plan_types.specs.Schemas.{Name, same_name}
use Rattle.plan_types.specs.Supertypes.{supertype}
use Rattle.plan_types.specs.CommonTypes.{found_common}
use Rattle.plan_types.specs.declared.dtype.TimeUnit.{TimeUnit}
use Rattle.plan_types.specs.declared.error.ErrorKind.{ErrorKind}
use Rattle.plan_types.specs.declared.error.ErrorKind.TheVariants.{InvalidOperation}
use Rattle.plan_dsl.specs.OperatorTypes.{Taken}

-- ---- a value among others

-- moments or spans are looked for among those of a coarser unit, which are taken to theirs
abbrev pub finer_type : Ty → TimeUnit → TimeUnit → Result Ty ErrorKind
finer_type type unit other = if nat_lt (unit_rank unit) (unit_rank other) then Ok type else Err InvalidOperation

-- the type in which a value of the first is looked for among values of the second, where they are two
abbrev pub apart_type : Ty → Ty → Result Ty ErrorKind
apart_type NullType item = Ok item
apart_type type NullType = Ok type
apart_type (Integer signed bits) (Integer other width) = found_common (supertype (Integer signed bits) (Integer other width))
apart_type (DatetimeType unit) (DatetimeType other) = finer_type (DatetimeType unit) unit other
apart_type (DurationType unit) (DurationType other) = finer_type (DurationType unit) unit other
apart_type type item = Err InvalidOperation

abbrev pub member_type : Ty → Ty → Result Ty ErrorKind
member_type type item = if same_type type item then Ok type else apart_type type item

abbrev pub in_column : Result Ty ErrorKind → Result Taken ErrorKind
in_column (Err kind) = Err kind
in_column (Ok type) = Ok (record { operands = type ∷ type ∷ []; type = Truth })

abbrev pub in_lists : Result Ty ErrorKind → Result Taken ErrorKind
in_lists (Err kind) = Err kind
in_lists (Ok type) = Ok (record { operands = type ∷ ListType type ∷ []; type = Truth })

-- lists are looked in row by row, what is null too, and any other operand is looked in whole
abbrev pub is_in_types : Ty → Ty → Result Taken ErrorKind
is_in_types type (ListType item) = in_lists (member_type type item)
is_in_types type NullType = in_lists (Ok type)
is_in_types type among = in_column (member_type type among)

abbrev pub is_in_taken : Option Ty → Option Ty → Result Taken ErrorKind
is_in_taken None among = Err InvalidOperation
is_in_taken (Some type) None = Err InvalidOperation
is_in_taken (Some type) (Some among) = is_in_types type among

-- ---- a field of a struct

-- the type of the first field of that name
abbrev pub field_type : Name → Fields → Option Ty
field_type name no_field = None
field_type name (with_field other type rest) = if same_name name other then Some type else field_type name rest

abbrev pub field_found : Ty → Option Ty → Result Taken ErrorKind
field_found from None = Err InvalidOperation
field_found from (Some type) = Ok (record { operands = from ∷ []; type = type })

abbrev pub field_taken : Name → Option Ty → Result Taken ErrorKind
field_taken name (Some (StructType fields)) = field_found (StructType fields) (field_type name fields)
field_taken name from = Err InvalidOperation
