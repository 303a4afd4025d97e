-- What is asked of two operands beside each other.
use Rattle.std.specs.Prelude.{ℕ, nat_lt, Bool, true, false, List, Option, Some, None, Result, Err, slice_get, if◌then◌else◌}
use Rattle.plan_types.specs.Types.{Ty, DatetimeType, DurationType, unit_rank}
use Rattle.plan_types.specs.CommonTypes.{common_type}
use Rattle.plan_types.specs.declared.error.ErrorKind.{ErrorKind}
use Rattle.plan_types.specs.declared.error.ErrorKind.TheVariants.{SchemaMismatch}
use Rattle.plan_types.specs.Supertypes.{upcast}
use Rattle.plan_dsl.specs.declared.operator.Operator.{Operator}
use Rattle.plan_dsl.specs.declared.operator.Operator.TheVariants.{Plus, Minus, Multiply, Divide, FloorDivide, Modulus, And, Or, Xor}
use Rattle.plan_dsl.specs.Typing.{Typed}

-- the common type of two operands, which must be there
abbrev pub common_of_both : Option Typed → Option Typed → Result Ty ErrorKind
common_of_both (Some first) (Some other) = common_type first.type other.type
common_of_both first other = Err SchemaMismatch

-- that of the first operand and of the one at a place
abbrev pub common_with : ℕ → List Typed → Result Ty ErrorKind
common_with place typed = common_of_both (slice_get typed 0) (slice_get typed place)

-- whether an operator takes integers to their common type, and gives it
abbrev pub gives_common : Operator → Bool
gives_common Plus = true
gives_common Minus = true
gives_common Multiply = true
gives_common Divide = true
gives_common FloorDivide = true
gives_common Modulus = true
gives_common And = true
gives_common Or = true
gives_common Xor = true
gives_common operator = false

-- the common type of two integer types that differ, where the operator gives it
abbrev pub common_integer : Operator → Ty → Ty → Option Ty
common_integer operator left right = if gives_common operator then upcast left right else None

-- whether both are moments or both spans, the first of a finer unit
abbrev pub is_finer : Ty → Ty → Bool
is_finer (DatetimeType unit) (DatetimeType other) = nat_lt (unit_rank unit) (unit_rank other)
is_finer (DurationType unit) (DurationType other) = nat_lt (unit_rank unit) (unit_rank other)
is_finer type other = false
