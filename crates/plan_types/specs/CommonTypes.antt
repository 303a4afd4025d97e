-- Types of numbers that are written without one, and common types of operands.
-- Alone such a number has the first of three types whose range has it. Beside an integer it has that type where
-- its range has it, else the least that does. Then the operands have the common type of their types.
use Rattle.std.specs.Prelude.{ℤ, pos, int_lt, List, [], ◌∷◌, Option, Some, None, Bool, true, false, Result, Ok, Err, if◌then◌else◌}
use Rattle.plan_types.specs.Types.{Ty, Integer, Untyped, is_known}
use Rattle.plan_types.specs.Values.{in_range}
use Rattle.plan_types.specs.Supertypes.{supertype}
use Rattle.plan_types.specs.declared.error.ErrorKind.{ErrorKind}
use Rattle.plan_types.specs.declared.error.ErrorKind.TheVariants.{SchemaMismatch, InvalidOperation}

-- the first of the types whose range has the number
abbrev pub first_with : List Ty → ℤ → Option Ty
first_with [] number = None
first_with (type ∷ types) number = if in_range type number then Some type else first_with types number

-- the types that a number alone may have, and those beside a signed and an unsigned type, the least first
abbrev pub types_alone : List Ty
types_alone = Integer true 32 ∷ Integer true 64 ∷ Integer false 64 ∷ []

abbrev pub signed_types : List Ty
signed_types = Integer true 8 ∷ Integer true 16 ∷ Integer true 32 ∷ Integer true 64 ∷ Integer false 64 ∷ []

abbrev pub unsigned_types : List Ty
unsigned_types = Integer false 8 ∷ Integer false 16 ∷ Integer false 32 ∷ Integer false 64 ∷ []

-- the type of a number alone
abbrev pub literal_type : ℤ → Option Ty
literal_type number = first_with types_alone number

-- a type of columns
abbrev pub known_type : Ty → Option Ty
known_type type = if is_known type then Some type else None

-- an operand's type where nothing stands beside it
abbrev pub type_alone : Ty → Option Ty
type_alone (Untyped number) = literal_type number
type_alone type = known_type type

-- the least signed type, and UInt64 where no signed one has the number
abbrev pub least_signed : ℤ → Option Ty
least_signed number = first_with signed_types number

abbrev pub least_unsigned : ℤ → Option Ty
least_unsigned number = first_with unsigned_types number

-- the least type beside one of that sign: a number below 0 is of a signed one
abbrev pub least_type : Bool → ℤ → Option Ty
least_type true number = least_signed number
least_type false number = if int_lt number (pos 0) then least_signed number else least_unsigned number

-- the type of a number beside an operand of that type
abbrev pub own_type : ℤ → Ty → Option Ty
own_type number (Integer signed bits) =
    if in_range (Integer signed bits) number then Some (Integer signed bits) else least_type signed number
own_type number type = literal_type number

-- an operand's type beside another's: a number without a type gets one
abbrev pub type_beside : Ty → Ty → Option Ty
type_beside (Untyped number) other = own_type number other
type_beside type other = known_type type

abbrev pub found_common : Option Ty → Result Ty ErrorKind
found_common None = Err SchemaMismatch
found_common (Some type) = Ok type

abbrev pub common_of : Option Ty → Option Ty → Result Ty ErrorKind
common_of None right = Err InvalidOperation
common_of (Some left) None = Err InvalidOperation
common_of (Some left) (Some right) = found_common (supertype left right)

-- the common type of two operands, or why there is none
abbrev pub common_type : Ty → Ty → Result Ty ErrorKind
common_type left right = common_of (type_beside left right) (type_beside right left)
