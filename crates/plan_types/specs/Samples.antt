-- Samples of the worked examples, and what their tables say.
use Prim.Native.String.{String}
use Rattle.std.specs.Prelude.{◌≡◌, ℕ, ℤ, pos, neg_ℤ, true, false, List, [], ◌∷◌, ◌++◌, map, Option, Some, None, codes}
use Rattle.plan_types.specs.Types.{Ty, NullType, Truth, TextType, Integer, DateType, TimeType, DatetimeType, DurationType, ListType, StructType, Untyped, fields_from}
use Rattle.plan_types.specs.Values.{Val, NullValue, TruthValue, IntValue, TextValue, ListValue, StructValue}
use Rattle.plan_types.specs.ValueViews.{values_from}
use Rattle.plan_types.specs.Schemas.{Columns}
use Rattle.plan_types.specs.Casts.{Converted, Gives, Fails, no_place, cast}
use Rattle.plan_types.specs.Frames.{Row, Frame}
use Rattle.plan_types.specs.declared.column.Column.{Column}
use Rattle.plan_types.specs.declared.column.Values.{Values}
use Rattle.plan_types.specs.declared.dtype.DataType.{DataType}
use Rattle.plan_types.specs.declared.dtype.CastOptions.{CastOptions}
use Rattle.plan_types.specs.declared.dtype.CastOptions.TheVariants.{Strict, NonStrict, Overflowing}
use Rattle.plan_types.specs.declared.dtype.TimeUnit.{TimeUnit}
use Rattle.plan_types.specs.declared.dtype.TimeUnit.TheVariants.{Nanoseconds, Microseconds, Milliseconds}

-- what a definition gives for the first of each pair is the second
abbrev pub Maps : {A B : Type 0} → (A → B) → List (A × B) → Type 0
Maps f cases = map (λ c. f c.0) cases ≡ map (λ c. c.1) cases

-- what a definition gives for the first two of each three is the third
abbrev pub MapsPairs : {A B C : Type 0} → (A → B → C) → List (A × B × C) → Type 0
MapsPairs f cases = map (λ c. f c.0 c.1) cases ≡ map (λ c. c.2) cases

-- a number below 0
abbrev pub minus : ℕ → ℤ
minus size = neg_ℤ (pos size)

-- values
abbrev pub null : Val
null = NullValue

abbrev pub yes : Val
yes = TruthValue true

abbrev pub no : Val
no = TruthValue false

abbrev pub number : ℕ → Val
number size = IntValue (pos size)

abbrev pub negative : ℕ → Val
negative size = IntValue (minus size)

abbrev pub text : String → Val
text characters = TextValue (codes characters)

-- integer types
abbrev pub int8 : Ty
int8 = Integer true 8

abbrev pub int16 : Ty
int16 = Integer true 16

abbrev pub int32 : Ty
int32 = Integer true 32

abbrev pub int64 : Ty
int64 = Integer true 64

abbrev pub uint8 : Ty
uint8 = Integer false 8

abbrev pub uint16 : Ty
uint16 = Integer false 16

abbrev pub uint32 : Ty
uint32 = Integer false 32

abbrev pub uint64 : Ty
uint64 = Integer false 64

abbrev pub signed_integers : List Ty
signed_integers = int8 ∷ int16 ∷ int32 ∷ int64 ∷ []

abbrev pub unsigned_integers : List Ty
unsigned_integers = uint8 ∷ uint16 ∷ uint32 ∷ uint64 ∷ []

abbrev pub integers : List Ty
integers = signed_integers ++ unsigned_integers

-- each way to cast, and each unit of time
abbrev pub modes : List CastOptions
modes = Strict ∷ NonStrict ∷ Overflowing ∷ []

abbrev pub units : List TimeUnit
units = Nanoseconds ∷ Microseconds ∷ Milliseconds ∷ []

abbrev pub times : TimeUnit → List Ty
times unit = DateType ∷ TimeType ∷ DatetimeType unit ∷ DurationType unit ∷ []

-- the types of columns that have no parts: those that aren't integers, and all
abbrev pub other_types : TimeUnit → List Ty
other_types unit = NullType ∷ Truth ∷ TextType ∷ times unit

abbrev pub bare_types : TimeUnit → List Ty
bare_types unit = integers ++ other_types unit

-- types of structs: of these fields, of two, of one, and of none
abbrev pub struct_of : List (String × Ty) → Ty
struct_of fields = StructType (fields_from (map (λ field. (codes field.0, field.1)) fields))

abbrev pub struct_ab : Ty → Ty → Ty
struct_ab left right = struct_of (("a", left) ∷ ("b", right) ∷ [])

abbrev pub struct_a : Ty → Ty
struct_a type = struct_of (("a", type) ∷ [])

abbrev pub struct_none : Ty
struct_none = struct_of []

-- types with parts
abbrev pub inner_types : List Ty
inner_types = NullType ∷ Truth ∷ int8 ∷ TextType ∷ DateType ∷ DatetimeType Nanoseconds ∷ []

abbrev pub nested_types : List Ty
nested_types = struct_none ∷ map ListType inner_types ++ map struct_a inner_types

-- types of numbers that are written without one
abbrev pub untyped : List Ty
untyped = Untyped (pos 5) ∷ Untyped (minus 1) ∷ []

-- types of each kind
abbrev pub types : TimeUnit → List Ty
types unit = bare_types unit ++ untyped ++ nested_types

-- types of which no two are one
abbrev pub distinct_types : List Ty
distinct_types =
    types Nanoseconds
    ++ DatetimeType Microseconds ∷ DatetimeType Milliseconds ∷ DurationType Microseconds ∷ DurationType Milliseconds ∷ []
    ++ Untyped (pos 6) ∷ ListType int16 ∷ ListType (ListType int8) ∷ ListType (DatetimeType Milliseconds) ∷ []
    ++ struct_a uint8 ∷ struct_ab int8 (ListType DateType) ∷ struct_ab int8 int8 ∷ []
    ++ map (λ names. struct_of (map (λ name. (name, int8)) names)) (("a" ∷ "c" ∷ []) ∷ ("a" ∷ "B" ∷ []) ∷ ("a" ∷ "a" ∷ []) ∷ ("b" ∷ "a" ∷ []) ∷ [])

-- of two units the coarser, for each pair of units
abbrev pub coarser_units : List (List TimeUnit)
coarser_units = units ∷ (Microseconds ∷ Microseconds ∷ Milliseconds ∷ []) ∷ map (λ unit. Milliseconds) units ∷ []

-- lists and structs of these values
abbrev pub list_value : List Val → Val
list_value values = ListValue (values_from values)

abbrev pub struct_value : List Val → Val
struct_value values = StructValue (values_from values)

-- texts
abbrev pub text_values : List Val
text_values = map text ("" ∷ "1" ∷ "5" ∷ "a" ∷ "ab" ∷ "ba" ∷ "true" ∷ [])

-- values without parts, and values with parts, of which no two are one
abbrev pub bare_values : List Val
bare_values = null ∷ yes ∷ no ∷ negative 1 ∷ map number (0 ∷ 1 ∷ 2 ∷ 5 ∷ []) ++ text_values

abbrev pub list_values : List Val
list_values =
    map list_value ([] ∷ (null ∷ []) ∷ (number 1 ∷ []) ∷ (number 1 ∷ null ∷ []) ∷ (number 1 ∷ number 0 ∷ []) ∷ (null ∷ number 1 ∷ []) ∷ [])

abbrev pub distinct_values : List Val
distinct_values =
    bare_values
    ++ list_values
    ++ map list_value ((number 1 ∷ text "x" ∷ []) ∷ (list_value (yes ∷ []) ∷ []) ∷ (list_value (no ∷ []) ∷ []) ∷ [])
    ++ map struct_value ([] ∷ (number 1 ∷ text "x" ∷ []) ∷ (number 1 ∷ text "y" ∷ []) ∷ [])

-- a list of structs of a list, in which the type or the value stands
abbrev pub deep_type : Ty → Ty
deep_type type = ListType (struct_a (ListType type))

abbrev pub deep_value : Val → Val
deep_value value = list_value (struct_value (list_value (number 1 ∷ value ∷ []) ∷ []) ∷ null ∷ [])

-- in any way to cast, values of the first type become the last ones in the second
abbrev pub CastsValues : List (Val × Ty × Ty × Val) → Type 0
CastsValues cases = (options : CastOptions) → map (λ c. cast c.0 c.1 c.2 options) cases ≡ map (λ c. Gives c.3) cases

-- values of the type become these texts
abbrev pub CastsTexts : List (Val × Ty × String) → Type 0
CastsTexts cases = CastsValues (map (λ c. (c.0, c.1, TextType, text c.2)) cases)

-- a strict cast fails, one that isn't strict gives the first of the last two values, and one that overflows the second
abbrev pub FailsWhereStrict : List (Val × Ty × Ty × Val × Val) → Type 0
FailsWhereStrict cases = map (λ c. map (cast c.0 c.1 c.2) modes) cases ≡ map (λ c. Fails ∷ Gives c.3 ∷ Gives c.4 ∷ []) cases

-- a number, or what has no place in the target
abbrev pub number_or_none : CastOptions → Option ℤ → Converted
number_or_none options None = no_place options
number_or_none options (Some number) = Gives (IntValue number)

-- in any way to cast from the one type to the other, numbers become others or have no place
abbrev pub CastsNumbers : Ty → Ty → List (ℤ × Option ℤ) → Type 0
CastsNumbers from target cases = (options : CastOptions) → map (λ c. cast (IntValue c.0) from target options) cases ≡ map (λ c. number_or_none options c.1) cases

-- in any way to cast texts, each to the type beside it, they become numbers or have no place
abbrev pub ReadsNumbers : List (String × Ty × Option ℤ) → Type 0
ReadsNumbers cases = (options : CastOptions) → map (λ c. cast (text c.0) TextType c.1 options) cases ≡ map (λ c. number_or_none options c.2) cases

-- numbers of moments or spans in a unit, and what they are in another one
abbrev pub unit_cases : List (TimeUnit × TimeUnit × ℤ × Option ℤ)
unit_cases =
    (Nanoseconds, Nanoseconds, minus 1, Some (minus 1))
    ∷ (Nanoseconds, Microseconds, pos 1999, Some (pos 1))
    ∷ (Nanoseconds, Microseconds, minus 1001, Some (minus 2))
    ∷ (Nanoseconds, Milliseconds, pos 1999999, Some (pos 1))
    ∷ (Nanoseconds, Milliseconds, minus 1, Some (minus 1))
    ∷ (Nanoseconds, Milliseconds, minus 1000000, Some (minus 1))
    ∷ (Nanoseconds, Milliseconds, minus 1000001, Some (minus 2))
    ∷ (Nanoseconds, Milliseconds, minus 9223372036854775808, Some (minus 9223372036855))
    ∷ (Microseconds, Milliseconds, pos 1999, Some (pos 1))
    ∷ (Microseconds, Milliseconds, minus 1, Some (minus 1))
    ∷ (Microseconds, Nanoseconds, minus 7, Some (minus 7000))
    ∷ (Microseconds, Nanoseconds, pos 9223372036854776, None)
    ∷ (Milliseconds, Microseconds, minus 7, Some (minus 7000))
    ∷ (Milliseconds, Microseconds, pos 9223372036854776, None)
    ∷ (Milliseconds, Nanoseconds, pos 7, Some (pos 7000000))
    ∷ (Milliseconds, Nanoseconds, pos 9223372036854, Some (pos 9223372036854000000))
    ∷ (Milliseconds, Nanoseconds, pos 9223372036855, None)
    ∷ (Milliseconds, Nanoseconds, minus 9223372036854, Some (minus 9223372036854000000))
    ∷ (Milliseconds, Nanoseconds, minus 9223372036855, None)
    ∷ []

-- what types in those units are cast to
abbrev pub CastsUnits : (TimeUnit → Ty) → Type 0
CastsUnits type = (options : CastOptions) → map (λ c. cast (IntValue c.2) (type c.0) (type c.1) options) unit_cases ≡ map (λ c. number_or_none options c.3) unit_cases

-- schemas of one column and of two
abbrev pub schema_a : Ty → Columns
schema_a type = (codes "a", type) ∷ []

abbrev pub schema_ab : Ty → Ty → Columns
schema_ab left right = (codes "a", left) ∷ (codes "b", right) ∷ []

-- a frame of these columns and rows
abbrev pub frame_with : Columns → List Row → Frame
frame_with schema rows = record { schema = schema; rows = rows }

-- a column of the code
abbrev pub column_with : String → DataType → Values → Column
column_with name dtype values = record { name = codes name; dtype = dtype; values = values }
