-- Types of columns.
-- An integer type is known by its sign and its number of bits. Moments (Datetime) and spans (Duration) are counted in
-- a unit. A whole number that is written without a type has one for itself, which no column has.
use Rattle.std.specs.Prelude.{ℕ, suc, ℤ, Bool, true, false, ◌&&◌, ◌||◌, ◌==◌, ◌+◌, nat_lt, List, [], ◌∷◌, ◌++◌, map, encode_utf8_all, if◌then◌else◌}
use Rattle.std.specs.Hash as fed
use Rattle.std.specs.Hash.{HashWrites}
use Rattle.std.specs.Ordering.{int_eq}
use Rattle.std.specs.Str.{bytes_eq}
use Rattle.plan_types.specs.declared.dtype.TimeUnit.{TimeUnit}
use Rattle.plan_types.specs.declared.dtype.TimeUnit.TheVariants.{Nanoseconds, Microseconds, Milliseconds}
use Rattle.plan_types.specs.declared.dtype.DataType.{DataType}
use Rattle.plan_types.specs.declared.dtype.DataType.TheVariants.{Null, Boolean, Int8, Int16, Int32, Int64, UInt8, UInt16, UInt32, UInt64, String, Date, Time, Datetime, Duration, List', Struct, Unknown}
use Rattle.plan_types.specs.declared.dtype.Fields.{Row_of-Field, end_of-Field, more_of-Field}
use Rattle.plan_types.specs.declared.dtype.Fields.{Fields as StructFields, Fields'}
use Rattle.plan_types.specs.declared.field.Field.{Field}
use Rattle.plan_types.specs.declared.dtype.UnknownKind.{UnknownKind}
use Rattle.plan_types.specs.declared.dtype.UnknownKind.TheVariants.{Int}

-- a type, without where its parts lie in memory, and the fields of a type of structs
mutual
  pub data Ty : Type 0 where
    NullType : Ty
    Truth : Ty
    Integer : (signed : Bool) (bits : ℕ) → Ty
    TextType : Ty
    DateType : Ty
    TimeType : Ty
    DatetimeType : (unit : TimeUnit) → Ty
    DurationType : (unit : TimeUnit) → Ty
    ListType : (item : Ty) → Ty
    StructType : (fields : Fields) → Ty
    Untyped : (number : ℤ) → Ty

  pub data Fields : Type 0 where
    no_field : Fields
    with_field : (name : List ℕ) (type : Ty) (rest : Fields) → Fields

-- the number whose type isn't known yet
abbrev pub untyped_number : UnknownKind → ℤ
untyped_number (Int number) = number

abbrev mutual
  pub ty : DataType → Ty
  ty Null = NullType
  ty Boolean = Truth
  ty Int8 = Integer true 8
  ty Int16 = Integer true 16
  ty Int32 = Integer true 32
  ty Int64 = Integer true 64
  ty UInt8 = Integer false 8
  ty UInt16 = Integer false 16
  ty UInt32 = Integer false 32
  ty UInt64 = Integer false 64
  ty String = TextType
  ty Date = DateType
  ty Time = TimeType
  ty (Datetime unit) = DatetimeType unit
  ty (Duration unit) = DurationType unit
  ty (List' p item) = ListType (ty item)
  ty (Struct fields) = StructType (fields_of fields)
  ty (Unknown kind) = Untyped (untyped_number kind)

  -- the fields of a type of structs
  pub fields_of : StructFields → Fields
  fields_of (Fields' shape row) = row_fields row

  pub row_fields : {n : _} → Row_of-Field n → Fields
  row_fields end_of-Field = no_field
  row_fields (more_of-Field name dtype rest) = with_field name (ty dtype) (row_fields rest)

-- a field's name and type
abbrev pub field_of : Field → List ℕ × Ty
field_of named = (named.name, ty named.dtype)

-- the fields of these names and types
abbrev pub fields_from : List (List ℕ × Ty) → Fields
fields_from [] = no_field
fields_from (first ∷ rest) = with_field first.0 first.1 (fields_from rest)

-- the fields of a list
abbrev pub fields_in : List Field → Fields
fields_in fields = fields_from (map field_of fields)

-- whether the type has no types as its parts
abbrev pub is_bare : Ty → Bool
is_bare (ListType item) = false
is_bare (StructType fields) = false
is_bare type = true

abbrev pub is_integer : Ty → Bool
is_integer (Integer signed bits) = true
is_integer type = false

abbrev pub is_signed_integer : Ty → Bool
is_signed_integer (Integer signed bits) = signed
is_signed_integer type = false

abbrev pub is_unsigned_integer : Ty → Bool
is_unsigned_integer (Integer true bits) = false
is_unsigned_integer (Integer false bits) = true
is_unsigned_integer type = false

abbrev pub is_null : Ty → Bool
is_null NullType = true
is_null type = false

abbrev pub is_truth : Ty → Bool
is_truth Truth = true
is_truth type = false

abbrev pub is_text : Ty → Bool
is_text TextType = true
is_text type = false

-- days, times of a day, moments and spans
abbrev pub is_temporal : Ty → Bool
is_temporal DateType = true
is_temporal TimeType = true
is_temporal (DatetimeType unit) = true
is_temporal (DurationType unit) = true
is_temporal type = false

-- whether values of the type that aren't null are numbers: integers, or counts of time
abbrev pub is_counted : Ty → Bool
is_counted type = is_integer type || is_temporal type

-- whether values of the type that aren't null are in an order
abbrev pub is_ord : Ty → Bool
is_ord NullType = false
is_ord (ListType item) = false
is_ord (StructType fields) = false
is_ord (Untyped number) = false
is_ord type = true

-- whether it is the type of a column: no number's own type stands in it
abbrev mutual
  pub is_known : Ty → Bool
  is_known (ListType item) = is_known item
  is_known (StructType fields) = are_known fields
  is_known (Untyped number) = false
  is_known type = true

  pub are_known : Fields → Bool
  are_known no_field = true
  are_known (with_field name type rest) = is_known type && are_known rest

-- how many bits a number of an integer type has, and 0 of another type
abbrev pub width_of : Ty → ℕ
width_of (Integer signed bits) = bits
width_of type = 0

-- how many of the units a day has
abbrev pub per_day : TimeUnit → ℕ
per_day Nanoseconds = 86400000000000
per_day Microseconds = 86400000000
per_day Milliseconds = 86400000

-- the units' places, from the finest to the coarsest
abbrev pub unit_rank : TimeUnit → ℕ
unit_rank Nanoseconds = 0
unit_rank Microseconds = 1
unit_rank Milliseconds = 2

abbrev pub coarser : TimeUnit → TimeUnit → TimeUnit
coarser left right = if nat_lt (unit_rank left) (unit_rank right) then right else left

abbrev pub same_unit : TimeUnit → TimeUnit → Bool
same_unit left right = unit_rank left == unit_rank right

abbrev pub same_sign : Bool → Bool → Bool
same_sign true true = true
same_sign true false = false
same_sign false true = false
same_sign false false = true

-- whether two types are one: structs by the names and types of their fields, in order
abbrev mutual
  pub same_type : Ty → Ty → Bool
  same_type NullType NullType = true
  same_type Truth Truth = true
  same_type (Integer signed bits) (Integer other width) = same_sign signed other && bits == width
  same_type TextType TextType = true
  same_type DateType DateType = true
  same_type TimeType TimeType = true
  same_type (DatetimeType unit) (DatetimeType other) = same_unit unit other
  same_type (DurationType unit) (DurationType other) = same_unit unit other
  same_type (ListType item) (ListType other) = same_type item other
  same_type (StructType fields) (StructType others) = same_fields fields others
  same_type (Untyped number) (Untyped other) = int_eq number other
  same_type type other = false

  pub same_fields : Fields → Fields → Bool
  same_fields no_field no_field = true
  same_fields no_field (with_field name type rest) = false
  same_fields (with_field name type rest) no_field = false
  same_fields (with_field name type rest) (with_field other found others) = bytes_eq name other && (same_type type found && same_fields rest others)

-- whether two fields have the same name and type
abbrev pub same_field : List ℕ × Ty → List ℕ × Ty → Bool
same_field left right = bytes_eq left.0 right.0 && same_type left.1 right.1

-- a number for each kind of type: one for all numbers without a type, one for all lists, and one for all structs
abbrev pub type_code : Ty → ℕ
type_code NullType = 0
type_code Truth = 1
type_code (Integer true bits) = bits
type_code (Integer false bits) = 128 + bits
type_code TextType = 2
type_code DateType = 3
type_code TimeType = 4
type_code (DatetimeType unit) = 5 + unit_rank unit
type_code (DurationType unit) = 9 + unit_rank unit
type_code (Untyped number) = 12
type_code (ListType item) = 13
type_code (StructType fields) = 14

-- how many fields there are
abbrev pub field_count : Fields → ℕ
field_count no_field = 0
field_count (with_field name type rest) = suc (field_count rest)

-- what of a type is hashed: its number, and then its items' type, or how many fields it has and each name and type, in
-- order, or the number that has no type
abbrev mutual
  pub type_writes : Ty → HashWrites
  type_writes (ListType item) = fed.u32 13 ++ type_writes item
  type_writes (StructType fields) = fed.u32 14 ++ (fed.usize (field_count fields) ++ each_field_writes fields)
  type_writes (Untyped number) = fed.u32 12 ++ fed.i128 number
  type_writes type = fed.u32 (type_code type)

  pub each_field_writes : Fields → HashWrites
  each_field_writes no_field = []
  each_field_writes (with_field name type rest) = (fed.str (encode_utf8_all name) ++ type_writes type) ++ each_field_writes rest

abbrev pub fields_writes : Fields → HashWrites
fields_writes fields = fed.usize (field_count fields) ++ each_field_writes fields

-- what of a field is hashed: its name, and then its type
abbrev pub field_writes : List ℕ × Ty → HashWrites
field_writes named = fed.str (encode_utf8_all named.0) ++ type_writes named.1
