-- Texts of names, types, schemas, places and kinds.
use Rattle.std.specs.Prelude.{ℕ, zero, suc, true, false, List, [], ◌∷◌, ◌++◌, Option, None, Some, codes, decimal, flat_map, encode_utf8_all}
use Rattle.std.specs.List.{join_by}
use Rattle.serde_json.specs.Data.{string}
use Rattle.serde_json.specs.Written.{compact_text}
use Rattle.plan_types.specs.Types.{Ty, NullType, Truth, Integer, TextType, DateType, TimeType, DatetimeType, DurationType, ListType, StructType, Untyped, Fields, no_field, with_field}
use Rattle.plan_types.specs.Schemas.{Name, Columns}
use Rattle.plan_types.specs.declared.dtype.TimeUnit.{TimeUnit}
use Rattle.plan_types.specs.declared.dtype.TimeUnit.TheVariants.{Nanoseconds, Microseconds, Milliseconds}
use Rattle.plan_types.specs.declared.error.ErrorKind.{ErrorKind}
use Rattle.plan_types.specs.declared.error.ErrorKind.TheVariants.{ColumnNotFound, Duplicate, SchemaMismatch, InvalidOperation, ComputeError, NoMemory}

-- a name as JSON, with its quotes and escapes
abbrev pub name_text : Name → List ℕ
name_text name = compact_text (string (encode_utf8_all name))

abbrev pub in_parentheses : List ℕ → List ℕ
in_parentheses text = codes "(" ++ text ++ codes ")"

abbrev pub unit_text : TimeUnit → List ℕ
unit_text Nanoseconds = codes "ns"
unit_text Microseconds = codes "us"
unit_text Milliseconds = codes "ms"

-- the name of the type's variant
abbrev pub variant_text : Ty → List ℕ
variant_text NullType = codes "Null"
variant_text Truth = codes "Boolean"
variant_text (Integer true bits) = codes "Int" ++ decimal bits
variant_text (Integer false bits) = codes "UInt" ++ decimal bits
variant_text TextType = codes "String"
variant_text DateType = codes "Date"
variant_text TimeType = codes "Time"
variant_text (DatetimeType unit) = codes "Datetime"
variant_text (DurationType unit) = codes "Duration"
variant_text (ListType item) = codes "List"
variant_text (StructType fields) = codes "Struct"
variant_text (Untyped number) = codes "Unknown"

abbrev mutual
  -- the type's parts, behind its variant's name
  pub parts_text : Ty → List ℕ
  parts_text (DatetimeType unit) = in_parentheses (unit_text unit)
  parts_text (DurationType unit) = in_parentheses (unit_text unit)
  parts_text (ListType item) = in_parentheses (variant_text item ++ parts_text item)
  parts_text (StructType fields) = in_parentheses (join_by (λ text. text) (codes ", ") (field_texts fields))
  parts_text type = []

  -- each field's name and type
  pub field_texts : Fields → List (List ℕ)
  field_texts no_field = []
  field_texts (with_field name type rest) = (name_text name ++ codes " " ++ (variant_text type ++ parts_text type)) ∷ field_texts rest

abbrev pub type_text : Ty → List ℕ
type_text type = variant_text type ++ parts_text type

abbrev pub field_text : Name × Ty → List ℕ
field_text column = name_text column.0 ++ codes " " ++ type_text column.1

-- what a column lacks that was written up to the end of its name, by its type: the closing quote, and the type, which has no
-- parts
abbrev pub closing_text : Option Ty → List ℕ
closing_text None = []
closing_text (Some type) = codes "\" " ++ variant_text type

-- what stands before the field of that number
abbrev pub separator : ℕ → List ℕ
separator zero = []
separator (suc before) = codes ", "

abbrev pub schema_text : Columns → List ℕ
schema_text columns = in_parentheses (join_by field_text (codes ", ") columns)

abbrev pub step_text : ℕ → List ℕ
step_text step = codes "." ++ decimal step

-- a place, by the child numbers on the way from the top; the top is a dot
abbrev pub path_text : List ℕ → List ℕ
path_text [] = codes "."
path_text (step ∷ steps) = step_text step ++ flat_map step_text steps

abbrev pub error_kind_text : ErrorKind → List ℕ
error_kind_text ColumnNotFound = codes "ColumnNotFound"
error_kind_text Duplicate = codes "Duplicate"
error_kind_text SchemaMismatch = codes "SchemaMismatch"
error_kind_text InvalidOperation = codes "InvalidOperation"
error_kind_text ComputeError = codes "ComputeError"
error_kind_text NoMemory = codes "NoMemory"
