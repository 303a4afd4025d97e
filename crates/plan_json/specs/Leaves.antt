-- What a part of a value is that stands in no row of the table of forms.
-- Each definition gives what a value of its shape means, and nothing where the value hasn't the shape.
use Rattle.std.specs.Prelude.{ℕ, ℤ, ◌^◌, ◌==◌, ◌&&◌, Bool, List, [], ◌∷◌, not, Option, Some, None, option_map, option_and_then, codes, nat_lt, position, slice_index, if◌then◌else◌, true, false}
use Rattle.std.specs.Map.{lookup}
use Rattle.std.specs.Option.{option_or}
use Rattle.std.specs.Str.{chars, bytes_eq}
use Rattle.serde_json.specs.Data.{Data, null, boolean, number as numeral, string, array, object, Items, no_items, item, no_members, member}
use Rattle.serde_json.specs.Events.{items_len}
use Rattle.serde_json.specs.Find.{get, as_str, as_array, as_number, as_i64, as_u64}
use Rattle.plan_types.specs.Schemas.{Name, Columns, same_name, names_of, repeats}
use Rattle.plan_types.specs.Casts.{number_in}
use Rattle.plan_types.specs.Types.{Ty, NullType, Truth, Integer, TextType, DateType, TimeType, DatetimeType, DurationType, ListType, StructType, Untyped, Fields, fields_from, is_counted}
use Rattle.plan_types.specs.Values.{NullValue, TruthValue, IntValue, TextValue, in_range}
use Rattle.plan_types.specs.declared.dtype.CastOptions.{CastOptions}
use Rattle.plan_types.specs.declared.dtype.CastOptions.TheVariants.{Strict, NonStrict, Overflowing}
use Rattle.plan_types.specs.declared.dtype.TimeUnit.{TimeUnit}
use Rattle.plan_types.specs.declared.dtype.TimeUnit.TheVariants.{Nanoseconds, Microseconds, Milliseconds}
use Rattle.plan_dsl.specs.Ops.{Op, LiteralOp}
use Rattle.plan_dsl.specs.Sources.{Excluded, ExcludedName, ExcludedType}
use Rattle.plan_dsl.specs.declared.aggregate.GroupByMethod.{GroupByMethod}
use Rattle.plan_dsl.specs.declared.aggregate.GroupByMethod.TheVariants.{Min, Max, NUnique, First, Last, Implode, Sum, Count, Groups}
use Rattle.plan_dsl.specs.declared.distinct_options.UniqueKeepStrategy.{UniqueKeepStrategy}
use Rattle.plan_dsl.specs.declared.distinct_options.UniqueKeepStrategy.TheVariants as keeps
use Rattle.plan_dsl.specs.declared.function.StatsFunction.{StatsFunction}
use Rattle.plan_dsl.specs.declared.function.StatsFunction.TheVariants as statistics
use Rattle.plan_dsl.specs.declared.function_expr.FunctionExpr.{FunctionExpr}
use Rattle.plan_dsl.specs.declared.function_expr.FunctionExpr.TheVariants.{AllHorizontal, AnyHorizontal, IsNull, IsNotNull, FillNull, IsIn, ShiftAndFill, ListGet}
use Rattle.plan_dsl.specs.declared.operator.Operator.{Operator}
use Rattle.plan_dsl.specs.declared.operator.Operator.TheVariants.{Eq, EqValidity, NotEq, NotEqValidity, Lt, LtEq, Gt, GtEq, Plus, Minus, Multiply, Divide, FloorDivide, Modulus, And, Or, Xor, LogicalAnd, LogicalOr}
use Rattle.plan_json.specs.Forms.{row_named, type_rows, excluded_rows}
use Rattle.plan_json.specs.Looking.{both, whole_number, only_member, two_members, two_items, all_of, some_of}
use Rattle.plan_json.specs.Tables.{Declared}
use Rattle.plan_json.specs.declared.forms.Writing.{Writing}
use Rattle.plan_json.specs.declared.forms.Writing.TheVariants as writings
use Rattle.plan_json.specs.declared.forms.TypeKey.{TypeKey}
use Rattle.plan_json.specs.declared.forms.TypeKey.TheVariants as types
use Rattle.plan_json.specs.declared.forms.ExcludedKey.{ExcludedKey}
use Rattle.plan_json.specs.declared.forms.ExcludedKey.TheVariants as excludes

-- null, which says nothing, or what is read of it
abbrev pub or_null : {A : Type 0} → (Data → Option A) → Data → Option (Option A)
or_null read null = Some None
or_null read d = option_map (λ x. Some x) (read d)

-- ---- names and types

-- the characters of a text
abbrev pub text_of : Data → Option Name
text_of d = option_map chars (as_str d)

-- null or a text
abbrev pub optional_text_of : Data → Option (Option Name)
optional_text_of d = or_null text_of d

abbrev pub integer_named : List ℕ → Option Ty
integer_named name =
    if bytes_eq name (codes "Int8") then Some (Integer true 8) else (
    if bytes_eq name (codes "Int16") then Some (Integer true 16) else (
    if bytes_eq name (codes "Int32") then Some (Integer true 32) else (
    if bytes_eq name (codes "Int64") then Some (Integer true 64) else (
    if bytes_eq name (codes "UInt8") then Some (Integer false 8) else (
    if bytes_eq name (codes "UInt16") then Some (Integer false 16) else (
    if bytes_eq name (codes "UInt32") then Some (Integer false 32) else (
    if bytes_eq name (codes "UInt64") then Some (Integer false 64) else None)))))))

-- the type of that name, of those without parts that are no integers
abbrev pub plain_named : List ℕ → Option Ty
plain_named name =
    if bytes_eq name (codes "Null") then Some NullType else (
    if bytes_eq name (codes "Boolean") then Some Truth else (
    if bytes_eq name (codes "String") then Some TextType else (
    if bytes_eq name (codes "Date") then Some DateType else (
    if bytes_eq name (codes "Time") then Some TimeType else None))))

-- the type of that name, of those without parts
abbrev pub type_named : List ℕ → Option Ty
type_named name = option_or (integer_named name) (plain_named name)

abbrev pub unit_named : List ℕ → Option TimeUnit
unit_named name =
    if bytes_eq name (codes "ns") then Some Nanoseconds else (
    if bytes_eq name (codes "us") then Some Microseconds else (
    if bytes_eq name (codes "ms") then Some Milliseconds else None))

abbrev pub unit_of : Data → Option TimeUnit
unit_of d = option_and_then unit_named (as_str d)

-- what a type's key says, by what its value is as a unit, as a type, and as a list of fields
abbrev pub type_says : TypeKey → Option TimeUnit → Option Ty → Option Fields → Option Ty
type_says types.Datetime unit items fields = option_map (λ u. DatetimeType u) unit
type_says types.Duration unit items fields = option_map (λ u. DurationType u) unit
type_says types.List unit items fields = option_map (λ t. ListType t) items
type_says types.Struct unit items fields = option_map (λ fs. StructType fs) fields

abbrev mutual
  -- a name, or an object of one key, which names its form
  pub type_of : Data → Option Ty
  type_of (string name) = type_named name
  type_of (object (member word value no_members)) =
      option_and_then (λ row. type_says row.1 (unit_of value) (type_of value) (struct_of value)) (row_named type_rows word)
  type_of _ = None

  -- a list of fields, whose names may repeat
  pub struct_of : Data → Option Fields
  struct_of (array items) = option_map fields_from (each_column items)
  struct_of _ = None

  pub each_column : Items → Option Columns
  each_column no_items = Some []
  each_column (item d ds) = option_map (λ p. p.0 ∷ p.1) (both (column_of d) (each_column ds))

  -- a column or a field: `[name, type]`
  pub column_of : Data → Option (Name × Ty)
  column_of (array (item name (item type no_items))) = both (text_of name) (type_of type)
  column_of _ = None

-- what a key says of its value
abbrev pub keyed_type : TypeKey → Data → Option Ty
keyed_type key d = type_says key (unit_of d) (type_of d) (struct_of d)

abbrev pub comparison_named : List ℕ → Option Operator
comparison_named name =
    if bytes_eq name (codes "Eq") then Some Eq else (
    if bytes_eq name (codes "EqValidity") then Some EqValidity else (
    if bytes_eq name (codes "NotEq") then Some NotEq else (
    if bytes_eq name (codes "NotEqValidity") then Some NotEqValidity else (
    if bytes_eq name (codes "Lt") then Some Lt else (
    if bytes_eq name (codes "LtEq") then Some LtEq else (
    if bytes_eq name (codes "Gt") then Some Gt else (
    if bytes_eq name (codes "GtEq") then Some GtEq else None)))))))

abbrev pub arithmetic_named : List ℕ → Option Operator
arithmetic_named name =
    if bytes_eq name (codes "Plus") then Some Plus else (
    if bytes_eq name (codes "Minus") then Some Minus else (
    if bytes_eq name (codes "Multiply") then Some Multiply else (
    if bytes_eq name (codes "Divide") then Some Divide else (
    if bytes_eq name (codes "FloorDivide") then Some FloorDivide else (
    if bytes_eq name (codes "Modulus") then Some Modulus else None)))))

abbrev pub logic_named : List ℕ → Option Operator
logic_named name =
    if bytes_eq name (codes "And") then Some And else (
    if bytes_eq name (codes "Or") then Some Or else (
    if bytes_eq name (codes "Xor") then Some Xor else (
    if bytes_eq name (codes "LogicalAnd") then Some LogicalAnd else (
    if bytes_eq name (codes "LogicalOr") then Some LogicalOr else None))))

abbrev pub operator_named : List ℕ → Option Operator
operator_named name = option_or (option_or (comparison_named name) (arithmetic_named name)) (logic_named name)

abbrev pub operator_of : Data → Option Operator
operator_of d = option_and_then operator_named (as_str d)

-- the method of an aggregate by its name
abbrev pub value_named : List ℕ → Option GroupByMethod
value_named name =
    if bytes_eq name (codes "Min") then Some Min else (
    if bytes_eq name (codes "Max") then Some Max else (
    if bytes_eq name (codes "First") then Some First else (
    if bytes_eq name (codes "Last") then Some Last else (
    if bytes_eq name (codes "Sum") then Some Sum else None))))

abbrev pub count_named : List ℕ → Option GroupByMethod
count_named name =
    if bytes_eq name (codes "NUnique") then Some NUnique else (
    if bytes_eq name (codes "Implode") then Some Implode else (
    if bytes_eq name (codes "Count") then Some (Count false) else (
    if bytes_eq name (codes "CountAll") then Some (Count true) else (
    if bytes_eq name (codes "AggGroups") then Some Groups else None))))

abbrev pub method_named : List ℕ → Option GroupByMethod
method_named name = option_or (value_named name) (count_named name)

abbrev pub method_of : Data → Option GroupByMethod
method_of d = option_and_then method_named (as_str d)

-- the function of that name, of those that are written by it alone
abbrev pub function_named : List ℕ → Option FunctionExpr
function_named name =
    if bytes_eq name (codes "AllHorizontal") then Some AllHorizontal else (
    if bytes_eq name (codes "AnyHorizontal") then Some AnyHorizontal else (
    if bytes_eq name (codes "IsNull") then Some IsNull else (
    if bytes_eq name (codes "IsNotNull") then Some IsNotNull else (
    if bytes_eq name (codes "FillNull") then Some FillNull else (
    if bytes_eq name (codes "IsIn") then Some IsIn else (
    if bytes_eq name (codes "ShiftAndFill") then Some ShiftAndFill else (
    if bytes_eq name (codes "ListGet") then Some (ListGet false) else (
    if bytes_eq name (codes "ListGetOrNull") then Some (ListGet true) else None))))))))

abbrev pub function_of : Data → Option FunctionExpr
function_of d = option_and_then function_named (as_str d)

-- what a cast does with a value that has no place in its target
abbrev pub mode_named : List ℕ → Option CastOptions
mode_named name =
    if bytes_eq name (codes "Strict") then Some Strict else (
    if bytes_eq name (codes "NonStrict") then Some NonStrict else (
    if bytes_eq name (codes "Overflowing") then Some Overflowing else None))

abbrev pub mode_of : Data → Option CastOptions
mode_of d = option_and_then mode_named (as_str d)

-- which row is kept of equal ones
abbrev pub keep_named : List ℕ → Option UniqueKeepStrategy
keep_named name =
    if bytes_eq name (codes "First") then Some keeps.First else (
    if bytes_eq name (codes "Last") then Some keeps.Last else (
    if bytes_eq name (codes "None") then Some keeps.None else (
    if bytes_eq name (codes "Any") then Some keeps.Any else None)))

abbrev pub keep_of : Data → Option UniqueKeepStrategy
keep_of d = option_and_then keep_named (as_str d)

-- what is taken of each column
abbrev pub statistic_named : List ℕ → Option StatsFunction
statistic_named name =
    if bytes_eq name (codes "Sum") then Some statistics.Sum else (
    if bytes_eq name (codes "Min") then Some statistics.Min else (
    if bytes_eq name (codes "Max") then Some statistics.Max else None))

abbrev pub statistic_of : Data → Option StatsFunction
statistic_of d = option_and_then statistic_named (as_str d)

-- ---- places of columns, other numbers, and what an exclude leaves out

-- a whole number of 64 bits with a sign
abbrev pub index_of : Data → Option ℤ
index_of d = option_and_then as_i64 (as_number d)

-- a number that 32 bits without a sign hold
abbrev pub short : ℕ → Option ℕ
short number = if nat_lt number (2 ^ 32) then Some number else None

-- a whole number of 32 bits without a sign
abbrev pub natural_of : Data → Option ℕ
natural_of d = option_and_then short (option_and_then as_u64 (as_number d))

-- null or such a number
abbrev pub optional_natural_of : Data → Option (Option ℕ)
optional_natural_of d = or_null natural_of d

-- what its key says of its value
abbrev pub keyed_excluded : ExcludedKey → Data → Option Excluded
keyed_excluded excludes.Name d = option_map ExcludedName (text_of d)
keyed_excluded excludes.Dtype d = option_map ExcludedType (type_of d)

-- an object of one key: `{"name": name}` or `{"dtype": type}`
abbrev pub excluded_item : Data → Option Excluded
excluded_item d = option_and_then (λ m. option_and_then (λ row. keyed_excluded row.1 m.1) (row_named excluded_rows m.0)) (only_member d)

-- ---- columns

-- the name that a column gives itself, whatever its type
abbrev pub column_name : Data → Option Name
column_name d = option_and_then (λ pair. text_of pair.0) (two_items d)

abbrev pub columns_from : Items → Option Columns
columns_from items = if repeats (some_of column_name items) then None else each_column items

-- a list of columns, no two of one name
abbrev pub columns_of : Data → Option Columns
columns_of d = option_and_then columns_from (as_array d)

-- ---- tables

-- `{"name": name, "columns": columns}`
abbrev pub table_of : Data → Option (Name × Columns)
table_of d = option_and_then (λ pair. both (text_of pair.0) (columns_of pair.1)) (two_members (codes "name") (codes "columns") d)

-- the name that a table gives itself, whatever its columns
abbrev pub table_name : Data → Option Name
table_name d = option_and_then text_of (get (codes "name") d)

-- the number of a table is below this
abbrev pub table_limit : ℕ
table_limit = 2 ^ 32

abbrev pub tables_from : Items → Option Declared
tables_from items =
    if nat_lt (items_len items) table_limit && not (repeats (some_of table_name items)) then all_of table_of items else None

-- a list of fewer than 2^32 tables, no two of one name
abbrev pub tables_of : Data → Option Declared
tables_of d = option_and_then tables_from (as_array d)

-- the number and the columns of the table of that name
abbrev pub table_at : Declared → Name → Option (ℕ × Columns)
table_at tables name = both (position (same_name name) (names_of tables)) (lookup (same_name name) tables)

-- ---- literals

-- null, a truth value and a text have types of their own
abbrev pub null_op : Op
null_op = LiteralOp NullType NullValue

abbrev pub truth_op : Bool → Op
truth_op truth = LiteralOp Truth (TruthValue truth)

abbrev pub text_op : Name → Op
text_op text = LiteralOp TextType (TextValue text)

-- a number without a type
abbrev pub number_op : ℤ → Op
number_op number = LiteralOp (Untyped number) (IntValue number)

-- null, a truth value, a text, or a whole number without a type
abbrev pub literal_of : Data → Option Op
literal_of null = Some null_op
literal_of (boolean truth) = Some (truth_op truth)
literal_of (string text) = Some (text_op (chars text))
literal_of (numeral n) = option_map number_op (whole_number (numeral n))
literal_of (array ds) = None
literal_of (object ms) = None

-- a number that 128 bits with a sign hold
abbrev pub narrow : ℤ → Option ℤ
narrow number = if in_range (Integer true 128) number then Some number else None

-- the number that bytes write: digits, behind an optional `-`
abbrev pub number_written : List ℕ → Option ℤ
number_written bytes = if slice_index bytes 0 == 43 then None else option_and_then narrow (number_in bytes)

-- a text that writes a number without a type
abbrev pub number_text_of : Data → Option Op
number_text_of d = option_map number_op (option_and_then number_written (as_str d))

-- a type of integers or of time
abbrev pub counted : Ty → Option Ty
counted type = if is_counted type then Some type else None

abbrev pub counted_of : Data → Option Ty
counted_of d = option_and_then counted (type_of d)

-- a number of such a type, whose range has it
abbrev pub typed_op : Ty → ℤ → Option Op
typed_op type number = if is_counted type && in_range type number then Some (LiteralOp type (IntValue number)) else None

abbrev pub number_of : Ty → Data → Option Op
number_of type d = option_and_then (typed_op type) (whole_number d)

abbrev pub typed_from : Data × Data → Option Op
typed_from pair = option_and_then (λ type. number_of type pair.1) (counted_of pair.0)

-- `[type, number]`
abbrev pub typed_of : Data → Option Op
typed_of d = option_and_then typed_from (two_items d)

-- a literal that is written so
abbrev pub literal_written : Writing → Data → Option Op
literal_written writings.AsIs d = literal_of d
literal_written writings.Digits d = number_text_of d
literal_written writings.Typed d = typed_of d
