-- Literals.
-- A literal is a value of a type: null, of its own type, a truth value, a text, a number of an integer type or one of time,
-- which must have it. A whole number may be written without a type: then it has one for itself, until it gets that of
-- what stands beside it.
use Rattle.std.specs.Prelude.{pos, Bool, true, false, is_some, ◌&&◌, unwrap_or}
use Rattle.plan_types.specs.Types.{Ty, NullType, Truth, Integer, TextType, DateType, TimeType, DatetimeType, DurationType, Untyped, is_null}
use Rattle.plan_types.specs.Values.{Val, NullValue, TruthValue, IntValue, TextValue, ListValue, StructValue, fits}
use Rattle.plan_types.specs.CommonTypes.{type_alone}
use Rattle.plan_dsl.specs.declared.literal.LiteralValue.{LiteralValue}
use Rattle.plan_dsl.specs.declared.literal.LiteralValue.TheVariants.{Null, Boolean, String, Int, Int8, Int16, Int32, Int64, UInt8, UInt16, UInt32, UInt64, Date, Time, DateTime, Duration}
use Rattle.plan_dsl.specs.Trees.{node, no_more, more}
use Rattle.plan_dsl.specs.Ops.{Op, LiteralOp, AliasOp, Expression}

abbrev pub literal_type : LiteralValue → Ty
literal_type Null = NullType
literal_type (Boolean truth) = Truth
literal_type (String text) = TextType
literal_type (Int number) = Untyped number
literal_type (Int8 number) = Integer true 8
literal_type (Int16 number) = Integer true 16
literal_type (Int32 number) = Integer true 32
literal_type (Int64 number) = Integer true 64
literal_type (UInt8 number) = Integer false 8
literal_type (UInt16 number) = Integer false 16
literal_type (UInt32 number) = Integer false 32
literal_type (UInt64 number) = Integer false 64
literal_type (Date days) = DateType
literal_type (Time nanoseconds) = TimeType
literal_type (DateTime count unit) = DatetimeType unit
literal_type (Duration count unit) = DurationType unit

abbrev pub literal_value : LiteralValue → Val
literal_value Null = NullValue
literal_value (Boolean truth) = TruthValue truth
literal_value (String text) = TextValue text
literal_value (Int number) = IntValue number
literal_value (Int8 number) = IntValue number
literal_value (Int16 number) = IntValue number
literal_value (Int32 number) = IntValue number
literal_value (Int64 number) = IntValue number
literal_value (UInt8 number) = IntValue (pos number)
literal_value (UInt16 number) = IntValue (pos number)
literal_value (UInt32 number) = IntValue (pos number)
literal_value (UInt64 number) = IntValue (pos number)
literal_value (Date days) = IntValue days
literal_value (Time nanoseconds) = IntValue nanoseconds
literal_value (DateTime count unit) = IntValue count
literal_value (Duration count unit) = IntValue count

abbrev pub literal_op : LiteralValue → Op
literal_op value = LiteralOp (literal_type value) (literal_value value)

-- whether a literal of the type may have the value: null is one of its own type alone, and no literal is a list or a struct
abbrev pub is_literal_of : Ty → Val → Bool
is_literal_of type NullValue = is_null type
is_literal_of type (ListValue items) = false
is_literal_of type (StructValue parts) = false
is_literal_of type value = fits value type

-- whether there is a literal of the type with the value: a number without a type has one alone
abbrev pub is_literal : Ty → Val → Bool
is_literal type value = is_literal_of type value && is_some (type_alone type)

-- a number without a type gets that which it has alone, if there is one
abbrev pub settled_type : Ty → Ty
settled_type type = unwrap_or (type_alone type) type

abbrev pub settled_op : Op → Op
settled_op (LiteralOp type value) = LiteralOp (settled_type type) value
settled_op op = op

-- an expression as a plan's node takes it: a number without a type at its top, maybe under aliases, gets one
abbrev pub settled : Expression → Expression
settled (node (AliasOp name) (more tree no_more)) = node (AliasOp name) (more (settled tree) no_more)
settled (node op children) = node (settled_op op) children
