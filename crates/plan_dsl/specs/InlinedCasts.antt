-- Expressions without the casts that can be told beforehand.
-- A cast of a literal is a literal of the type to which it goes, where that type has one and the value isn't null. A cast of
-- LogicalAnd or LogicalOr to truth values is what stands under it. Casts further in go first. Any other cast stays.
use Rattle.std.specs.Prelude.{ℕ, Bool, true, false, ◌&&◌, not, Option, Some, None, unwrap_or, is_some, if◌then◌else◌}
use Rattle.plan_types.specs.Types.{Ty, Truth, same_type}
use Rattle.plan_types.specs.Values.{Val, NullValue}
use Rattle.plan_types.specs.Schemas.{Columns}
use Rattle.plan_types.specs.Casts.{Converted, Gives, Fails, can_cast, cast}
use Rattle.plan_types.specs.declared.dtype.CastOptions.{CastOptions}
use Rattle.plan_dsl.specs.declared.operator.Operator.{Operator}
use Rattle.plan_dsl.specs.declared.operator.Operator.TheVariants.{LogicalAnd, LogicalOr}
use Rattle.plan_dsl.specs.Coercion.{coerced}
use Rattle.plan_dsl.specs.Literals.{is_literal}
use Rattle.plan_dsl.specs.Registry.{Registry}
use Rattle.plan_dsl.specs.Ops.{Op, LiteralOp, BinaryOp, CastOp, Expression}
use Rattle.plan_dsl.specs.Trees.{Trees, node, no_more, more}

-- what a cast of a value gives: to the own type it changes nothing
abbrev pub converted : Ty → Val → Ty → CastOptions → Converted
converted from value target options = if same_type from target then Gives value else cast value from target options

-- a literal of the type with the value, if there is one and it isn't null
abbrev pub literal_with : Ty → Val → Option Expression
literal_with target NullValue = None
literal_with target value = if is_literal target value then Some (node (LiteralOp target value) no_more) else None

abbrev pub literal_given : Ty → Converted → Option Expression
literal_given target Fails = None
literal_given target (Gives value) = literal_with target value

-- what stands for a cast of a literal, if that is a literal
abbrev pub literal_cast : Ty → Val → Ty → CastOptions → Option Expression
literal_cast from value target options =
    if is_literal from value && can_cast from target then literal_given target (converted from value target options) else None

abbrev pub is_logical : Operator → Bool
is_logical LogicalAnd = true
is_logical LogicalOr = true
is_logical operator = false

-- whether it is of one of these operators
abbrev pub is_operator : Expression → Bool
is_operator (node (BinaryOp operator) operands) = is_logical operator
is_operator (node op operands) = false

-- what stands for a cast of the expression, if not the cast
abbrev pub cast_of_top : Ty → CastOptions → Op → Trees Op → Option Expression
cast_of_top target options (LiteralOp from value) no_more = literal_cast from value target options
cast_of_top target options (BinaryOp operator) operands =
    if is_logical operator && same_type Truth target then Some (node (BinaryOp operator) operands) else None
cast_of_top target options op operands = None

abbrev pub cast_of : Ty → CastOptions → Expression → Option Expression
cast_of target options (node op operands) = cast_of_top target options op operands

-- what stands for a node, if not the node
abbrev pub in_place_of : Op → Trees Op → Option Expression
in_place_of (CastOp target options) (more operand no_more) = cast_of target options operand
in_place_of op operands = None

abbrev mutual
  -- an expression without these casts
  pub inlined : Expression → Expression
  inlined (node op operands) = unwrap_or (in_place_of op (all_inlined operands)) (node op (all_inlined operands))

  pub all_inlined : Trees Op → Trees Op
  all_inlined no_more = no_more
  all_inlined (more tree trees) = more (inlined tree) (all_inlined trees)

-- an expression with every implicit cast written out, without these
abbrev pub written_out : Registry → Columns → Expression → Expression
written_out registry schema tree = inlined (coerced registry schema tree)

-- whether a node stays
abbrev pub stays : Expression → Bool
stays (node op operands) = not (is_some (in_place_of op (all_inlined operands)))

abbrev pub is_cast_op : Op → Bool
is_cast_op (CastOp target options) = true
is_cast_op op = false

abbrev pub is_cast : Expression → Bool
is_cast (node op operands) = is_cast_op op

-- how often a node with every cast written out is replaced until it stays: what stands under a cast of a literal is one
-- itself, and what stands under a cast of LogicalAnd or LogicalOr has yet to be coerced
abbrev pub until_gone : Expression → ℕ
until_gone tree = if stays tree then 0 else if is_operator (inlined tree) then 3 else 1

-- ---- what stands under casts

-- whether a cast of it can be told beforehand
abbrev pub is_told_top : Op → Bool
is_told_top (LiteralOp type value) = true
is_told_top (BinaryOp operator) = is_logical operator
is_told_top op = false

abbrev pub is_told : Expression → Bool
is_told (node op operands) = is_told_top op
