-- Strict expressions, and expressions that say the same.
-- A node is strict where its operands have the types to which it takes them, and it is no number without a type.
use Rattle.std.specs.Prelude.{◌≡◌, ◌≢◌, ℤ, Bool, true, false, ◌&&◌, List, [], ◌∷◌, Some, Result, Ok, Err, IsTrue, if◌then◌else◌}
use Rattle.plan_types.specs.Types.{Ty, Untyped, is_integer, is_known, same_type}
use Rattle.plan_types.specs.Casts.{can_cast}
use Rattle.plan_types.specs.CommonTypes.{type_alone}
use Rattle.plan_types.specs.Values.{IntValue, in_range}
use Rattle.plan_types.specs.Schemas.{Columns}
use Rattle.plan_types.specs.Frames.{Row}
use Rattle.plan_types.specs.declared.error.ErrorKind.{ErrorKind}
use Rattle.plan_types.specs.declared.dtype.CastOptions.TheVariants.{NonStrict}
use Rattle.plan_dsl.specs.Registry.{Registry}
use Rattle.plan_dsl.specs.Aliases.{renamed}
use Rattle.plan_dsl.specs.Trees.{Trees, node, no_more, more}
use Rattle.plan_dsl.specs.Ops.{Op, LiteralOp, CastOp, Expression}
use Rattle.plan_dsl.specs.Literals.{settled_type}
use Rattle.plan_dsl.specs.Names.{label_of}
use Rattle.plan_dsl.specs.Typing.{Typed, Ruling, rule, types_of, typing, typing_all}
use Rattle.plan_dsl.specs.Meaning.{meaning}

-- whether the types are the same, one by one
abbrev pub same_types : List Ty → List Ty → Bool
same_types [] [] = true
same_types [] (target ∷ targets) = false
same_types (type ∷ types) [] = false
same_types (type ∷ types) (target ∷ targets) = same_type type target && same_types types targets

-- whether a node takes operands of these types as they are, and its own type is one of columns
abbrev pub takes_own : List Ty → Ruling → Bool
takes_own types ruling = same_types types ruling.operands && is_known ruling.own.type

abbrev pub is_strict_rule : List Ty → Result Ruling ErrorKind → Bool
is_strict_rule types (Err kind) = false
is_strict_rule types (Ok ruling) = takes_own types ruling

-- whether a node is strict over typed children
abbrev pub is_strict_over : Registry → Columns → Op → Result (List Typed) ErrorKind → Bool
is_strict_over registry schema op (Err kind) = false
is_strict_over registry schema op (Ok typed) = is_strict_rule (types_of typed) (rule registry schema op typed)

-- whether each node of the expression is strict
abbrev mutual
  pub is_strict : Registry → Columns → Expression → Bool
  is_strict registry schema (node op children) =
      is_strict_over registry schema op (typing_all registry schema children) && are_strict registry schema children

  pub are_strict : Registry → Columns → Trees Op → Bool
  are_strict registry schema no_more = true
  are_strict registry schema (more child rest) = is_strict registry schema child && are_strict registry schema rest

-- the node over these children is strict, the expression is, and each of the expressions is
abbrev pub IsStrictOver : Registry → Columns → Op → Trees Op → Type 0
IsStrictOver registry schema op children = IsTrue (is_strict_over registry schema op (typing_all registry schema children))

abbrev pub IsStrict : Registry → Columns → Expression → Type 0
IsStrict registry schema tree = IsTrue (is_strict registry schema tree)

abbrev pub AllStrict : Registry → Columns → Trees Op → Type 0
AllStrict registry schema trees = IsTrue (are_strict registry schema trees)

-- a literal of the type with that number, and a cast round an expression
abbrev pub number_literal : Ty → ℤ → Expression
number_literal type number = node (LiteralOp type (IntValue number)) no_more

abbrev pub cast_to : Ty → Expression → Expression
cast_to target tree = node (CastOp target NonStrict) (more tree no_more)

-- whether it is an integer type that has the number
abbrev pub integer_has : Ty → ℤ → Bool
integer_has type number = is_integer type && in_range type number

-- a number without a type, made one of a type: a literal of that type where it has the number, else a cast stands round a
-- literal of the type that the number has alone
abbrev pub number_as : ℤ → Ty → Expression
number_as number target =
    if integer_has target number then number_literal target number else cast_to target (number_literal (settled_type (Untyped number)) number)

-- an expression of the first type, made one of the second: a cast stands round it, where it is no number without a type.
-- Such a number keeps the aliases over it
abbrev pub changed : Ty → Ty → Expression → Expression
changed (Untyped number) target tree = renamed tree (number_as number target)
changed from target tree = cast_to target tree

-- an expression of the first type, made one of the second, where the types aren't one
abbrev pub as_operand : Ty → Ty → Expression → Expression
as_operand from target tree = if same_type from target then tree else changed from target tree

-- an operand of the first type can become one of the second: that is a type of columns, to which there is a cast. A number
-- without a type that the second lacks is cast from the type that it has alone
pub record CanBecome (from target : Ty) : Type 0 where
  pub known : is_known target ≡ true
  pub casts : ((number : ℤ) → from ≢ Untyped number) → can_cast from target ≡ true
  pub has : (number : ℤ) → from ≡ Untyped number → integer_has target number ≡ false → (own : Ty) × (type_alone from ≡ Some own) × (can_cast own target ≡ true)

-- operands of the first types, made ones of the second
abbrev pub as_operands : List Ty → List Ty → Trees Op → Trees Op
as_operands [] targets trees = no_more
as_operands (from ∷ types) [] trees = no_more
as_operands (from ∷ types) (target ∷ targets) no_more = no_more
as_operands (from ∷ types) (target ∷ targets) (more tree trees) = more (as_operand from target tree) (as_operands types targets trees)

-- the one expression has the type, name (with what it comes from) and meaning of the other, on every frame of the schema
pub record IsSame (registry : Registry) (schema : Columns) (before after : Expression) : Type 0 where
  pub typing : typing registry schema after ≡ typing registry schema before
  pub name : label_of after ≡ label_of before
  pub meaning : (rows : List Row) → meaning registry (record { schema = schema; rows = rows }) after ≡ meaning registry (record { schema = schema; rows = rows }) before
