-- What the worked examples share: columns a and b, their sum, what arenas hold of them, and tables of types.
use Rattle.std.specs.Prelude.{◌≡◌, ℕ, Bool, List, [], ◌∷◌, codes, Option, Result, Ok}
use Rattle.std.specs.List.{AllByRecursion}
use Rattle.plan_types.specs.Types.{Ty, StructType, no_field, with_field}
use Rattle.plan_types.specs.Errors.{IsRefusal, at_top}
use Rattle.plan_types.specs.Schemas.{Name, Columns}
use Rattle.plan_types.specs.declared.dtype.DataType.{DataType}
use Rattle.plan_types.specs.declared.dtype.CastOptions.TheVariants.{Strict, NonStrict}
use Rattle.plan_types.specs.declared.error.ErrorKind.{ErrorKind}
use Rattle.plan_types.specs.declared.error.PlanError.{PlanError}
use Rattle.plan_dsl.specs.declared.function_expr.FunctionExpr.{FunctionExpr}
use Rattle.plan_dsl.specs.declared.operator.Operator.{Operator}
use Rattle.plan_dsl.specs.declared.operator.Operator.TheVariants.{Plus}
use Rattle.plan_dsl.specs.Ops.{ColumnOp, TernaryOp, FunctionOp, Expression}
use Rattle.plan_dsl.specs.Trees.{node, no_more, more, children_from}
use Rattle.plan_dsl.specs.Samples.{cast_as}
use Rattle.plan_dsl.specs.Typing.{Ruling, Typed, typing}
use Rattle.plan_arena.specs.declared.arena.Node.{Node}
use Rattle.plan_arena.specs.declared.aexpr.AExpr.{AExpr}
use Rattle.plan_arena.specs.declared.aexpr.AExpr.TheVariants.{Column, BinaryExpr}
use Rattle.plan_infer.specs.declared.type_table.Inferred.{Inferred}
use Rattle.plan_infer.specs.declared.type_table.TypeTable.{TypeTable}
use Rattle.plan_infer.specs.Typed.{HasType}
-- those of queries: integer types, columns a, b and c, of which no schema here has c, literals, and operators
pub use Rattle.plan_dsl.specs.Samples.{int8, int16, int32, int64, a, b, c, five, binary, typed_literal as literal, literal as number, many_values as of_type, one_value as of_one}

-- a column a alone
abbrev pub one_column : Ty → Columns
one_column type = (codes "a", type) ∷ []

-- columns a and b
abbrev pub columns_of : Ty → Ty → Columns
columns_of left right = (codes "a", left) ∷ (codes "b", right) ∷ []

abbrev pub two_columns : Columns
two_columns = columns_of int8 int32

-- structs with one field
abbrev pub struct_of : Name → Ty → Ty
struct_of name type = StructType (with_field name type no_field)

abbrev pub column : Name → Expression
column name = node (ColumnOp name) no_more

abbrev pub cast_to : Ty → Expression → Expression
cast_to = cast_as NonStrict

abbrev pub strictly_cast_to : Ty → Expression → Expression
strictly_cast_to = cast_as Strict

abbrev pub sum : Expression
sum = binary Plus a b

-- the first where the second is true, and the third elsewhere
abbrev pub ternary : Expression → Expression → Expression → Expression
ternary truthy predicate falsy = node TernaryOp (more truthy (more predicate (more falsy no_more)))

-- a function of operands, under their own names
abbrev pub apply : FunctionExpr → List Expression → Expression
apply function operands = node (FunctionOp function []) (children_from operands)

-- what a rule makes of operands that it takes to these types
abbrev pub made : List Ty → Typed → Result Ruling ErrorKind
made operands own = Ok (record { operands = operands; own = own })

abbrev pub at : ℕ → Node
at n = record { 0 = n }

abbrev pub pair : ℕ → Operator → ℕ → AExpr
pair left operator right = BinaryExpr (at left) operator (at right)

-- columns a and b at nodes 0 and 1, with other items behind them
abbrev pub columns_and : List AExpr → List AExpr
columns_and behind = Column (codes "a") ∷ Column (codes "b") ∷ behind

abbrev pub sum_items : List AExpr
sum_items = columns_and (pair 0 Plus 1 ∷ [])

abbrev pub a_items : List AExpr
a_items = Column (codes "a") ∷ []

abbrev pub refused : ErrorKind → List ℕ → PlanError
refused kind place = record { kind = kind; place = place }

-- a property of each entry that says this: the node that gives the name, the type, whether there are many, and the types
-- to which operands are taken
abbrev pub ForEntry : ℕ → DataType → Bool → List DataType → (Inferred → Type 0) → Type 0
ForEntry name dtype many operands Has = (own : Inferred) → own.name.0 ≡ name → own.dtype ≡ dtype → own.many ≡ many → own.operands ≡ operands → Has own

-- a property of each table that keeps these entries from that node on
abbrev pub ForTable : ℕ → List (Option Inferred) → (TypeTable → Type 0) → Type 0
ForTable first entries Has = (table : TypeTable) → table.first ≡ first → table.entries.items ≡ entries → Has table

-- expressions over columns, which have these types
abbrev pub HaveTypes : List (Columns × Expression × Ty) → Type 0
HaveTypes cases = AllByRecursion (λ case. HasType (typing [] case.0 case.1) case.2) cases

-- expressions over columns, which are refused by that kind
abbrev pub AreRefused : ErrorKind → List (Columns × Expression) → Type 0
AreRefused kind cases = AllByRecursion (λ case. IsRefusal (typing [] case.0 case.1) (at_top kind)) cases
