-- What the worked examples share: the sum with a cast and what an arena holds of it.
use Rattle.std.specs.Prelude.{◌≡◌, ℕ, true, List, [], ◌∷◌, codes, map, Option, Some}
use Rattle.plan_types.specs.Schemas.{Columns, columns}
use Rattle.plan_types.specs.declared.schema.Schema.{Schema}
use Rattle.plan_types.specs.declared.dtype.DataType.{DataType}
use Rattle.plan_types.specs.declared.dtype.DataType.TheVariants as dtype
use Rattle.plan_types.specs.Types.{Ty, NullType, Truth}
use Rattle.plan_types.specs.Values.{Val, NullValue, TruthValue}
use Rattle.plan_types.specs.declared.dtype.CastOptions.{CastOptions}
use Rattle.plan_types.specs.declared.dtype.CastOptions.TheVariants.{NonStrict}
use Rattle.plan_dsl.specs.declared.operator.Operator.TheVariants.{Eq, Plus}
use Rattle.plan_dsl.specs.InlinedCasts.{literal_cast}
use Rattle.plan_dsl.specs.Ops.{LiteralOp, Expression}
use Rattle.plan_dsl.specs.Trees.{node, no_more}
use Rattle.plan_arena.specs.declared.aexpr.AExpr.{AExpr}
use Rattle.plan_arena.specs.declared.aexpr.AExpr.TheVariants.{Cast}
use Rattle.plan_arena.specs.declared.ir.IR.{IR}
use Rattle.plan_arena.specs.declared.ir.IR.TheVariants.{DataFrameScan, Filter}
use Rattle.plan_arena.specs.declared.expr_ir.OutputName.TheVariants.{ColumnLhs}
use Rattle.plan_infer.specs.Samples.{int32, two_columns, a, b, binary, cast_to, at, pair, columns_and}
use Rattle.plan_coerce.specs.CoercionRule.{IsCoercion}
use Rattle.plan_coerce.specs.Rules.{is_settled, until_settled}
use Rattle.plan_coerce.specs.Turns.{IsFound, IsPlaced, IsStopped, IsTurn}

abbrev pub wide : Expression
wide = cast_to int32 a

-- the sum over two columns of which the first is cast
abbrev pub strict_sum : Expression
strict_sum = binary Plus wide b

abbrev pub cast_of : ℕ → DataType → AExpr
cast_of n dtype = Cast (at n) dtype NonStrict

-- the items of a sum over two columns of which the first is cast
abbrev pub strict_items : List AExpr
strict_items = columns_and (pair 3 Plus 1 ∷ cast_of 0 dtype.Int32 ∷ [])

-- what the rule of coercion does at nodes over these columns
abbrev pub IsSumPlaced : List AExpr → List AExpr → ℕ → Type 0
IsSumPlaced = IsPlaced (is_settled [] two_columns) (until_settled [] two_columns) (IsCoercion [] two_columns) (Some 1) [] two_columns

abbrev pub IsSumFound : List AExpr → List AExpr → ℕ → Type 0
IsSumFound = IsFound (is_settled [] two_columns)

abbrev pub IsSumTurn : List AExpr → List AExpr → ℕ → List ℕ → List ℕ → ℕ → ℕ → Type 0
IsSumTurn = IsTurn (is_settled [] two_columns) (until_settled [] two_columns) (IsCoercion [] two_columns) (Some 1) [] two_columns

abbrev pub IsSumStopped : List AExpr → List AExpr → ℕ → Type 0
IsSumStopped = IsStopped (is_settled [] two_columns) (until_settled [] two_columns) (IsCoercion [] two_columns) (Some 1) [] two_columns

-- two columns and whether they are equal
abbrev pub equal_items : List AExpr
equal_items = columns_and (pair 0 Eq 1 ∷ [])

-- a property of each schema of these columns
abbrev pub ForSchema : Columns → (Schema → Type 0) → Type 0
ForSchema own Has = (schema : Schema) → columns schema ≡ own → Has schema

-- a plan's filter over a node, by a node of the other arena, and a scan with other nodes behind it
abbrev pub filter_by : ℕ → ℕ → IR
filter_by input predicate = Filter (at input) (record { node = at predicate; output_name = ColumnLhs (codes "a") })

abbrev pub scan_and : Schema → List IR → List IR
scan_and schema behind = DataFrameScan (Some 0) schema ∷ behind

-- over a scan a filter by truth values and one by numbers, and a filter over the latter
abbrev pub filters : Schema → List IR
filters schema = scan_and schema (filter_by 0 2 ∷ filter_by 0 0 ∷ filter_by 2 2 ∷ [])

-- a literal of the type, and what is told of a cast that becomes one
abbrev pub of : Ty → Val → Expression
of type value = node (LiteralOp type value) no_more

abbrev pub told_as : Ty → Val → Option Expression
told_as type value = Some (of type value)

-- a truth value and null, as literals
abbrev pub truth : Expression
truth = of Truth (TruthValue true)

abbrev pub no_truth : Expression
no_truth = of NullType NullValue

-- what stands for a cast of a literal: each row has the literal's type and value, the type to which it is cast, and the answer
abbrev pub CastsTo : CastOptions → List (Ty × Val × Ty × Option Expression) → Type 0
CastsTo options table = map (λ row. literal_cast row.0 row.1 row.2 options) table ≡ map (λ row. row.3) table
