-- What the worked examples share beside the samples of expressions and plans: items of arenas, and lowered plans.
use Prim.Native.String.{String}
use Rattle.std.specs.Prelude.{ℕ, List, [], ◌∷◌, map, codes, Some}
use Rattle.plan_types.specs.Types.{Ty}
use Rattle.plan_types.specs.Schemas.{Columns}
use Rattle.plan_types.specs.Frames.{Frame}
use Rattle.plan_types.specs.declared.schema.Schema.{Schema}
use Rattle.plan_types.specs.declared.dtype.CastOptions.TheVariants.{Strict, NonStrict}
use Rattle.plan_types.specs.declared.dtype.DataType.TheVariants.{Int32}
use Rattle.plan_dsl.specs.declared.function_expr.FunctionExpr.TheVariants.{FillNull}
use Rattle.plan_dsl.specs.declared.operator.Operator.TheVariants.{Plus}
use Rattle.plan_dsl.specs.Trees.{node, no_more, more}
use Rattle.plan_dsl.specs.Names.{Label, column_label, literal_label}
use Rattle.plan_dsl.specs.Ops.{FunctionOp, Expression}
use Rattle.plan_dsl.specs.Plans.{Named, Plan, named, select_op, hstack_op, group_by_op, simple_projection_op}
use Rattle.plan_dsl.specs.Samples.{int8, int32, number, null, yes, no, a, b, sum, cast_as, frame_with, scan, empty_scan, schema_ab, schema_flagged}
use Rattle.plan_arena.specs.declared.arena.Node.{Node}
use Rattle.plan_arena.specs.declared.aexpr.AExpr.{AExpr}
use Rattle.plan_arena.specs.declared.aexpr.AExpr.TheVariants.{Column, BinaryExpr, Cast}
use Rattle.plan_arena.specs.declared.expr_ir.ExprIR.{ExprIR}
use Rattle.plan_arena.specs.declared.expr_ir.OutputName.TheVariants.{ColumnLhs}
use Rattle.plan_arena.specs.declared.ir.IR.{IR}
use Rattle.plan_arena.specs.declared.ir.IR.TheVariants.{DataFrameScan, Filter}

abbrev pub node_at : ℕ → Node
node_at number = record { 0 = number }

-- a node with the name of its column, as the code keeps it and in a plan's op, and one with that of a literal
abbrev pub a_at : ℕ → ExprIR
a_at number = record { node = node_at number; output_name = ColumnLhs (codes "a") }

abbrev pub named_at : String → ℕ → Named ℕ
named_at name number = record { label = column_label (codes name); expression = number }

abbrev pub literal_at : ℕ → Named ℕ
literal_at number = record { label = literal_label (codes "literal"); expression = number }

-- a in the type of b, and their sum with that cast: in an arena they are nodes 2 and 3
abbrev pub wide_a : Expression
wide_a = cast_as NonStrict int32 a

abbrev pub strict_sum : Expression
strict_sum = sum wide_a b

abbrev pub sum_items : List AExpr
sum_items = Column (codes "a") ∷ Column (codes "b") ∷ Cast (node_at 0) Int32 NonStrict ∷ BinaryExpr (node_at 2) Plus (node_at 1) ∷ []

-- a with b in place of nulls, where these names are recorded of the two
abbrev pub filled_under : List Label → Expression
filled_under labels = node (FunctionOp FillNull labels) (more a (more b no_more))

-- an expression that is its own input
abbrev pub circle : List AExpr
circle = Cast (node_at 0) Int32 NonStrict ∷ []

-- a schema of one column
abbrev pub schema_of_one : String → Ty → Columns
schema_of_one name type = (codes name, type) ∷ []

-- two columns of one name
abbrev pub named_twice : Columns
named_twice = (codes "a", int8) ∷ (codes "a", int32) ∷ []

-- a scan and a filter over it, by the expression at node 0
abbrev pub filtered_scan : Schema → List IR
filtered_scan schema = DataFrameScan (Some 0) schema ∷ Filter (node_at 0) (a_at 0) ∷ []

-- a lowered select and a lowered simple projection, which record their schemas
abbrev pub lowered_select : Columns → List Expression → Plan → Plan
lowered_select schema outputs input = node (select_op (map named outputs) (Some schema)) (more input no_more)

-- a lowered group-by, which records its schema
abbrev pub lowered_groups : Columns → List Expression → List Expression → Plan → Plan
lowered_groups schema keys aggs input = node (group_by_op (map named keys) (map named aggs) (Some schema)) (more input no_more)

-- a lowered hstack, which records its schema
abbrev pub lowered_hstack : Columns → List Expression → Plan → Plan
lowered_hstack schema outputs input = node (hstack_op (map named outputs) (Some schema)) (more input no_more)

abbrev pub lowered_projection : Columns → Plan → Plan
lowered_projection columns input = node (simple_projection_op columns (Some columns)) (more input no_more)

-- the sum over its scan, a strict cast of numbers that a narrow type doesn't have, and a number over the empty table
abbrev pub lowered_sum : Columns → Plan
lowered_sum schema = lowered_select schema (strict_sum ∷ []) (scan schema_ab)

abbrev pub narrowed : Plan
narrowed = lowered_select (schema_of_one "b" int8) (cast_as Strict int8 b ∷ []) (scan schema_ab)

abbrev pub lowered_number : Ty → Expression → Plan
lowered_number type output = lowered_select (schema_of_one "literal" type) (output ∷ []) (empty_scan (schema_of_one "a" int8))

-- what the sum gives of the table, and rows of which one is kept
abbrev pub sums : Frame
sums = frame_with (schema_of_one "a" int32) ((number 11 ∷ []) ∷ (null ∷ []) ∷ (number 300 ∷ []) ∷ [])

abbrev pub three_flagged : Frame
three_flagged = frame_with schema_flagged ((number 1 ∷ yes ∷ []) ∷ (null ∷ null ∷ []) ∷ (number 100 ∷ no ∷ []) ∷ [])

abbrev pub three_numbers : Frame
three_numbers = frame_with (schema_of_one "a" int8) ((number 1 ∷ []) ∷ (null ∷ []) ∷ (number 100 ∷ []) ∷ [])
