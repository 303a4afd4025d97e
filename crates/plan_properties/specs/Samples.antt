-- What the worked examples share.
use Rattle.std.specs.Prelude.{pos, List, [], ◌∷◌, codes}
use Rattle.plan_types.specs.Frames.{Frame, Row}
use Rattle.plan_types.specs.Schemas.{Columns}
use Rattle.plan_types.specs.Types.{TextType}
use Rattle.plan_types.specs.declared.dtype.CastOptions.{CastOptions}
use Rattle.plan_dsl.specs.declared.aggregate.GroupByMethod.{GroupByMethod}
use Rattle.plan_dsl.specs.declared.operator.Operator.TheVariants.{And, Gt}
use Rattle.plan_dsl.specs.Ops.{AggOp, Expression}
use Rattle.plan_dsl.specs.Plans.{Named, Plan, filter_op}
use Rattle.plan_dsl.specs.Names.{alias_label}
use Rattle.plan_dsl.specs.Samples.{b, binary, cast_as, equal, int64, number, s, text, typed_literal}
use Rattle.plan_dsl.specs.Trees.{node, no_more, more}
use Rattle.plan_arena.specs.declared.expr_ir.ExprIR.{ExprIR}
use Rattle.plan_arena.specs.declared.expr_ir.OutputName.TheVariants.{ColumnLhs}
use Rattle.plan_infer.specs.Samples.{at}

abbrev pub aggregate : GroupByMethod → Expression → Expression
aggregate method input = node (AggOp method) (more input no_more)

abbrev pub both : Expression → Expression → Expression
both left right = binary And left right

-- an expression under an alias, as a plan records it, and a filter by it
abbrev pub under_alias : Expression → Named Expression
under_alias tree = record { label = alias_label (codes "x"); expression = tree }

abbrev pub filtered_by : Expression → Plan → Plan
filtered_by tree input = node (filter_op (under_alias tree)) (more input no_more)

-- column a, as a plan records it
abbrev pub recorded_a : ExprIR
recorded_a = record { node = at 0; output_name = ColumnLhs (codes "a") }

-- texts beside numbers
abbrev pub words_and_numbers : Columns
words_and_numbers = (codes "s", TextType) ∷ (codes "b", int64) ∷ []

abbrev pub frame_of : List Row → Frame
frame_of rows = record { schema = words_and_numbers; rows = rows }

-- a text that is no number, beside 2
abbrev pub no_number : Frame
no_number = frame_of ((text "x" ∷ number 2 ∷ []) ∷ [])

-- the text is a number above 0, and the number beside it is 1
abbrev pub is_one : Expression
is_one = equal b (typed_literal int64 (pos 1))

abbrev pub is_above : CastOptions → Expression
is_above options = binary Gt (cast_as options int64 s) (typed_literal int64 (pos 0))

abbrev pub above_beside_one : CastOptions → Expression
above_beside_one options = both (is_above options) is_one
