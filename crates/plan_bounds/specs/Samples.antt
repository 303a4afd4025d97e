-- What the worked examples share: a select that records its schema, and a horizontal over two operands that isn't written out.
use Rattle.std.specs.Prelude.{[], ◌∷◌, codes, Some}
use Rattle.plan_types.specs.Types.{Ty}
use Rattle.plan_dsl.specs.declared.function_expr.FunctionExpr.TheVariants.{AllHorizontal}
use Rattle.plan_dsl.specs.Names.{column_label}
use Rattle.plan_dsl.specs.Ops.{Expression}
use Rattle.plan_dsl.specs.Plans.{Named, Plan, named, select_op}
use Rattle.plan_dsl.specs.Samples.{call}
use Rattle.plan_dsl.specs.Trees.{node, no_more, more}
use Rattle.plan_infer.specs.Samples.{a, b}

-- a select of one expression, whose name is that of column a, with its type
abbrev pub recorded_select : Expression → Ty → Plan → Plan
recorded_select tree type input = node (select_op (named tree ∷ []) (Some ((codes "a", type) ∷ []))) (more input no_more)

abbrev pub over_two : Named Expression
over_two = record { label = column_label (codes "a"); expression = call AllHorizontal (a ∷ b ∷ []) }
