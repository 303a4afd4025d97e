-- Sums of one column.
use Rattle.std.specs.Prelude.{ℕ, zero, suc, List}
use Rattle.plan_dsl.specs.Trees.{node, no_more, more}
use Rattle.plan_dsl.specs.Ops.{ColumnOp, BinaryOp, Expression}
use Rattle.plan_dsl.specs.declared.operator.Operator.TheVariants.{Plus}

-- the column, to which it is added so often
abbrev pub sum_tree : List ℕ → ℕ → Expression
sum_tree name zero = node (ColumnOp name) no_more
sum_tree name (suc additions) = node (BinaryOp Plus) (more (sum_tree name additions) (more (node (ColumnOp name) no_more) no_more))
