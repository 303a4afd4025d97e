-- Aggregates whose values can be made of those of parts.
use Rattle.std.specs.Prelude.{Bool, true, false, ◌&&◌}
use Rattle.plan_dsl.specs.declared.aggregate.GroupByMethod.{GroupByMethod}
use Rattle.plan_dsl.specs.declared.aggregate.GroupByMethod.TheVariants.{Min, NanMin, Max, NanMax, First, Last, Sum, Count}
use Rattle.plan_dsl.specs.Ops.{LenOp, AggOp, Expression}
use Rattle.plan_dsl.specs.Properties.{has_column, has_single_functions, is_elementwise}
use Rattle.plan_dsl.specs.Trees.{node, no_more, more}

-- the values of parts can be merged
abbrev pub merges : GroupByMethod → Bool
merges Min = true
merges NanMin = true
merges Max = true
merges NanMax = true
merges First = true
merges Last = true
merges Sum = true
merges (Count include_nulls) = include_nulls
merges method = false

-- a count of rows, or an aggregate by such a method of an elementwise expression that names a column and whose functions
-- have one operand each
abbrev pub can_pre_agg : Expression → Bool
can_pre_agg (node LenOp operands) = true
can_pre_agg (node (AggOp method) (more input no_more)) = merges method && (is_elementwise input && (has_single_functions input && has_column input))
can_pre_agg tree = false
