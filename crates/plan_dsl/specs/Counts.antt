-- How many casts and nodes there are.
use Rattle.std.specs.Prelude.{ℕ, ◌+◌, List, sum, sum_by}
use Rattle.plan_dsl.specs.Trees.{fold}
use Rattle.plan_dsl.specs.Ops.{Op, CastOp, Expression}
use Rattle.plan_dsl.specs.Plans.{Named, PlanKind, PlanOp, Plan, expressions_of}

-- the casts at and below a node, from those below each child
abbrev pub op_casts : Op → List ℕ → ℕ
op_casts (CastOp target options) below = 1 + sum below
op_casts op below = sum below

abbrev pub expression_casts : Expression → ℕ
expression_casts tree = fold op_casts tree

abbrev pub outputs_casts : List (Named Expression) → ℕ
outputs_casts outputs = sum_by (λ output. expression_casts output.expression) outputs

-- the casts of the expressions of a node
abbrev pub kind_casts : PlanKind (Named Expression) → ℕ
kind_casts kind = sum_by (λ e. outputs_casts e.outputs) (expressions_of kind)

-- the casts at and below a plan's node, from those below each child
abbrev pub plan_op_casts : PlanOp (Named Expression) → List ℕ → ℕ
plan_op_casts op below = kind_casts op.kind + sum below

-- how many casts the expressions of a plan have
abbrev pub cast_count : Plan → ℕ
cast_count plan = fold plan_op_casts plan

-- how many nodes a plan has
abbrev pub node_count : Plan → ℕ
node_count plan = fold (λ op below. 1 + sum below) plan
