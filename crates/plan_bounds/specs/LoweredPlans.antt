-- Lowered plans: what holds of them whatever they were lowered from.
-- A horizontal over few operands is written out, so one that stands in a lowered plan is wide.
use Rattle.std.specs.Prelude.{ℕ, nat_lt, Bool, true, not, ◌&&◌, List, IsTrue}
use Rattle.std.specs.List.{AllByRecursion}
use Rattle.plan_dsl.specs.Functions.{is_horizontal}
use Rattle.plan_dsl.specs.Ops.{Op, FunctionOp, Expression}
use Rattle.plan_dsl.specs.Plans.{Named, OverInput, PlanOp, Plan, expressions_of}
use Rattle.plan_dsl.specs.Registry.{Registry}
use Rattle.plan_dsl.specs.Signatures.{least_horizontal}
use Rattle.plan_dsl.specs.Trees.{Trees, node, no_more, more, tree_count}
use Rattle.plan_arena.specs.Runs.{IsAccepted, IsStrictPlan, IsNamedPlan}

-- a horizontal is wide over that many operands, and no other node is asked
abbrev pub is_wide : Op → ℕ → Bool
is_wide (FunctionOp function recorded) count = not (is_horizontal function && nat_lt count least_horizontal)
is_wide op count = true

abbrev mutual
  -- whether each horizontal in an expression is
  pub has_wide_horizontals : Expression → Bool
  has_wide_horizontals (node op children) = is_wide op (tree_count children) && have_wide_horizontals children

  pub have_wide_horizontals : Trees Op → Bool
  have_wide_horizontals no_more = true
  have_wide_horizontals (more child rest) = has_wide_horizontals child && have_wide_horizontals rest

-- in each of the expressions of a node
abbrev pub AreWide : List (OverInput (Named Expression)) → Type 0
AreWide es = AllByRecursion (λ e. AllByRecursion (λ output. IsTrue (has_wide_horizontals output.expression)) e.outputs) es

abbrev mutual
  -- and of all nodes
  pub IsWidePlan : Plan → Type 0
  IsWidePlan (node op inputs) = AreWide (expressions_of op.kind) × AllWidePlans inputs

  pub AllWidePlans : Trees (PlanOp (Named Expression)) → Type 0
  AllWidePlans no_more = Unit {0}
  AllWidePlans (more plan rest) = IsWidePlan plan × AllWidePlans rest

-- a lowered plan is accepted, strict and named, and each horizontal in it is wide
pub record IsLoweredPlan (registry : Registry) (plan : Plan) : Type 0 where
  pub accepted : IsAccepted registry plan
  pub strict : IsStrictPlan registry plan
  pub names : IsNamedPlan plan
  pub wide : IsWidePlan plan
