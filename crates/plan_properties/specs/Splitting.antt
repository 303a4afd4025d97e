-- Filters that are split: a predicate's parts, and filters one over the other.
-- A predicate whose top says that both of two are true has the parts of both. A filter by it keeps the rows that filters by
-- its parts keep one after the other, where each of its nodes is taken to go by row and to have no fault.
use Rattle.std.specs.Prelude.{◌≡◌, ◌&&◌, Bool, true, false, not, IsTrue, List, [], ◌∷◌, ◌++◌, map, Some, Ok, if◌then◌else◌}
use Rattle.std.specs.List.{AllByRecursion}
use Rattle.plan_types.specs.Frames.{Frame, IsFrameOf, row_numbers}
use Rattle.plan_types.specs.Outcomes.{Outcome, Done, Meets, then_do}
use Rattle.plan_types.specs.Schemas.{Columns}
use Rattle.plan_types.specs.Types.{Truth}
use Rattle.plan_dsl.specs.Aliases.{IsCore}
use Rattle.plan_dsl.specs.Meaning.{meaning}
use Rattle.plan_dsl.specs.Ops.{Op, BinaryOp, Expression}
use Rattle.plan_dsl.specs.PlanKernels.{kept_rows}
use Rattle.plan_dsl.specs.Names.{label_of}
use Rattle.plan_dsl.specs.PlanRules.{schema_of}
use Rattle.plan_dsl.specs.Plans.{FilterWork, OverKind, Named, filter_op, Plan, PlanKind, PlanOp}
use Rattle.plan_dsl.specs.Properties.{permits_pushdown}
use Rattle.plan_dsl.specs.Registry.{Registry}
use Rattle.plan_dsl.specs.Strictness.{IsStrict}
use Rattle.plan_dsl.specs.Trees.{Trees, node, no_more, more}
use Rattle.plan_dsl.specs.Typing.{Typed, typing}
use Rattle.plan_dsl.specs.declared.operator.Operator.TheVariants.{And, LogicalAnd}
use Rattle.plan_arena.specs.Items.{DenoteNamed, named_node}
use Rattle.plan_arena.specs.Runs.{plan_run}
use Rattle.plan_arena.specs.declared.aexpr.AExpr.{AExpr}
use Rattle.plan_arena.specs.declared.expr_ir.ExprIR.{ExprIR}

-- whether a node asks that both of two are true
abbrev pub is_conjunction : Op → Bool
is_conjunction (BinaryOp And) = true
is_conjunction (BinaryOp LogicalAnd) = true
is_conjunction op = false

abbrev mutual
  -- the parts of a predicate, from left to right
  pub conjuncts : Expression → List Expression
  conjuncts (node op operands) = if is_conjunction op then all_conjuncts operands else node op operands ∷ []

  pub all_conjuncts : Trees Op → List Expression
  all_conjuncts no_more = []
  all_conjuncts (more tree rest) = conjuncts tree ++ all_conjuncts rest

-- a part under its own name
abbrev pub own_named : Expression → Named Expression
own_named tree = record { label = label_of tree; expression = tree }

-- the predicates to which a filter is split, the last innermost: the parts where the filter may be moved, else the whole
abbrev pub split_predicate : Named Expression → List (Named Expression)
split_predicate predicate = if permits_pushdown predicate.expression then map own_named (conjuncts predicate.expression) else predicate ∷ []

-- a filter by a predicate isn't split
abbrev pub is_whole : Expression → Bool
is_whole (node op operands) = not (is_conjunction op && permits_pushdown (node op operands))

abbrev pub IsWhole : PlanKind (Named Expression) → Type 0
IsWhole (OverKind FilterWork ((predicate ∷ []) ∷ [])) = IsTrue (is_whole predicate.expression)
IsWhole kind = Unit {0}

-- so it is over these inputs: no input is excepted
abbrev pub IsWholeOver : PlanKind (Named Expression) → Trees (PlanOp (Named Expression)) → Type 0
IsWholeOver kind inputs = IsWhole kind

abbrev mutual
  -- no filter of a plan can be split
  pub IsSplitPlan : Plan → Type 0
  IsSplitPlan (node op inputs) = IsWholeOver op.kind inputs × AllSplitPlans inputs

  pub AllSplitPlans : Trees (PlanOp (Named Expression)) → Type 0
  AllSplitPlans no_more = Unit {0}
  AllSplitPlans (more plan rest) = IsSplitPlan plan × AllSplitPlans rest

-- others stand behind recorded expressions, and stand for these
pub record AddsParts (items : List AExpr) (old new : List ExprIR) (trees : List Expression) : Type 0 where
  pub added : List ExprIR
  pub longer : new ≡ old ++ added
  pub denote : DenoteNamed items (map named_node added) (map own_named trees)

-- filters over a plan, the last innermost
abbrev pub filters_over : List (Named Expression) → Plan → Plan
filters_over [] input = input
filters_over (predicate ∷ predicates) input = node (filter_op predicate) (more (filters_over predicates input) no_more)

-- the rows of a frame for which a predicate is true, and what filters leave, the last of them first
abbrev pub kept_by : Registry → Expression → Frame → Outcome Frame
kept_by registry predicate frame = then_do (meaning registry frame predicate (row_numbers frame)) (kept_rows frame)

abbrev pub kept_by_all : Registry → List Expression → Frame → Outcome Frame
kept_by_all registry [] frame = Done frame
kept_by_all registry (predicate ∷ predicates) frame = then_do (kept_by_all registry predicates frame) (kept_by registry predicate)

-- the expression is of the type of truth values and strict
pub record IsCondition (registry : Registry) (schema : Columns) (tree : Expression) : Type 0 where
  pub own : Typed
  pub typed : typing registry schema tree ≡ Ok own
  pub truth : own.type ≡ Truth
  pub strict : IsStrict registry schema tree

-- filters by the parts of a condition that can be moved give of a frame what the one by the whole gives
abbrev pub SplittingKeepsFrames : Type 0
SplittingKeepsFrames =
    (registry : Registry) (frame : Frame) (tree : Expression) → IsCondition registry frame.schema tree → permits_pushdown tree ≡ true
    → kept_by_all registry (conjuncts tree) frame ≡ kept_by registry tree frame

-- and each part is a condition by itself
abbrev pub PartsAreConditions : Type 0
PartsAreConditions =
    (registry : Registry) (schema : Columns) (tree : Expression) → IsCondition registry schema tree → AllByRecursion (IsCondition registry schema) (conjuncts tree)

-- a filter of a plan by a condition, split, gives on tables what it gives whole
abbrev pub SplittingKeepsPlans : Type 0
SplittingKeepsPlans =
    (registry : Registry) (schema : Columns) (predicate : Named Expression) (input : Plan) (tables : List Frame) → IsCondition registry schema predicate.expression → IsCore predicate.expression
    → Meets (IsFrameOf schema) (plan_run registry tables input)
    → plan_run registry tables (filters_over (split_predicate predicate) input) ≡ plan_run registry tables (filters_over (predicate ∷ []) input)

-- and has the input's schema
abbrev pub SplittingKeepsSchemas : Type 0
SplittingKeepsSchemas =
    (registry : Registry) (schema : Columns) (predicate : Named Expression) (input : Plan) → IsCondition registry schema predicate.expression
    → schema_of registry input ≡ Some schema → schema_of registry (filters_over (split_predicate predicate) input) ≡ Some schema
