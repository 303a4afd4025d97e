-- The plan that the planner builds, and what it makes of a lowered one.
use Rattle.std.specs.Prelude.{ℕ, [], ◌∷◌, codes, Option, Some}
use Rattle.plan_types.specs.Types.{Truth}
use Rattle.plan_types.specs.Schemas.{Name, Columns}
use Rattle.plan_types.specs.declared.dtype.CastOptions.TheVariants.{Strict}
use Rattle.plan_dsl.specs.declared.operator.Operator.TheVariants.{LogicalAnd}
use Rattle.plan_dsl.specs.Ops.{ColumnOp, BinaryOp, CastOp, Expression}
use Rattle.plan_dsl.specs.Plans.{Named, Plan, SourcePlan, filter_op, scan_op, source_filter}
use Rattle.plan_dsl.specs.Registry.{Registry}
use Rattle.plan_dsl.specs.Sources.{Plain, Source}
use Rattle.plan_dsl.specs.Trees.{node, no_more, more}
use Rattle.plan_arena.specs.declared.plan.IRPlan.{IRPlan}
use Rattle.plan_arena.specs.Denotation.{DenotesTree}
use Rattle.plan_arena.specs.Items.{DenotesPlan, HoldsPlan}
use Rattle.plan_lower.specs.Lowering.{IsTyped, IsSound, GivesSameFrame}
use Rattle.plan_properties.specs.Splitting.{filters_over, split_predicate}
use Rattle.own_rule.specs.HarmlessCasts.{relaxed}

-- ---- the plan that is built

abbrev pub column : Name → Source
column name = node (Plain (ColumnOp name)) no_more

-- both flags, the first under a strict cast
abbrev pub both_flags : Source
both_flags =
    node (Plain (BinaryOp LogicalAnd)) (more (node (Plain (CastOp Truth Strict)) (more (column (codes "p")) no_more)) (more (column (codes "q")) no_more))

abbrev pub flagged_query : SourcePlan
flagged_query = source_filter both_flags (node (scan_op (Some 0) ((codes "p", Truth) ∷ (codes "q", Truth) ∷ [])) no_more)

-- ---- lowered plans

-- the top denotes some plan
abbrev pub HasTree : IRPlan → Type 0
HasTree lowering = DenotesTree (HoldsPlan lowering.expr_arena lowering.lp_arena) lowering.lp_top.0

-- a lowered plan stands for a query's: it is typed, on fitting tables it is never stuck, and it gives the frame that the
-- query means
pub record StandsFor (registry : Registry) (source : Plan) (lowering : IRPlan) : Type 0 where
  pub typed : IsTyped registry source lowering
  pub sound : IsSound registry source lowering
  pub same_frame : GivesSameFrame registry source lowering

abbrev pub scan : Option ℕ → Columns → Plan
scan table schema = node (scan_op table schema) no_more

abbrev pub filtered_scan : Named Expression → Option ℕ → Columns → Plan
filtered_scan predicate table schema = node (filter_op predicate) (more (scan table schema) no_more)

-- the top denotes such a filter
pub record IsFilteredScan (lowering : IRPlan) : Type 0 where
  pub predicate : Named Expression
  pub table : Option ℕ
  pub schema : Columns
  pub denotes : DenotesPlan lowering (filtered_scan predicate table schema)

-- a predicate without strict casts to the type that their operand has, under its name
abbrev pub with_relaxed : Registry → Columns → Named Expression → Named Expression
with_relaxed registry schema predicate = record { label = predicate.label; expression = relaxed registry schema predicate.expression }

-- filters of the scan by the parts of that
abbrev pub split_scan : Registry → Named Expression → Option ℕ → Columns → Plan
split_scan registry predicate table schema = filters_over (split_predicate (with_relaxed registry schema predicate)) (scan table schema)
