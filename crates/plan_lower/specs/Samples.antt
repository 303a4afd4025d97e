-- What the worked examples share: outputs, predicates and plans over columns a and b, and what arenas hold of them.
use Rattle.std.specs.Prelude.{◌≡◌, ℕ, List, [], ◌∷◌, map, pos, true, codes, None, Option, Some}
use Rattle.plan_types.specs.Types.{Ty, Truth, Integer, ListType}
use Rattle.plan_types.specs.Schemas.{Name, Columns}
use Rattle.plan_dsl.specs.Trees.{node, no_more, more}
use Rattle.plan_dsl.specs.Names.{column_label}
use Rattle.plan_dsl.specs.Ops.{Expression}
use Rattle.plan_dsl.specs.Plans.{PlanOp, Plan, Named, named, scan_op, select_op, filter_op}
use Rattle.plan_dsl.specs.Samples.{one_value}
use Rattle.plan_dsl.specs.Typing.{Typed}
use Rattle.plan_dsl.specs.declared.function.DslFunction.TheVariants.{FunctionIR as OfFunctionIR, Stats}
use Rattle.plan_dsl.specs.declared.function.StatsFunction.TheVariants.{Sum}
use Rattle.plan_dsl.specs.declared.function.FunctionIR.TheVariants.{Rechunk}
use Rattle.plan_dsl.specs.declared.plan.SinkType.TheVariants.{Memory}
use Rattle.plan_arena.specs.Layers.{Layer, layer}
use Rattle.plan_arena.specs.Items.{plan_layer}
use Rattle.plan_arena.specs.Samples.{node_at}
use Rattle.plan_arena.specs.declared.aexpr.AExpr.{AExpr}
use Rattle.plan_arena.specs.declared.aexpr.AExpr.TheVariants.{Column}
use Rattle.plan_arena.specs.declared.ir.IR.{IR}
use Rattle.plan_arena.specs.declared.plan.IRPlan.{IRPlan}
use Rattle.plan_lower.specs.declared.conversion.step.LoweredNode.{LoweredNode}
use Rattle.plan_lower.specs.declared.conversion.step.Step.{Step}
use Rattle.plan_lower.specs.declared.conversion.step.Plain.TheVariants.{Cache, Sink, Slice}
use Rattle.plan_lower.specs.declared.conversion.step.Step.TheVariants.{Function, Plain as Unexpressed}
use Rattle.plan_lower.specs.Outputs.{Lowered}
use Rattle.plan_lower.specs.Projection.{Output}
use Rattle.plan_infer.specs.Samples.{int32, one_column, two_columns, of_type, column, sum}
use Rattle.plan_coerce.specs.Samples.{strict_sum, strict_items}

-- a column of truth values
abbrev pub truths : Columns
truths = (codes "keep", Truth) ∷ []

abbrev pub keep : Expression
keep = column (codes "keep")

abbrev pub keep_items : List AExpr
keep_items = Column (codes "keep") ∷ []

abbrev pub node_named : Name → ℕ → Named ℕ
node_named name n = record { label = column_label name; expression = n }

-- an expression with its node and its typing
abbrev pub output : Expression → ℕ → Typed → Output
output tree n typed = record { tree = tree; node = n; typed = typed }

-- an expression with its type and what stands for it
abbrev pub lowered_to : Expression → Ty → Expression → Lowered
lowered_to tree type after = record { tree = tree; typed = of_type type; after = after }

-- an expression that stands for itself
abbrev pub as_it_is : Expression → Ty → Lowered
as_it_is tree type = lowered_to tree type tree

-- one that has one value
abbrev pub alone : Expression → Ty → Lowered
alone tree type = record { tree = tree; typed = one_value type; after = tree }

-- the columns of groups by column a, with column b
abbrev pub grouped_columns : Columns
grouped_columns = (codes "a", Integer true 8) ∷ (codes "b", ListType (Integer true 32)) ∷ []

-- the first table
abbrev pub scan_of : Columns → Plan
scan_of columns = node (scan_op (Some 0) columns) no_more

-- a select of expressions in a query, resolved
abbrev pub select_of : List Expression → Plan → Plan
select_of trees input = node (select_op (map named trees) None) (more input no_more)

-- a select of one expression, which records the columns
abbrev pub select_over : Plan → Expression → Columns → Plan
select_over input tree columns = node (select_op (named tree ∷ []) (Some columns)) (more input no_more)

abbrev pub filter_over : Plan → Expression → Plan
filter_over input tree = node (filter_op (named tree)) (more input no_more)

abbrev pub query : Plan
query = select_of (sum ∷ []) (scan_of two_columns)

abbrev pub lowered_query : Plan
lowered_query = select_over (scan_of two_columns) strict_sum (one_column int32)

abbrev pub scan_layer : Option ℕ → Columns → Layer (PlanOp (Named ℕ))
scan_layer table columns = layer (scan_op table columns) []

abbrev pub select_layer : ℕ → Columns → Layer (PlanOp (Named ℕ))
select_layer n columns = layer (select_op (node_named (codes "a") n ∷ []) (Some columns)) (0 ∷ [])

-- a scan of the two columns, and a select of the expression at node 2 over it
abbrev pub sum_layers : List (Layer (PlanOp (Named ℕ)))
sum_layers = scan_layer (Some 0) two_columns ∷ select_layer 2 (one_column int32) ∷ []

-- a property of all items of plans that are these
abbrev pub ForPlans : List (Layer (PlanOp (Named ℕ))) → (List IR → Type 0) → Type 0
ForPlans layers Has = (plans : List IR) → map plan_layer plans ≡ layers → Has plans

-- a property of each lowered plan that is one scan
abbrev pub ForScan : Option ℕ → Columns → (IRPlan → Type 0) → Type 0
ForScan table columns Has =
    (lowering : IRPlan) → lowering.lp_top.0 ≡ 0 → map plan_layer lowering.lp_arena ≡ scan_layer table columns ∷ [] → Has lowering

-- a property of each lowered plan whose arenas hold the select of the strict sum
abbrev pub ForSum : (IRPlan → Type 0) → Type 0
ForSum Has =
    (lowering : IRPlan) → lowering.lp_top.0 ≡ 1 → lowering.expr_arena ≡ strict_items
    → map plan_layer lowering.lp_arena ≡ sum_layers → Has lowering

-- the first node, which records its schema
abbrev pub at_zero : LoweredNode
at_zero = record { node = node_at 0; schema_node = node_at 0 }

-- steps without expressions
abbrev pub plain_steps : List Step
plain_steps = Unexpressed (Slice (pos 1) 2) ∷ Unexpressed (Cache 7) ∷ Unexpressed (Sink Memory) ∷ Function (OfFunctionIR Rechunk) ∷ Function (Stats Sum) ∷ []
