-- What a plan's node does over its only input: its work and its lists, the plan that it makes of the input, and when lowered
-- nodes stand for it.
use Rattle.std.specs.Prelude.{◌≡◌, ℕ, List, [], ◌∷◌, ◌++◌, map, slice_get, None, Some, Result, OnOk, IfOk, IfErr}
use Rattle.std.specs.Option.{option_map}
use Rattle.plan_types.specs.Schemas.{Columns}
use Rattle.plan_types.specs.declared.error.PlanError.{PlanError}
use Rattle.plan_dsl.specs.Expressions.{selector_trees, tree_of, trees_of}
use Rattle.plan_dsl.specs.FunctionSchemas.{IsOneOf}
use Rattle.plan_dsl.specs.PlanRules.{work_kinds, work_schema}
use Rattle.plan_dsl.specs.declared.function.FunctionIR.{FunctionIR}
use Rattle.plan_dsl.specs.Plans.{CachePass, DistinctWork, FilterWork, GroupByWork, HStackWork, HitsOption, OrderOption, PassWork, PlanOption, ProjectionOption, SelectWork, SinkPass, SliceWork, SourcePlan, Work, call_lists, call_option, call_work, function_work, over_op, sort_work, source_over, subset_lists, unknown_hits}
use Rattle.plan_dsl.specs.Registry.{Registry}
use Rattle.plan_dsl.specs.Sources.{Source}
use Rattle.plan_arena.specs.declared.aexpr.AExpr.{AExpr}
use Rattle.plan_arena.specs.declared.ir.IR.{IR}
use Rattle.plan_arena.specs.Items.{Grows, plan_layer}
use Rattle.plan_arena.specs.Layers.{layer}
use Rattle.plan_arena.specs.Options.{options_of}
use Rattle.plan_lower.specs.declared.conversion.step.LoweredNode.{LoweredNode}
use Rattle.plan_lower.specs.declared.conversion.step.Step.{Step}
use Rattle.plan_lower.specs.declared.conversion.step.Plain.{Plain}
use Rattle.plan_lower.specs.declared.conversion.step.Plain.TheVariants.{Cache, Sink, Slice}
use Rattle.plan_lower.specs.declared.conversion.step.Step.TheVariants.{Distinct, Filter, Function, GroupBy, HStack, Plain as Unexpressed, Select, Sort}
use Rattle.plan_lower.specs.Lowering.{IsFilterAt, Records, columns_at}
use Rattle.plan_lower.specs.Nodes.{KeepsExpressions}
use Rattle.plan_lower.specs.Works.{IsPlainAt, IsPlainRefusal, IsWorkAt, IsWorkRefusal}

-- what a node without expressions does, and its option, if it has one
abbrev pub plain_work : Plain → Work
plain_work (Slice offset len) = SliceWork offset len
plain_work (Cache id) = PassWork (CachePass id)
plain_work (Sink payload) = PassWork SinkPass

abbrev pub plain_option : Plain → List PlanOption
plain_option (Cache id) = HitsOption unknown_hits ∷ []
plain_option plain = []

-- what a step does, and its lists
abbrev pub step_work : Step → Work
step_work (Filter predicate) = FilterWork
step_work (Select exprs options) = SelectWork
step_work (HStack exprs options) = HStackWork
step_work (GroupBy keys aggs maintain_order) = GroupByWork
step_work (Function function) = call_work function
step_work (Distinct options) = DistinctWork options.keep_strategy None
step_work (Sort by options) = sort_work options
step_work (Unexpressed plain) = plain_work plain

abbrev pub step_lists : Step → List (List Source)
step_lists (Filter predicate) = (tree_of predicate ∷ []) ∷ []
step_lists (Select exprs options) = trees_of exprs ∷ []
step_lists (HStack exprs options) = trees_of exprs ∷ []
step_lists (GroupBy keys aggs maintain_order) = trees_of keys ∷ trees_of aggs ∷ []
step_lists (Function function) = call_lists function
step_lists (Distinct options) = subset_lists (option_map selector_trees options.subset)
step_lists (Sort by options) = trees_of by ∷ []
step_lists (Unexpressed plain) = []

-- a step over a plan, as a query has it
abbrev pub source_step : Step → SourcePlan → SourcePlan
source_step step input = source_over (step_work step) (step_lists step) input

-- the option of its node, if it has one
abbrev pub step_option : Step → List PlanOption
step_option (Filter predicate) = []
step_option (Select exprs options) = ProjectionOption options ∷ []
step_option (HStack exprs options) = ProjectionOption options ∷ []
step_option (GroupBy keys aggs maintain_order) = OrderOption maintain_order ∷ []
step_option (Function function) = call_option function
step_option (Distinct options) = OrderOption options.maintain_order ∷ []
step_option (Sort by options) = []
step_option (Unexpressed plain) = plain_option plain

-- The node is what the step becomes over an input of the schema. Its frame has the columns. A filter alone may become any
-- number of nodes.
abbrev pub IsStepAt : Registry → Columns → List AExpr → List IR → ℕ → ℕ → Step → Columns → Type 0
IsStepAt registry schema expressions plans n input (Filter predicate) columns = IsFilterAt registry schema expressions plans n input (tree_of predicate) × (columns ≡ schema)
IsStepAt registry schema expressions plans n input step columns = IsWorkAt registry schema expressions plans n input (step_work step) (step_lists step) columns

-- why a step isn't lowered over an input of the schema
abbrev pub IsStepRefusal : Registry → Columns → Step → PlanError → Type 0
IsStepRefusal registry schema step error = IsWorkRefusal registry schema (step_work step) (step_lists step) error

-- What the nodes of a plan or of a step leave of the arena of plans, which keeps its items after a refusal too: the answer names
-- one that records a schema, and the options are those that were there, with these behind them.
pub record AddsStep (old new : List IR) (own : List PlanOption) (result : Result LoweredNode PlanError) : Type 0 where
  pub recorded : IfOk result (λ lowered. Records new lowered.schema_node.0)
  pub grows : Grows old new
  pub options : OnOk result (options_of new ≡ options_of old ++ own)

-- What a step's function does over an input that records a schema, in both arenas: it answers the node that the step becomes, or
-- says why it becomes none, and keeps what was there.
pub record LowersStep (registry : Registry) (step : Step) (input : LoweredNode) (expressions grown : List AExpr) (old new : List IR) (result : Result LoweredNode PlanError) : Type 0 where
  pub ok : IfOk result (λ lowered. IsStepAt registry (columns_at old input.schema_node.0) grown new lowered.node.0 input.node.0 step (columns_at new lowered.schema_node.0))
  pub err : IfErr result (IsStepRefusal registry (columns_at old input.schema_node.0) step)
  pub kept : KeepsExpressions expressions grown
  pub adds : AddsStep old new (step_option step) result

-- so does one of a work without expressions, which needs no arena of them, nor functions
pub record LowersPlainly (work : Work) (lists : List (List Source)) (own : List PlanOption) (input : LoweredNode) (old new : List IR) (result : Result LoweredNode PlanError) : Type 0 where
  pub ok : IfOk result (λ lowered. IsPlainAt (columns_at old input.schema_node.0) new lowered.node.0 input.node.0 work lists (columns_at new lowered.schema_node.0))
  pub err : IfErr result (IsPlainRefusal (columns_at old input.schema_node.0) work lists)
  pub adds : AddsStep old new own result

-- What the node of a function over an input that records a schema is, where the function breaks no rule over that: it records
-- what the function makes of it.
pub record AddsFunction (function : FunctionIR) (input : LoweredNode) (old new : List IR) (result : Result LoweredNode PlanError) : Type 0 where
  pub unbroken : IfOk result (λ lowered. work_kinds (function_work function) (columns_at old input.schema_node.0) [] ≡ [])
  pub columns : IfOk result (λ lowered. columns_at new lowered.schema_node.0 ≡ work_schema (function_work function) (columns_at old input.schema_node.0) [])
  pub item : IfOk result (λ lowered. slice_get (map plan_layer new) lowered.node.0 ≡ Some (layer (over_op (function_work function) [] (Some (columns_at new lowered.schema_node.0))) (input.node.0 ∷ [])))
  pub err : IfErr result (IsOneOf (work_kinds (function_work function) (columns_at old input.schema_node.0) []))
  pub adds : AddsStep old new [] result
