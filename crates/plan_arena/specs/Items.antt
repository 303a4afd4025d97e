-- The items of the two arenas.
-- An item of the plans' arena holds a plan's op where its expression nodes denote that op's expressions.
use Rattle.std.specs.Prelude.{◌≡◌, ◌≢◌, ◌≤◌, ℕ, List, [], ◌∷◌, ◌++◌, map, set, Option, Some, None, slice_get, codes, true}
use Rattle.std.specs.List.{AllByRecursion, flat_map}
use Rattle.plan_types.specs.Types.{ty}
use Rattle.plan_types.specs.Schemas.{columns}
use Rattle.plan_dsl.specs.Expressions.{sort_by_op}
use Rattle.plan_dsl.specs.Ops.{Op, ColumnOp, BinaryOp, CastOp, LenOp, SliceOp, AliasOp, Expression, ExplodeOp, GatherOp, FilterOp, SortOp, AggOp, WindowOp, TernaryOp, FunctionOp}
use Rattle.plan_dsl.specs.declared.sort_options.SortOptions.{SortOptions}
use Rattle.plan_dsl.specs.Literals.{literal_op}
use Rattle.plan_dsl.specs.Names.{Label, FromField, FromNothing, alias_label, column_label, literal_label}
use Rattle.plan_dsl.specs.Plans.{Work, SelectWork, HStackWork, GroupByWork, FilterWork, SimpleProjectionWork, DropWork, SliceWork, SortWork, DistinctWork, PassWork, FunctionWork, CallWork, SamePass, CachePass, SinkPass, RechunkPass, PlanKind, ScanKind, OverKind, RefusedKind, PlanOp, OverInput, Plan, Named, scan_op, select_op, hstack_op, group_by_op, filter_op, simple_projection_op, over_op, sort_work, function_work, column_names, expressions_of}
use Rattle.plan_dsl.specs.PlanRules.{keeps_schema}
use Rattle.plan_arena.specs.Aggregates.{input_at, method_at}
use Rattle.plan_arena.specs.Denotation.{Denotes, DenoteAll, DenotesTree}
use Rattle.plan_arena.specs.Layers.{Layer, layer, op_of, inputs_of}
use Rattle.plan_dsl.specs.Trees.{node}
use Rattle.plan_arena.specs.declared.arena.Node.{Node}
use Rattle.plan_arena.specs.declared.aexpr.AExpr.{AExpr}
use Rattle.plan_arena.specs.declared.aexpr.AExpr.TheVariants.{Column, Literal, BinaryExpr, Cast, Len, Slice, Alias, Explode, Gather, Filter as FilterBy, Sort, SortBy, Agg, Window, Ternary, Function}
use Rattle.plan_arena.specs.declared.expr_ir.OutputName.{OutputName}
use Rattle.plan_arena.specs.declared.expr_ir.OutputName.TheVariants.{None as Unnamed, ColumnLhs, LiteralLhs, Alias as NamedByAlias, Field}
use Rattle.plan_arena.specs.declared.expr_ir.ExprIR.{ExprIR}
use Rattle.plan_arena.specs.declared.ir.IR.{IR}
use Rattle.plan_arena.specs.declared.ir.IR.TheVariants.{Cache, DataFrameScan, Distinct, Filter, GroupBy, HStack, MapFunction, Select, SimpleProjection, Sink, Slice as SliceOf, Sort as SortOf, Invalid}
use Rattle.plan_arena.specs.declared.plan.IRPlan.{IRPlan}

-- the numbers of nodes
abbrev pub numbers : List Node → List ℕ
numbers nodes = map (λ n. n.0) nodes

-- the node by which a window's rows are put in order, if there is one, and how
abbrev pub ordering : Option (Node × SortOptions) → List ℕ
ordering None = []
ordering (Some order) = order.0.0 ∷ []

abbrev pub ordered : Option (Node × SortOptions) → Option SortOptions
ordered None = None
ordered (Some order) = Some order.1

-- names that inputs can have: without an input there is none
abbrev pub AreNamesOver : List ℕ → List Label → Type 0
AreNamesOver [] names = names ≡ []
AreNamesOver (n ∷ ns) names = Unit {0}

-- the name of an output, with what it comes from
abbrev pub output_label : OutputName → Label
output_label Unnamed = record { name = []; origin = FromNothing }
output_label (ColumnLhs name) = column_label name
output_label (LiteralLhs name) = literal_label name
output_label (NamedByAlias name) = alias_label name
output_label (Field name) = record { name = name; origin = FromField }

-- the names of nodes that have names, and their numbers
abbrev pub recorded : List ExprIR → List Label
recorded exprs = map (λ e. output_label e.output_name) exprs

abbrev pub numbers_named : List ExprIR → List ℕ
numbers_named exprs = map (λ e. e.node.0) exprs

-- an expression's item
abbrev pub expression_layer : AExpr → Layer Op
expression_layer (Column name) = layer (ColumnOp name) []
expression_layer (Literal value) = layer (literal_op value) []
expression_layer (BinaryExpr left operator right) = layer (BinaryOp operator) (left.0 ∷ right.0 ∷ [])
expression_layer (Cast expr dtype options) = layer (CastOp (ty dtype) options) (expr.0 ∷ [])
expression_layer Len = layer LenOp []
expression_layer (Alias expr name) = layer (AliasOp name) (expr.0 ∷ [])
expression_layer (Slice input offset length) = layer SliceOp (input.0 ∷ offset.0 ∷ length.0 ∷ [])
expression_layer (Explode input) = layer ExplodeOp (input.0 ∷ [])
expression_layer (Gather expr idx returns_scalar) = layer (GatherOp returns_scalar) (expr.0 ∷ idx.0 ∷ [])
expression_layer (FilterBy input by) = layer FilterOp (input.0 ∷ by.0 ∷ [])
expression_layer (Sort expr options) = layer (SortOp options) (expr.0 ∷ [])
expression_layer (Agg aggregate) = layer (AggOp (method_at aggregate)) ((input_at aggregate).0 ∷ [])
expression_layer (SortBy expr by sort_options) = layer (sort_by_op sort_options) (expr.0 ∷ numbers by.items.items)
expression_layer (Window function partition_by order_by options) =
    layer (WindowOp (ordered order_by)) (function.0 ∷ (ordering order_by ++ numbers partition_by.items.items))
expression_layer (Ternary predicate truthy falsy) = layer TernaryOp (truthy.0 ∷ predicate.0 ∷ falsy.0 ∷ [])
expression_layer (Function input function) = layer (FunctionOp function (recorded input.items.items)) (numbers_named input.items.items)

-- the inputs as passes go over them: in their own order, but of a window what its rows are ordered by comes behind its
-- keys, and of a ternary the predicate behind what it gives
abbrev pub passed : Layer Op → List ℕ
passed (layer (WindowOp (Some options)) (function ∷ by ∷ keys)) = function ∷ (keys ++ by ∷ [])
passed (layer TernaryOp (truthy ∷ predicate ∷ falsy ∷ [])) = truthy ∷ falsy ∷ predicate ∷ []
passed (layer op inputs) = inputs

-- a node with the name of its column, and what that comes from
abbrev pub named_node : ExprIR → Named ℕ
named_node expr = record { label = output_label expr.output_name; expression = expr.node.0 }

-- a plan's item. One that was taken out is no plan's
abbrev pub plan_layer : IR → Layer (PlanOp (Named ℕ))
plan_layer (DataFrameScan table schema) = layer (scan_op table (columns schema)) []
plan_layer (Select expr input schema options) = layer (select_op (map named_node expr.items.items) (Some (columns schema))) (input.0 ∷ [])
plan_layer (HStack exprs input schema options) = layer (hstack_op (map named_node exprs.items.items) (Some (columns schema))) (input.0 ∷ [])
plan_layer (GroupBy input keys aggs schema maintain_order) = layer (group_by_op (map named_node keys.items.items) (map named_node aggs.items.items) (Some (columns schema))) (input.0 ∷ [])
plan_layer (Filter input predicate) = layer (filter_op (named_node predicate)) (input.0 ∷ [])
plan_layer (SimpleProjection input schema) = layer (simple_projection_op (columns schema) (Some (columns schema))) (input.0 ∷ [])
plan_layer (SortOf input by_column sort_options) = layer (over_op (sort_work sort_options) (map named_node by_column.items.items ∷ []) None) (input.0 ∷ [])
plan_layer (Distinct input options) = layer (over_op (DistinctWork options.keep_strategy (column_names options.subset)) [] None) (input.0 ∷ [])
plan_layer (SliceOf input offset len) = layer (over_op (SliceWork offset len) [] None) (input.0 ∷ [])
plan_layer (Cache input id cache_hits) = layer (over_op (PassWork (CachePass id)) [] None) (input.0 ∷ [])
plan_layer (Sink input payload) = layer (over_op (PassWork SinkPass) [] None) (input.0 ∷ [])
plan_layer (MapFunction input function schema) = layer (over_op (function_work function) [] (Some (columns schema))) (input.0 ∷ [])
plan_layer Invalid = layer (record { kind = RefusedKind []; recorded = None }) []

-- the expressions of a node, of all its lists in order
abbrev pub nodes_of : {E : Type 0} → PlanKind E → List E
nodes_of kind = flat_map (λ list. list.outputs) (expressions_of kind)

-- the expressions of the first list, of no list none
abbrev pub first_of : {E : Type 0} → List (OverInput E) → List E
first_of [] = []
first_of (list ∷ lists) = list.outputs

-- a node over one input that records no schema, since it keeps that of its input
pub record KeepsInput (item : Layer (PlanOp (Named ℕ))) (input : ℕ) : Type 0 where
  pub work : Work
  pub nodes : List (List (Named ℕ))
  pub keeps : keeps_schema work ≡ true
  pub is : item ≡ layer (over_op work nodes None) (input ∷ [])

-- What a report calls a node over one input, and a node of the kind. No item is a drop, a call, or nothing done to its input.
abbrev pub work_text : Work → List ℕ
work_text SelectWork = codes "projection"
work_text HStackWork = codes "hstack"
work_text GroupByWork = codes "aggregate"
work_text FilterWork = codes "selection"
work_text (SimpleProjectionWork columns) = codes "simple_projection"
work_text (DropWork strict) = codes "invalid"
work_text (SliceWork offset count) = codes "slice"
work_text (SortWork descending nulls_last) = codes "sort"
work_text (DistinctWork keep subset) = codes "distinct"
work_text (PassWork (CachePass id)) = codes "cache"
work_text (PassWork SinkPass) = codes "sink (memory)"
work_text (PassWork RechunkPass) = codes "map_function"
work_text (PassWork SamePass) = codes "invalid"
work_text (FunctionWork function) = codes "map_function"
work_text (CallWork call) = codes "invalid"

abbrev pub kind_text : {E : Type 0} → PlanKind E → List ℕ
kind_text (ScanKind table schema) = codes "df"
kind_text (OverKind work lists) = work_text work
kind_text (RefusedKind kinds) = codes "invalid"

abbrev pub node_name : IR → List ℕ
node_name item = kind_text (op_of (plan_layer item)).kind

-- the expression at the node does this, over these inputs
abbrev pub HoldsExpression : List AExpr → ℕ → Op → List ℕ → Type 0
HoldsExpression expressions n op inputs = slice_get (map expression_layer expressions) n ≡ Some (layer op inputs)

-- the expression at the node, which is from that number on, does this, over these inputs
abbrev pub HoldsFrom : ℕ → List AExpr → ℕ → Op → List ℕ → Type 0
HoldsFrom first expressions n op inputs = (first ≤ n) × HoldsExpression expressions n op inputs

-- the nodes have the names, from the same, and denote the expressions
abbrev pub DenoteNamed : List AExpr → List (Named ℕ) → List (Named Expression) → Type 0
DenoteNamed expressions [] [] = Unit {0}
DenoteNamed expressions (n ∷ ns) (e ∷ es) = (n.label ≡ e.label) × Denotes (HoldsExpression expressions) n.expression e.expression × DenoteNamed expressions ns es
DenoteNamed expressions [] (e ∷ es) = ⊥
DenoteNamed expressions (n ∷ ns) [] = ⊥

-- so do lists of them
abbrev pub DenoteLists : List AExpr → List (List (Named ℕ)) → List (List (Named Expression)) → Type 0
DenoteLists expressions [] [] = Unit {0}
DenoteLists expressions (nodes ∷ others) (outputs ∷ lists) = DenoteNamed expressions nodes outputs × DenoteLists expressions others lists
DenoteLists expressions [] (outputs ∷ lists) = ⊥
DenoteLists expressions (nodes ∷ others) [] = ⊥

-- a kind over nodes is a kind over expressions. What is refused is none, as an item that was taken out
abbrev pub DenotesKind : List AExpr → PlanKind (Named ℕ) → PlanKind (Named Expression) → Type 0
DenotesKind expressions (ScanKind table schema) kind = kind ≡ ScanKind table schema
DenotesKind expressions (OverKind work nodes) kind =
    (lists : List (List (Named Expression))) × (kind ≡ OverKind work lists) × DenoteLists expressions nodes lists
DenotesKind expressions (RefusedKind kinds) kind = ⊥

-- an op over nodes is an op over expressions
pub record DenotesOp (expressions : List AExpr) (flat : PlanOp (Named ℕ)) (op : PlanOp (Named Expression)) : Type 0 where
  pub same_recorded : flat.recorded ≡ op.recorded
  pub kind : DenotesKind expressions flat.kind op.kind

-- the plan's item at the node does this, over these inputs
pub record HoldsPlan (expressions : List AExpr) (plans : List IR) (n : ℕ) (op : PlanOp (Named Expression)) (inputs : List ℕ) : Type 0 where
  pub flat : PlanOp (Named ℕ)
  pub item : slice_get (map plan_layer plans) n ≡ Some (layer flat inputs)
  pub denotes : DenotesOp expressions flat op

-- an item does this, over these inputs
pub record IsPlanItem (expressions : List AExpr) (item : IR) (op : PlanOp (Named Expression)) (inputs : List ℕ) : Type 0 where
  pub flat : PlanOp (Named ℕ)
  pub is : plan_layer item ≡ layer flat inputs
  pub denotes : DenotesOp expressions flat op

-- an item denotes a plan as a node that has it would
abbrev pub DenotesItem : List AExpr → List IR → IR → Plan → Type 0
DenotesItem expressions plans item (node op children) =
    (inputs : List ℕ) × IsPlanItem expressions item op inputs × DenoteAll (HoldsPlan expressions plans) inputs children

-- an item's inputs denote plans, with some arena of expressions, and it was not taken out
pub record HasInputs (plans : List IR) (item : IR) : Type 0 where
  pub valid : item ≢ Invalid
  pub expressions : List AExpr
  pub each : AllByRecursion (DenotesTree (HoldsPlan expressions plans)) (inputs_of (plan_layer item))

-- the top of a lowered plan denotes the plan
abbrev pub DenotesPlan : IRPlan → Plan → Type 0
DenotesPlan lowering plan = Denotes (HoldsPlan lowering.expr_arena lowering.lp_arena) lowering.lp_top.0 plan

-- the arena has the items that it had, and others behind them
pub record Grows {T : Type 0} (old new : List T) : Type 0 where
  pub added : List T
  pub longer : new ≡ old ++ added

-- the item at the node does the same over these inputs, and no other has changed
pub record Rewired (old new : List AExpr) (at : ℕ) (inputs : List ℕ) : Type 0 where
  pub before : AExpr
  pub after : AExpr
  pub got : slice_get old at ≡ Some before
  pub items : new ≡ set old at after
  pub rewired : expression_layer after ≡ layer (op_of (expression_layer before)) inputs
