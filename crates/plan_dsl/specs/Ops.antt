-- What a node of an expression does, without its children.
use Rattle.std.specs.Prelude.{Bool, List, Option}
use Rattle.plan_types.specs.Types.{Ty}
use Rattle.plan_types.specs.Schemas.{Name}
use Rattle.plan_types.specs.Values.{Val}
use Rattle.plan_types.specs.declared.dtype.CastOptions.{CastOptions}
use Rattle.plan_dsl.specs.declared.aggregate.GroupByMethod.{GroupByMethod}
use Rattle.plan_dsl.specs.declared.function_expr.FunctionExpr.{FunctionExpr}
use Rattle.plan_dsl.specs.declared.operator.Operator.{Operator}
use Rattle.plan_dsl.specs.declared.sort_options.SortOptions.{SortOptions}
use Rattle.plan_dsl.specs.Labels.{Label}
use Rattle.plan_dsl.specs.Trees.{Tree}

-- A ternary stands over what it gives where its predicate is true, the predicate, and what it gives elsewhere. A function
-- has the names of its operands where they are recorded, as they are in a plan's nodes.
pub data Op : Type 0 where
  ColumnOp : (name : Name) → Op
  LiteralOp : (type : Ty) (value : Val) → Op
  BinaryOp : (operator : Operator) → Op
  CastOp : (target : Ty) (options : CastOptions) → Op
  LenOp : Op
  SliceOp : Op
  ExplodeOp : Op
  GatherOp : (returns_scalar : Bool) → Op
  FilterOp : Op
  SortOp : (options : SortOptions) → Op
  SortByOp : (descending nulls_last : List Bool) → Op
  WindowOp : (order : Option SortOptions) → Op
  AliasOp : (name : Name) → Op
  AggOp : (method : GroupByMethod) → Op
  TernaryOp : Op
  FunctionOp : (function : FunctionExpr) (recorded : List Label) → Op

abbrev pub Expression : Type 0
Expression = Tree Op
