-- Items that stand for expressions.
use Rattle.std.specs.Prelude.{◌≡◌, ◌≢◌, ℕ, Bool, false, List, []}
use Rattle.plan_dsl.specs.declared.expr.Expr.{Expr}
use Rattle.plan_dsl.specs.declared.expr.Expr.TheVariants.{BinaryExpr, Column}
use Rattle.plan_dsl.specs.Trees.{Trees, node, fold_all}
use Rattle.plan_dsl.specs.Aliases.{all_pruned}
use Rattle.plan_dsl.specs.Names.{op_label}
use Rattle.plan_dsl.specs.Ops.{Op, FunctionOp, Expression}
use Rattle.plan_arena.specs.declared.aexpr.AExpr.{AExpr}
use Rattle.plan_arena.specs.Denotation.{DenoteAll}
use Rattle.plan_arena.specs.Layers.{op_of, inputs_of}
use Rattle.plan_arena.specs.Items.{HoldsExpression, HoldsFrom, expression_layer}

-- each expression's item is there after as before
abbrev pub KeepsExpressions : List AExpr → List AExpr → Type 0
KeepsExpressions old new = (n : ℕ) (op : Op) (inputs : List ℕ) → HoldsExpression old n op inputs → HoldsExpression new n op inputs

-- an expression over its operands as nodes have them, with their aliases or without, and with horizontals written out or
-- not: a function has their names, and none of their aliases
abbrev pub over_inputs : Bool → Bool → Expression → Expression
over_inputs keep write (node (FunctionOp function []) children) = node (FunctionOp function (fold_all op_label children)) (all_pruned false write children)
over_inputs keep write (node op children) = node op (all_pruned keep write children)

-- an expression that is no column and no operator
abbrev pub IsRarer : Expr → Type 0
IsRarer expr = ((name : _) → expr ≢ Column name) × ((left : _) (op : _) (right : _) → expr ≢ BinaryExpr left op right)

-- the item does what the expression's top does, over nodes from that number on that denote its operands
pub record IsItemOf (first : ℕ) (items : List AExpr) (tree : Expression) (item : AExpr) : Type 0 where
  pub operands : Trees Op
  pub is : tree ≡ node (op_of (expression_layer item)) operands
  pub denote : DenoteAll (HoldsFrom first items) (inputs_of (expression_layer item)) operands
