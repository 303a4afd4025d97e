-- Horizontals over few operands, which are written out: what by, and the chain of an operator as it is put together.
use Rattle.std.specs.Prelude.{◌≡◌, ℕ, nat_lt, Bool, true, not, ◌&&◌, List, [], Option, Some, None}
use Rattle.std.specs.Option.{option_map_or}
use Rattle.plan_dsl.specs.declared.function_expr.FunctionExpr.{FunctionExpr}
use Rattle.plan_dsl.specs.declared.operator.Operator.{Operator}
use Rattle.plan_dsl.specs.Aliases.{chain, chained, core, is_written_out, spelled, written_out}
use Rattle.plan_dsl.specs.declared.expr.Exprs.{Exprs}
use Rattle.plan_dsl.specs.Expressions.{function_source, trees_of}
use Rattle.plan_dsl.specs.Names.{label_of}
use Rattle.plan_dsl.specs.Sources.{unwritten}
use Rattle.plan_dsl.specs.Ops.{Op, FunctionOp, Expression}
use Rattle.plan_dsl.specs.Trees.{Trees, node, no_more, more, children_from, tree_count}
use Rattle.plan_arena.specs.declared.aexpr.AExpr.{AExpr}
use Rattle.plan_arena.specs.declared.arena.Node.{Node}
use Rattle.plan_arena.specs.declared.expr_ir.OutputName.{OutputName}
use Rattle.plan_arena.specs.Denotation.{Denotes}
use Rattle.plan_arena.specs.Items.{HoldsFrom, output_label}

-- a function over so many operands is written out by the operator, and is that literal over none
pub record IsWrittenBy (function : FunctionExpr) (count : ℕ) (operator : Operator) (nothing : Bool) : Type 0 where
  pub out : is_written_out true (FunctionOp function []) count ≡ true
  pub by : (operands : Trees Op) → written_out (FunctionOp function []) operands ≡ chained operator nothing operands

-- Whether a node over so many children is written out by several operators, where horizontals are. Its rule may then be
-- broken before a child is looked at that has no type.
abbrev pub is_chain : Op → ℕ → Bool
is_chain op count = is_written_out true op count && nat_lt 2 count

abbrev mutual
  -- whether no horizontal in an expression is
  pub writes_no_chain : Expression → Bool
  writes_no_chain (node op children) = not (is_chain op (tree_count children)) && all_write_no_chain children

  pub all_write_no_chain : Trees Op → Bool
  all_write_no_chain no_more = true
  all_write_no_chain (more child rest) = writes_no_chain child && all_write_no_chain rest

-- A node stands for the front of a chain over the operands: with those that are left behind it, it comes to the whole. There
-- is none in front of the first.
abbrev pub InChain : Operator → ℕ → List AExpr → Trees Op → Trees Op → Option Node → Type 0
InChain operator from items all left None = all ≡ left
InChain operator from items all left (Some top) =
    (first : Expression) × (others : Trees Op) × (tree : Expression) × (all ≡ more first others) × (chain operator tree left ≡ chain operator first others) × Denotes (HoldsFrom from items) top.0 tree

-- the expression of a function over its inputs
abbrev pub called : FunctionExpr → Exprs → Expression
called function input = unwritten (node (function_source function) (children_from (trees_of input)))

-- ---- names

-- an expression has the name that it has without its aliases, be its horizontals written out or not
abbrev pub IsNamedAlone : Expression → Type 0
IsNamedAlone tree = (label_of tree ≡ label_of (core tree)) × (label_of tree ≡ label_of (spelled tree))

-- the alias names an expression, or else that name does
abbrev pub IsNamedUnder : Option OutputName → Expression → Type 0
IsNamedUnder alias tree = (label_of tree ≡ option_map_or output_label alias (label_of (core tree))) × (label_of tree ≡ option_map_or output_label alias (label_of (spelled tree)))

-- an expression has the name of another, which its node keeps without aliases; written out it has that one's
pub record IsNamedAs (tree other : Expression) : Type 0 where
  pub own : label_of tree ≡ label_of other
  pub kept : label_of tree ≡ label_of (core tree)
  pub without : label_of (spelled tree) ≡ label_of (spelled other)
