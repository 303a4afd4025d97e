-- Expressions as plans have them: without aliases, and with horizontals that stay or are written out.
-- An alias gives its operand a name, and nothing else. A plan takes an expression's name from its aliases, and the
-- expression itself without them: its core. A function's operands have none in either, and it records their names. In a
-- lowered plan a horizontal over few operands is written out: over none it is a literal, over one a cast, and over more a
-- chain of an operator from the left. So the core is spelled.
use Rattle.std.specs.Prelude.{ℕ, nat_lt, Bool, true, false, ◌&&◌, List, [], IsTrue, if◌then◌else◌}
use Rattle.plan_types.specs.Types.{Truth}
use Rattle.plan_types.specs.Values.{TruthValue}
use Rattle.plan_types.specs.declared.dtype.CastOptions.TheVariants.{NonStrict}
use Rattle.plan_dsl.specs.declared.function_expr.FunctionExpr.TheVariants.{AllHorizontal, AnyHorizontal}
use Rattle.plan_dsl.specs.declared.operator.Operator.{Operator}
use Rattle.plan_dsl.specs.declared.operator.Operator.TheVariants.{LogicalAnd, LogicalOr}
use Rattle.plan_dsl.specs.Trees.{Trees, node, no_more, more, fold_all, tree_count}
use Rattle.plan_dsl.specs.Names.{Label, op_label}
use Rattle.plan_dsl.specs.Functions.{is_horizontal}
use Rattle.plan_dsl.specs.Ops.{Op, LiteralOp, BinaryOp, CastOp, AliasOp, FunctionOp, Expression}
use Rattle.plan_dsl.specs.Signatures.{least_horizontal}

-- ---- horizontals

-- an operator between the first and the next, then between that and the next, and so on
abbrev pub chain : Operator → Expression → Trees Op → Expression
chain operator first no_more = first
chain operator first (more next rest) = chain operator (node (BinaryOp operator) (more first (more next no_more))) rest

-- a horizontal that is written out, by its operator, and what it is over nothing
abbrev pub chained : Operator → Bool → Trees Op → Expression
chained operator nothing no_more = node (LiteralOp Truth (TruthValue nothing)) no_more
chained operator nothing (more tree no_more) = node (CastOp Truth NonStrict) (more tree no_more)
chained operator nothing (more tree (more next rest)) = chain operator tree (more next rest)

abbrev pub written_out : Op → Trees Op → Expression
written_out (FunctionOp AllHorizontal []) children = chained LogicalAnd true children
written_out (FunctionOp AnyHorizontal []) children = chained LogicalOr false children
written_out op children = node op children

-- whether a node over so many children is written out, where horizontals are: none is that has recorded names, as it stands
-- in a plan
abbrev pub is_written_out : Bool → Op → ℕ → Bool
is_written_out write (FunctionOp function []) count = write && (is_horizontal function && nat_lt count least_horizontal)
is_written_out write op count = false

-- ---- aliases

-- a node, or what stands under it where it is an alias and those aren't kept
abbrev pub prune_node : Bool → Op → Trees Op → Expression
prune_node keep (AliasOp name) (more tree no_more) = if keep then node (AliasOp name) (more tree no_more) else tree
prune_node keep op children = node op children

-- a function with the names of its operands, where none are recorded; any other node as it is
abbrev pub with_names : Op → List Label → Op
with_names (FunctionOp function []) labels = FunctionOp function labels
with_names op labels = op

-- whether aliases may be kept below a node over so many children: a function that stays has none there
abbrev pub lets_aliases : Bool → Op → ℕ → Bool
lets_aliases write (FunctionOp function recorded) count = is_written_out write (FunctionOp function recorded) count
lets_aliases write op count = true

-- a node over children as they are in a plan, written out or not
abbrev pub put_together : Bool → Bool → Op → List Label → Trees Op → Expression
put_together keep true op labels children = written_out op children
put_together keep false op labels children = prune_node keep (with_names op labels) children

abbrev mutual
  -- an expression with its aliases, or without, and with horizontals over few operands written out, or as nodes
  pub pruned : Bool → Bool → Expression → Expression
  pruned keep write (node op children) =
      put_together keep (is_written_out write op (tree_count children)) op (fold_all op_label children)
      (all_pruned (keep && lets_aliases write op (tree_count children)) write children)

  pub all_pruned : Bool → Bool → Trees Op → Trees Op
  all_pruned keep write no_more = no_more
  all_pruned keep write (more child rest) = more (pruned keep write child) (all_pruned keep write rest)

-- an expression without its aliases
abbrev pub core : Expression → Expression
core tree = pruned false false tree

-- and with its horizontals written out
abbrev pub spelled : Expression → Expression
spelled tree = pruned false true tree

abbrev pub is_core_op : Op → Bool
is_core_op (AliasOp name) = false
is_core_op op = true

abbrev mutual
  -- whether there is no alias in it
  pub is_core : Expression → Bool
  is_core (node op children) = is_core_op op && are_core children

  pub are_core : Trees Op → Bool
  are_core no_more = true
  are_core (more child rest) = is_core child && are_core rest

abbrev pub IsCore : Expression → Type 0
IsCore tree = IsTrue (is_core tree)

-- another expression under the aliases at the top of one
abbrev pub renamed : Expression → Expression → Expression
renamed (node (AliasOp name) (more tree no_more)) other = node (AliasOp name) (more (renamed tree other) no_more)
renamed tree other = other
