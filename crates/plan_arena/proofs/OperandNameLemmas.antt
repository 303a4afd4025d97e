-- Names of functions' operands: an expression without its aliases has one for each, where none were recorded.
use Rattle.std.proofs.Common.{◌≡◌, Bool, true, false, List, [], ◌∷◌, refl}
use Rattle.plan_dsl.specs.declared.aggregate.AggExpr.{AggExpr}
use Rattle.plan_dsl.specs.declared.aggregate.AggExpr.TheVariants as agg
use Rattle.plan_dsl.specs.declared.expr.Expr.{Expr, Row_of-Expr, end_of-Expr, more_of-Expr, Held-Expr-Window-2, None', Some'}
use Rattle.plan_dsl.specs.declared.expr.Expr.TheVariants.{BinaryExpr', Cast', Slice', Alias', Explode', Gather', Filter', Sort', SortBy', Agg, Window', Ternary', Function'}
use Rattle.plan_dsl.specs.declared.function_expr.FunctionExpr.{FunctionExpr}
use Rattle.plan_dsl.specs.declared.function_expr.FunctionExpr.TheVariants.{AllHorizontal, AnyHorizontal, FieldByIndex}
use Rattle.plan_dsl.specs.declared.operator.Operator.{Operator}
use Rattle.plan_dsl.specs.declared.operator.Operator.TheVariants.{LogicalAnd, LogicalOr}
use Rattle.plan_dsl.specs.Aliases.{all_pruned, chain, chained, is_written_out, pruned, put_together, spelled}
use Rattle.plan_dsl.specs.Expressions.{behind_order, function_source, input_tree, plain_tree, row_trees}
use Rattle.plan_dsl.specs.Functions.{is_horizontal}
use Rattle.plan_dsl.specs.Literals.{settled}
use Rattle.plan_dsl.specs.Names.{Label, op_label}
use Rattle.plan_dsl.specs.Ops.{Op, BinaryOp, AliasOp, FunctionOp, Expression}
use Rattle.plan_dsl.specs.Sources.{SourceOp, all_unwritten, unwritten}
use Rattle.plan_dsl.specs.Trees.{Trees, node, no_more, more, fold_all, tree_count}
use Rattle.plan_dsl.proofs.AliasLemmas.{horizontal_alone, pruned_label}
use Rattle.plan_arena.specs.Runs.{AllNameOperands, AreNamesFor, NamesOperands}

-- ---- a query's expression records none

abbrev pub RecordsNone : Op → Type 0
RecordsNone (FunctionOp function (label ∷ recorded)) = ⊥
RecordsNone op = Unit {0}

abbrev mutual
  pub HasNone : Expression → Type 0
  HasNone (node op children) = RecordsNone op × AllHaveNone children

  pub AllHaveNone : Trees Op → Type 0
  AllHaveNone no_more = Unit {0}
  AllHaveNone (more child rest) = HasNone child × AllHaveNone rest

function_none : (function : FunctionExpr) (inputs : Trees SourceOp) → AllHaveNone (all_unwritten inputs) → HasNone (unwritten (node (function_source function) inputs))
function_none (FieldByIndex place) inputs h = (tt, tt)
function_none function inputs h = (tt, h)

mutual
  pub expr_none : (expr : Expr) → HasNone (plain_tree expr)
  expr_none (BinaryExpr' p left operator q right) = (tt, (expr_none left, (expr_none right, tt)))
  expr_none (Cast' p expr dtype options) = (tt, (expr_none expr, tt))
  expr_none (Slice' p input q offset r length) = (tt, (expr_none input, (expr_none offset, (expr_none length, tt))))
  expr_none (Explode' p input) = (tt, (expr_none input, tt))
  expr_none (Gather' p expr q idx returns_scalar) = (tt, (expr_none expr, (expr_none idx, tt)))
  expr_none (Filter' p input q by) = (tt, (expr_none input, (expr_none by, tt)))
  expr_none (Sort' p expr options) = (tt, (expr_none expr, tt))
  expr_none (SortBy' p expr shape by sort_options) = (tt, (expr_none expr, row_none by))
  expr_none (Alias' p expr name) = (tt, (expr_none expr, tt))
  expr_none (Agg aggregate) = (tt, (input_none aggregate, tt))
  expr_none (Window' p function shape partition_by order_by options) = (tt, (expr_none function, order_none order_by (row_trees partition_by) (row_none partition_by)))
  expr_none (Ternary' p predicate q truthy r falsy) = (tt, (expr_none truthy, (expr_none predicate, (expr_none falsy, tt))))
  expr_none (Function' shape input function) = function_none function (row_trees input) (row_none input)
  expr_none expr = (tt, tt)

  order_none : (order : Held-Expr-Window-2) (keys : Trees SourceOp) → AllHaveNone (all_unwritten keys) → AllHaveNone (all_unwritten (behind_order order keys))
  order_none None' keys h = h
  order_none (Some' p order options) keys h = (expr_none order, h)

  input_none : (aggregate : AggExpr) → HasNone (unwritten (input_tree aggregate))
  input_none (agg.Min' p input propagate_nans) = expr_none input
  input_none (agg.Max' p input propagate_nans) = expr_none input
  input_none (agg.NUnique' p input) = expr_none input
  input_none (agg.First' p input) = expr_none input
  input_none (agg.Last' p input) = expr_none input
  input_none (agg.Implode' p input) = expr_none input
  input_none (agg.Count' p input include_nulls) = expr_none input
  input_none (agg.Sum' p input) = expr_none input
  input_none (agg.AggGroups' p input) = expr_none input

  row_none : {n : _} → (row : Row_of-Expr n) → AllHaveNone (all_unwritten (row_trees row))
  row_none end_of-Expr = tt
  row_none (more_of-Expr first rest) = (expr_none first, row_none rest)

-- ---- without its aliases it has them

chain_names : (operator : Operator) (tree : Expression) (trees : Trees Op) → NamesOperands tree → AllNameOperands trees → NamesOperands (chain operator tree trees)
chain_names operator tree no_more h below = h
chain_names operator tree (more next rest) h below = chain_names operator (node (BinaryOp operator) (more tree (more next no_more))) rest (tt, (h, (below.0, tt))) below.1

chained_names : (operator : Operator) (nothing : Bool) (trees : Trees Op) → AllNameOperands trees → NamesOperands (chained operator nothing trees)
chained_names operator nothing no_more below = (tt, tt)
chained_names operator nothing (more tree no_more) below = (tt, below)
chained_names operator nothing (more tree (more next rest)) below = chain_names operator tree (more next rest) below.0 below.1

-- each operand's name is an alias, or that of the operand without aliases
labels_alike : (write : Bool) (trees : Trees Op) → AreNamesFor (fold_all op_label trees) (fold_all op_label (all_pruned false write trees))
labels_alike write no_more = tt
labels_alike write (more tree trees) = (pruned_label write tree, labels_alike write trees)

not_both : false ≡ true → ⊥
not_both h = cc

function_names : (function : FunctionExpr) (out : Bool) (labels : List Label) (children : Trees Op) → (out ≡ true → is_horizontal function ≡ true) → AreNamesFor labels (fold_all op_label children) → AllNameOperands children → NamesOperands (put_together false out (FunctionOp function []) labels children)
function_names AllHorizontal true labels children h alike below = chained_names LogicalAnd true children below
function_names AnyHorizontal true labels children h alike below = chained_names LogicalOr false children below
function_names _ true labels children h alike below = absurd (not_both (h refl))
function_names _ false labels children h alike below = (alike, below)

mutual
  pruned_names : (write : Bool) (tree : Expression) → HasNone tree → NamesOperands (pruned false write tree)
  pruned_names write (node (AliasOp name) (more tree no_more)) h = pruned_names write tree h.1.0
  pruned_names write (node (FunctionOp function []) children) h =
      function_names function (is_written_out write (FunctionOp function []) (tree_count children)) (fold_all op_label children) (all_pruned false write children)
      (horizontal_alone write function (tree_count children)) (labels_alike write children) (all_pruned_names write children h.1)
  pruned_names write (node (FunctionOp function (label ∷ recorded)) children) h = absurd h.0
  pruned_names write (node op children) h = (tt, all_pruned_names write children h.1)

  all_pruned_names : (write : Bool) (trees : Trees Op) → AllHaveNone trees → AllNameOperands (all_pruned false write trees)
  all_pruned_names write no_more h = tt
  all_pruned_names write (more tree trees) h = (pruned_names write tree h.0, all_pruned_names write trees h.1)

-- a number at the top that gets a type changes none of them
settled_names : (tree : Expression) → NamesOperands tree → NamesOperands (settled tree)
settled_names (node (AliasOp name) (more tree no_more)) h = (tt, (settled_names tree h.1.0, tt))
settled_names (node op children) h = h

-- so a query's expression names its functions' operands, as a lowered plan takes it
pub plan_names : (expr : Expr) → NamesOperands (settled (spelled (plain_tree expr)))
plan_names expr = settled_names (spelled (plain_tree expr)) (pruned_names true (plain_tree expr) (expr_none expr))
