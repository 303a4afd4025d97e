-- Functions that stay, which keep the names of their operands.
use Rattle.std.proofs.Common.{◌≡◌, Bool, false, List, [], ◌∷◌, ◌++◌, length, map, refl, sym, ap, ◌∙◌}
use Rattle.std.proofs.lemmas.List.{append_assoc, map-append}
use Rattle.plan_dsl.specs.declared.expr.Exprs.{Exprs}
use Rattle.plan_dsl.specs.declared.function_expr.FunctionExpr.{FunctionExpr}
use Rattle.plan_dsl.specs.Aliases.{all_pruned, is_written_out, pruned}
use Rattle.plan_dsl.specs.Expressions.{plain_trees}
use Rattle.plan_dsl.specs.Names.{Label, label_of, op_label}
use Rattle.plan_dsl.specs.Ops.{FunctionOp, Expression}
use Rattle.plan_dsl.specs.Trees.{node, children_from, fold_all}
use Rattle.plan_arena.specs.Items.{output_label, named_node, recorded}
use Rattle.plan_arena.specs.declared.expr_ir.ExprIR.{ExprIR}
use Rattle.plan_lower.proofs.HorizontalLemmas.{function_stays, operands_counted}

labels_of_each : (trees : List Expression) → fold_all op_label (children_from trees) ≡ map label_of trees
labels_of_each [] = refl
labels_of_each (tree ∷ trees) = ap (λ labels. label_of tree ∷ labels) (labels_of_each trees)

-- one that stays keeps the names of its operands
pub function_over : (keep write : Bool) (function : FunctionExpr) (input : Exprs) (exprs : List ExprIR) → is_written_out write (FunctionOp function []) (length input.items.items) ≡ false → recorded exprs ≡ map label_of (plain_trees input)
    → pruned keep write (node (FunctionOp function []) (children_from (plain_trees input))) ≡ node (FunctionOp function (recorded exprs)) (all_pruned false write (children_from (plain_trees input)))
function_over keep write function input exprs stays names =
    let trees = plain_trees input in
    function_stays keep write function (children_from trees) (length input.items.items) stays (operands_counted input)
    ∙ ap (λ labels. node (FunctionOp function labels) (all_pruned false write (children_from trees))) (labels_of_each trees ∙ sym names)

-- the name of one more operand is kept
pub name_recorded : (exprs longer : List ExprIR) (expr : ExprIR) (tree : Expression) (left rest : List Expression) (all : List Label) → longer ≡ exprs ++ expr ∷ [] → (named_node expr).label ≡ label_of tree → left ≡ tree ∷ rest → recorded exprs ++ map label_of left ≡ all → recorded longer ++ map label_of rest ≡ all
name_recorded exprs longer expr tree left rest all pushed named is before =
    ap (λ l. recorded l ++ map label_of rest) pushed
    ∙ ap (λ labels. labels ++ map label_of rest) (map-append (λ e. output_label e.output_name) exprs (expr ∷ []))
    ∙ append_assoc (recorded exprs) (output_label expr.output_name ∷ []) (map label_of rest)
    ∙ ap (λ label. recorded exprs ++ label ∷ map label_of rest) named
    ∙ ap (λ l. recorded exprs ++ map label_of l) (sym is)
    ∙ before
