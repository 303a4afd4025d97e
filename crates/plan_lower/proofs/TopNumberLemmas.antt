-- A number at the top of an expression.
use Rattle.std.proofs.Common.{◌≡◌, ◌≢◌, refl}
use Rattle.plan_dsl.specs.Aliases.{spelled}
use Rattle.plan_dsl.specs.Expressions.{function_source, plain_tree, row_trees}
use Rattle.plan_dsl.specs.Literals.{settled}
use Rattle.plan_dsl.specs.Names.{label_of}
use Rattle.plan_dsl.specs.Ops.{AliasOp, Expression, LiteralOp}
use Rattle.plan_dsl.specs.Sources.{SourceOp, unwritten}
use Rattle.plan_dsl.specs.Trees.{Trees, node, no_more, more}
use Rattle.plan_dsl.specs.declared.expr.Expr.{Expr}
use Rattle.plan_dsl.specs.declared.expr.Expr.TheVariants.{Alias, Alias', Function', Literal}
use Rattle.plan_dsl.specs.declared.function_expr.FunctionExpr.{FunctionExpr}
use Rattle.plan_dsl.specs.declared.function_expr.FunctionExpr.TheVariants.{FieldByIndex}
use Rattle.plan_lower.specs.TopNumbers.{settled_at_top, settled_own, settles_at_top, settles_own}

-- the expression keeps its name
pub settled_at_top_label : (tree : Expression) → label_of (settled_at_top tree) ≡ label_of tree
settled_at_top_label (node (AliasOp name) (more tree no_more)) = refl
settled_at_top_label (node (LiteralOp type value) children) = refl
settled_at_top_label (node _ children) = refl

-- and the one that it has without aliases, with its horizontals written out
spelled_label_own : (tree : Expression) → label_of (spelled (settled_own tree)) ≡ label_of (spelled tree)
spelled_label_own (node (LiteralOp type value) children) = refl
spelled_label_own (node _ children) = refl

pub spelled_label_at_top : (tree : Expression) → label_of (spelled (settled_at_top tree)) ≡ label_of (spelled tree)
spelled_label_at_top (node (AliasOp name) (more tree no_more)) = spelled_label_own tree
spelled_label_at_top (node (LiteralOp type value) children) = refl
spelled_label_at_top (node _ children) = refl

function_own : (function : FunctionExpr) (sources : Trees SourceOp) → unwritten (node (function_source function) sources) ≡ settled_own (unwritten (node (function_source function) sources))
function_own (FieldByIndex place) sources = refl
function_own _ sources = refl

-- what is no literal stays as it is
pub own_item : (expr : Expr) → ((value : _) → expr ≢ Literal value) → plain_tree expr ≡ settled_own (plain_tree expr)
own_item (Literal value) literal = absurd (literal value refl)
own_item (Function' shape input function) literal = function_own function (row_trees input)
own_item _ literal = refl

-- what is no alias has its number at the top
function_at_top : (function : FunctionExpr) (sources : Trees SourceOp) → let tree = unwritten (node (function_source function) sources) in
    (settles_at_top tree ≡ settles_own tree) × (settled_at_top tree ≡ settled_own tree) × (settled tree ≡ settled_own tree)
function_at_top (FieldByIndex place) sources = (refl, refl, refl)
function_at_top _ sources = (refl, refl, refl)

pub at_top : (expr : Expr) → ((below : _) (name : _) → expr ≢ Alias below name) → let tree = plain_tree expr in
    (settles_at_top tree ≡ settles_own tree) × (settled_at_top tree ≡ settled_own tree) × (settled tree ≡ settled_own tree)
at_top (Alias' p below name) alias = absurd (alias _ name refl)
at_top (Function' shape input function) alias = function_at_top function (row_trees input)
at_top _ alias = (refl, refl, refl)
