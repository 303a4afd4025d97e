-- Names of expressions.
-- A column has its own name, a literal is named `literal`, a count of rows `len`, an alias gives its own, and any other
-- node has the name of its first child. A function that has recorded names of its operands has the first of these, and one
-- that takes a field of a struct the field's.
use Rattle.std.specs.Prelude.{List, [], ◌∷◌, codes}
use Rattle.plan_types.specs.Schemas.{Name}
use Rattle.plan_dsl.specs.declared.function_expr.FunctionExpr.{FunctionExpr}
use Rattle.plan_dsl.specs.declared.function_expr.FunctionExpr.TheVariants.{FieldByName}
use Rattle.plan_dsl.specs.Trees.{fold}
use Rattle.plan_dsl.specs.Ops.{Op, ColumnOp, LiteralOp, LenOp, AliasOp, FunctionOp, Expression}
pub use Rattle.plan_dsl.specs.Labels.{Origin, FromColumn, FromLiteral, FromAlias, FromField, FromNothing, Label, column_label, literal_label, alias_label, field_label, first_label}

-- the label of a function over operands with these
abbrev pub function_label : FunctionExpr → List Label → Label
function_label (FieldByName name) labels = field_label name
function_label function labels = first_label labels

-- the labels that are recorded, or else the operands' own
abbrev pub recorded_or : List Label → List Label → List Label
recorded_or [] labels = labels
recorded_or (label ∷ recorded) labels = label ∷ recorded

-- the label of a node, from its children's
abbrev pub op_label : Op → List Label → Label
op_label (ColumnOp name) labels = column_label name
op_label (LiteralOp type value) labels = literal_label (codes "literal")
op_label LenOp labels = literal_label (codes "len")
op_label (AliasOp name) labels = alias_label name
op_label (FunctionOp function recorded) labels = function_label function (recorded_or recorded labels)
op_label op labels = first_label labels

abbrev pub label_of : Expression → Label
label_of tree = fold op_label tree

abbrev pub name_of : Expression → Name
name_of tree = (label_of tree).name
