-- Properties of expressions, node by node.
use Rattle.std.specs.Prelude.{Bool, true, false, ◌&&◌, ◌||◌, not, List, [], ◌∷◌, length, nat_eq}
use Rattle.plan_types.specs.declared.dtype.CastOptions.TheVariants.{Strict}
use Rattle.plan_dsl.specs.declared.function_expr.FunctionExpr.{FunctionExpr}
use Rattle.plan_dsl.specs.declared.function_expr.FunctionExpr.TheVariants.{IsIn, ListGet}
use Rattle.plan_dsl.specs.Functions.{is_elementwise_function}
use Rattle.plan_dsl.specs.Ops.{Op, ColumnOp, LiteralOp, BinaryOp, CastOp, LenOp, AliasOp, AggOp, TernaryOp, FunctionOp, Expression}
use Rattle.plan_dsl.specs.Trees.{Trees, node, no_more, more, top_op}

-- whether a node is a literal, and which of some are
abbrev pub is_literal : Op → Bool
is_literal (LiteralOp type value) = true
is_literal op = false

abbrev pub literals : Trees Op → List Bool
literals no_more = []
literals (more tree rest) = is_literal (top_op tree) ∷ literals rest

abbrev mutual
  -- it holds where a node settles it, or hands it on to its operands and it holds of each. It may be handed on only where
  -- some of them are literals
  pub holds_by : (Op → Bool) → (Op → List Bool → Bool) → Expression → Bool
  holds_by settles hands_on (node op operands) = settles op || (hands_on op (literals operands) && all_hold settles hands_on operands)

  pub all_hold : (Op → Bool) → (Op → List Bool → Bool) → Trees Op → Bool
  all_hold settles hands_on no_more = true
  all_hold settles hands_on (more tree rest) = holds_by settles hands_on tree && all_hold settles hands_on rest

abbrev pub never : Op → Bool
never op = false

-- whichever operands are literals
abbrev pub over_any : (Op → Bool) → Op → List Bool → Bool
over_any test op operands = test op

-- ---- what a node says of itself

-- whether a value is in a literal hangs on the row alone too
abbrev pub asks_literal : FunctionExpr → List Bool → Bool
asks_literal IsIn (value ∷ among ∷ others) = among
asks_literal function operands = false

-- a value for each row, which hangs on that row's values alone, over operands of which these are literals
abbrev pub is_own_elementwise : Op → List Bool → Bool
is_own_elementwise (ColumnOp name) operands = true
is_own_elementwise (LiteralOp type value) operands = true
is_own_elementwise (BinaryOp operator) operands = true
is_own_elementwise (CastOp target options) operands = true
is_own_elementwise (AliasOp name) operands = true
is_own_elementwise TernaryOp operands = true
is_own_elementwise (FunctionOp function recorded) operands = is_elementwise_function function || asks_literal function operands
is_own_elementwise op operands = false

-- and no data fault besides
abbrev pub is_own_harmless : Op → List Bool → Bool
is_own_harmless (CastOp target Strict) operands = false
is_own_harmless (FunctionOp (ListGet false) recorded) operands = false
is_own_harmless op operands = is_own_elementwise op operands

-- one value, whatever the operands
abbrev pub gives_one : Op → Bool
gives_one (LiteralOp type value) = true
gives_one LenOp = true
gives_one (AggOp method) = true
gives_one op = false

-- one value, where each operand has one
abbrev pub keeps_one : Op → Bool
keeps_one (BinaryOp operator) = true
keeps_one (CastOp target options) = true
keeps_one (AliasOp name) = true
keeps_one TernaryOp = true
keeps_one (FunctionOp function recorded) = true
keeps_one op = false

-- a function is asked over one operand
abbrev pub is_own_single : Op → List Bool → Bool
is_own_single (FunctionOp function recorded) operands = nat_eq (length operands) 1
is_own_single op operands = true

abbrev pub is_no_column : Op → Bool
is_no_column (ColumnOp name) = false
is_no_column op = true

-- ---- expressions

-- each row has a value of its own, from that row and literals alone
abbrev pub is_elementwise : Expression → Bool
is_elementwise = holds_by never is_own_elementwise

-- and it has no data fault that its columns don't have
abbrev pub permits_pushdown : Expression → Bool
permits_pushdown = holds_by never is_own_harmless

-- its column has one value
abbrev pub is_scalar : Expression → Bool
is_scalar = holds_by gives_one (over_any keeps_one)

-- each of its functions has one operand
abbrev pub has_single_functions : Expression → Bool
has_single_functions = holds_by never is_own_single

-- it names a column
abbrev pub has_column : Expression → Bool
has_column tree = not (holds_by never (over_any is_no_column) tree)

-- all of some expressions
abbrev pub all_trees : (Expression → Bool) → Trees Op → Bool
all_trees test no_more = true
all_trees test (more tree rest) = test tree && all_trees test rest
