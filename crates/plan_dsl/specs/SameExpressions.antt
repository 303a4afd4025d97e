-- Expressions that are one, and what they are hashed by.
-- Two literals are one where they are of one type and value, and two expressions where their nodes do the same and have
-- as many children, which are one in order. So a literal of a type isn't one without, nor of another type.
use Rattle.std.specs.Prelude.{ℕ, Bool, true, false, ◌&&◌, ◌==◌, List, [], ◌++◌, encode_utf8_all, if◌then◌else◌, Option, Some, None}
use Rattle.std.specs.Hash as fed
use Rattle.std.specs.Bool.{beq}
use Rattle.std.specs.Cmp.Lexicographic.{pointwise}
use Rattle.std.specs.Str.{bytes_eq}
use Rattle.plan_types.specs.Types.{Ty, same_type, type_writes}
use Rattle.plan_types.specs.Values.{Val, NullValue, TruthValue, IntValue, TextValue, ListValue, StructValue, same_value}
use Rattle.plan_types.specs.declared.dtype.CastOptions.{CastOptions}
use Rattle.plan_types.specs.declared.dtype.CastOptions.TheVariants.{Strict, NonStrict, Overflowing}
use Rattle.plan_dsl.specs.declared.aggregate.GroupByMethod.{GroupByMethod}
use Rattle.plan_dsl.specs.declared.aggregate.GroupByMethod.TheVariants.{Min, NanMin, Max, NanMax, NUnique, First, Last, Implode, Sum, Count, Groups}
use Rattle.plan_dsl.specs.declared.literal.LiteralValue.{LiteralValue}
use Rattle.plan_dsl.specs.declared.operator.Operator.{Operator}
use Rattle.plan_dsl.specs.declared.operator.Operator.TheVariants.{Eq, EqValidity, NotEq, NotEqValidity, Lt, LtEq, Gt, GtEq, Plus, Minus, Multiply, Divide, FloorDivide, Modulus, And, Or, Xor, LogicalAnd, LogicalOr}
use Rattle.plan_dsl.specs.declared.sort_options.SortOptions.{SortOptions}
use Rattle.plan_dsl.specs.Trees.{Tree, Trees, node, no_more, more}
use Rattle.plan_dsl.specs.Functions.{function_writes, same_function}
use Rattle.plan_dsl.specs.Labels.{Label, Origin, FromColumn, FromLiteral, FromAlias, FromField, FromNothing}
use Rattle.plan_dsl.specs.Ops.{Op, ColumnOp, LiteralOp, BinaryOp, CastOp, LenOp, SliceOp, AliasOp, ExplodeOp, GatherOp, FilterOp, SortOp, SortByOp, AggOp, WindowOp, TernaryOp, FunctionOp}
use Rattle.plan_dsl.specs.Literals.{literal_type, literal_value}

-- ---- what is one

-- an operator's number: no two have the same
abbrev pub operator_rank : Operator → ℕ
operator_rank Eq = 0
operator_rank EqValidity = 1
operator_rank NotEq = 2
operator_rank NotEqValidity = 3
operator_rank Lt = 4
operator_rank LtEq = 5
operator_rank Gt = 6
operator_rank GtEq = 7
operator_rank Plus = 8
operator_rank Minus = 9
operator_rank Multiply = 10
operator_rank Divide = 11
operator_rank FloorDivide = 12
operator_rank Modulus = 13
operator_rank And = 14
operator_rank Or = 15
operator_rank Xor = 16
operator_rank LogicalAnd = 17
operator_rank LogicalOr = 18

abbrev pub same_operator : Operator → Operator → Bool
same_operator left right = operator_rank left == operator_rank right

-- the number of a way to cast
abbrev pub options_rank : CastOptions → ℕ
options_rank Strict = 0
options_rank NonStrict = 1
options_rank Overflowing = 2

abbrev pub same_options : CastOptions → CastOptions → Bool
same_options left right = options_rank left == options_rank right

-- the number of a method: no two have the same
abbrev pub method_rank : GroupByMethod → ℕ
method_rank Min = 0
method_rank NanMin = 1
method_rank Max = 2
method_rank NanMax = 3
method_rank NUnique = 4
method_rank First = 5
method_rank Last = 6
method_rank Implode = 7
method_rank Sum = 8
method_rank (Count include_nulls) = if include_nulls then 10 else 9
method_rank Groups = 11

abbrev pub same_method : GroupByMethod → GroupByMethod → Bool
same_method left right = method_rank left == method_rank right

-- whether two ways to sort are one
abbrev pub same_sort : SortOptions → SortOptions → Bool
same_sort left right = beq left.descending right.descending && beq left.nulls_last right.nulls_last

-- whether both are no order, or one
abbrev pub same_order : Option SortOptions → Option SortOptions → Bool
same_order None None = true
same_order (Some options) (Some other) = same_sort options other
same_order order other = false

abbrev pub same_flags : List Bool → List Bool → Bool
same_flags left right = pointwise beq left right

-- whether two literals are one
abbrev pub same_literal : LiteralValue → LiteralValue → Bool
same_literal left right = same_type (literal_type left) (literal_type right) && same_value (literal_value left) (literal_value right)

-- whether two names are one, from the same
abbrev pub origin_rank : Origin → ℕ
origin_rank FromColumn = 0
origin_rank FromLiteral = 1
origin_rank FromAlias = 2
origin_rank FromField = 3
origin_rank FromNothing = 4

abbrev pub same_label : Label → Label → Bool
same_label left right = bytes_eq left.name right.name && origin_rank left.origin == origin_rank right.origin

-- whether two nodes do the same
abbrev pub same_op : Op → Op → Bool
same_op (ColumnOp name) (ColumnOp other) = bytes_eq name other
same_op (LiteralOp type value) (LiteralOp other given) = same_type type other && same_value value given
same_op (BinaryOp operator) (BinaryOp other) = same_operator operator other
same_op (CastOp target options) (CastOp other given) = same_type target other && same_options options given
same_op LenOp LenOp = true
same_op SliceOp SliceOp = true
same_op ExplodeOp ExplodeOp = true
same_op (GatherOp returns_scalar) (GatherOp other) = beq returns_scalar other
same_op FilterOp FilterOp = true
same_op (SortOp options) (SortOp other) = same_sort options other
same_op (SortByOp descending nulls_last) (SortByOp other others) = same_flags descending other && same_flags nulls_last others
same_op (WindowOp order) (WindowOp other) = same_order order other
same_op (AliasOp name) (AliasOp other) = bytes_eq name other
same_op (AggOp method) (AggOp other) = same_method method other
same_op TernaryOp TernaryOp = true
same_op (FunctionOp function recorded) (FunctionOp other others) = same_function function other && pointwise same_label recorded others
same_op op other = false

-- whether two trees have nodes that do the same, by that test, over as many children
abbrev mutual
  pub same_tree : {Op : Type 0} → (Op → Op → Bool) → Tree Op → Tree Op → Bool
  same_tree test (node op children) (node other others) = test op other && same_trees test children others

  pub same_trees : {Op : Type 0} → (Op → Op → Bool) → Trees Op → Trees Op → Bool
  same_trees test no_more no_more = true
  same_trees test no_more (more other others) = false
  same_trees test (more child rest) no_more = false
  same_trees test (more child rest) (more other others) = same_tree test child other && same_trees test rest others

-- ---- hashes

-- what is hashed of a literal's value, beside its type: no literal is a list or a struct
abbrev pub bare_writes : Val → List (List ℕ)
bare_writes NullValue = []
bare_writes (TruthValue truth) = fed.bool truth
bare_writes (IntValue number) = fed.i128 number
bare_writes (TextValue text) = fed.str (encode_utf8_all text)
bare_writes (ListValue items) = []
bare_writes (StructValue parts) = []

abbrev pub literal_writes : Ty → Val → List (List ℕ)
literal_writes type value = type_writes type ++ bare_writes value

-- whether there is an order, and which
abbrev pub order_writes : Option SortOptions → List (List ℕ)
order_writes None = fed.u8 0
order_writes (Some options) = fed.u8 1 ++ (fed.bool options.descending ++ fed.bool options.nulls_last)

abbrev pub op_writes : Op → List (List ℕ)
op_writes (ColumnOp name) = fed.u8 0 ++ fed.str (encode_utf8_all name)
op_writes (LiteralOp type value) = fed.u8 1 ++ literal_writes type value
op_writes (BinaryOp operator) = fed.u8 2 ++ fed.u8 (operator_rank operator)
op_writes (CastOp target options) = fed.u8 3 ++ (type_writes target ++ fed.u8 (options_rank options))
op_writes LenOp = fed.u8 4
op_writes SliceOp = fed.u8 5
op_writes ExplodeOp = fed.u8 6
op_writes (GatherOp returns_scalar) = fed.u8 7 ++ fed.bool returns_scalar
op_writes FilterOp = fed.u8 8
op_writes (SortOp options) = fed.u8 9 ++ (fed.bool options.descending ++ fed.bool options.nulls_last)
op_writes (AliasOp name) = fed.u8 10 ++ fed.str (encode_utf8_all name)
op_writes (SortByOp descending nulls_last) = fed.u8 11 ++ (fed.slice fed.bool descending ++ fed.slice fed.bool nulls_last)
op_writes (AggOp method) = fed.u8 21 ++ fed.u8 (method_rank method)
op_writes (WindowOp order) = fed.u8 22 ++ order_writes order
op_writes TernaryOp = fed.u8 23
op_writes (FunctionOp function recorded) = fed.u8 24 ++ function_writes function

-- each node, before its children
abbrev mutual
  pub tree_writes : {Op : Type 0} → (Op → List (List ℕ)) → Tree Op → List (List ℕ)
  tree_writes writes (node op children) = writes op ++ trees_writes writes children

  pub trees_writes : {Op : Type 0} → (Op → List (List ℕ)) → Trees Op → List (List ℕ)
  trees_writes writes no_more = []
  trees_writes writes (more child rest) = tree_writes writes child ++ trees_writes writes rest
