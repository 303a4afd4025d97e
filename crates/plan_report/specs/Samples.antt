-- What the worked examples share: columns a and b, casts, and plans over them.
use Rattle.std.specs.Prelude.{ℕ, List, [], ◌∷◌, pos, codes, true, map, Option, Some}
use Rattle.plan_types.specs.Types.{Ty, Truth, Integer, StructType, no_field, with_field}
use Rattle.plan_types.specs.Values.{IntValue}
use Rattle.plan_types.specs.Schemas.{Name, Columns}
use Rattle.plan_types.specs.declared.dtype.CastOptions.TheVariants.{Strict, NonStrict}
use Rattle.plan_dsl.specs.declared.operator.Operator.{Operator}
use Rattle.plan_dsl.specs.Trees.{node, no_more, more}
use Rattle.plan_dsl.specs.Names.{column_label}
use Rattle.plan_dsl.specs.Ops.{ColumnOp, LiteralOp, BinaryOp, CastOp, Expression}
use Rattle.plan_dsl.specs.Plans.{Plan, Named, named, scan_op, select_op, filter_op}

abbrev pub int8 : Ty
int8 = Integer true 8

abbrev pub int32 : Ty
int32 = Integer true 32

abbrev pub int64 : Ty
int64 = Integer true 64

-- a column a alone
abbrev pub one_column : Ty → Columns
one_column type = (codes "a", type) ∷ []

abbrev pub two_columns : Columns
two_columns = (codes "a", int8) ∷ (codes "b", int32) ∷ []

-- structs with one field, and with one more
abbrev pub struct_of : Name → Ty → Ty
struct_of name type = StructType (with_field name type no_field)

abbrev pub struct_of_two : Name → Ty → Name → Ty → Ty
struct_of_two name type other next = StructType (with_field name type (with_field other next no_field))

abbrev pub a : Expression
a = node (ColumnOp (codes "a")) no_more

abbrev pub b : Expression
b = node (ColumnOp (codes "b")) no_more

abbrev pub five : Expression
five = node (LiteralOp int32 (IntValue (pos 5))) no_more

abbrev pub binary : Operator → Expression → Expression → Expression
binary operator left right = node (BinaryOp operator) (more left (more right no_more))

abbrev pub cast_to : Ty → Expression → Expression
cast_to type tree = node (CastOp type Strict) (more tree no_more)

abbrev pub truth_of : Expression → Expression
truth_of tree = node (CastOp Truth NonStrict) (more tree no_more)

abbrev pub scan_of : Option ℕ → Columns → Plan
scan_of table columns = node (scan_op table columns) no_more

abbrev pub filter_over : Plan → Expression → Plan
filter_over input tree = node (filter_op (named tree)) (more input no_more)

abbrev pub select_over : Plan → List Expression → Columns → Plan
select_over input trees columns = node (select_op (map named trees) (Some columns)) (more input no_more)

abbrev pub two_column_scan : Plan
two_column_scan = scan_of (Some 0) two_columns

abbrev pub one_column_scan : Plan
one_column_scan = scan_of (Some 0) (one_column int8)

abbrev pub node_named : Name → ℕ → Named ℕ
node_named name n = record { label = column_label name; expression = n }
