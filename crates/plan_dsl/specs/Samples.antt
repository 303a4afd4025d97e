-- What the worked examples share: tables of cases, types, values, expressions, plans and frames.
use Prim.Native.String.{String}
use Rattle.std.specs.Prelude.{◌≡◌, ℕ, ℤ, pos, neg_ℤ, List, [], ◌∷◌, map, length, codes, Bool, true, false, Some, None, Result, Ok, Err}
use Rattle.std.specs.List.{range_with_len}
use Rattle.plan_types.specs.Types.{Ty, NullType, Truth, TextType, DateType, TimeType, DatetimeType, DurationType, StructType, Untyped, fields_from}
use Rattle.plan_types.specs.Values.{Val, NullValue, IntValue, ListValue, StructValue}
use Rattle.plan_types.specs.ValueViews.{values_from}
pub use Rattle.plan_types.specs.Samples.{Maps as Gives, MapsPairs as GivesOfTwo, int8, int16, int32, int64, uint8, uint16, uint32, uint64, null, yes, no, number, negative, text}
use Rattle.plan_types.specs.Schemas.{Name, Columns}
use Rattle.plan_types.specs.Frames.{Frame, Row, row_numbers}
use Rattle.plan_types.specs.Outcomes.{Outcome, Done}
use Rattle.plan_types.specs.declared.dtype.CastOptions.{CastOptions}
use Rattle.plan_types.specs.declared.dtype.CastOptions.TheVariants.{Strict, NonStrict, Overflowing}
use Rattle.plan_types.specs.declared.dtype.TimeUnit.TheVariants.{Microseconds}
use Rattle.plan_types.specs.declared.error.ErrorKind.{ErrorKind}
use Rattle.plan_dsl.specs.declared.aggregate.GroupByMethod.{GroupByMethod}
use Rattle.plan_dsl.specs.declared.aggregate.GroupByMethod.TheVariants.{Min, NanMin, Max, NanMax, NUnique, First, Last, Implode, Sum, Count, Groups}
use Rattle.plan_dsl.specs.declared.expr.Expr.TheVariants.{Literal}
use Rattle.plan_dsl.specs.declared.function_expr.FunctionExpr.{FunctionExpr}
use Rattle.plan_dsl.specs.declared.literal.LiteralValue.{LiteralValue}
use Rattle.plan_dsl.specs.declared.operator.Operator.{Operator}
use Rattle.plan_dsl.specs.declared.operator.Operator.TheVariants.{Eq, EqValidity, NotEq, NotEqValidity, Lt, LtEq, Gt, GtEq, Plus, Minus, Multiply, Divide, FloorDivide, Modulus, And, Or, Xor, LogicalAnd, LogicalOr}
use Rattle.plan_dsl.specs.declared.sort_options.SortOptions.{SortOptions}
use Rattle.plan_dsl.specs.Trees.{Tree, node, no_more, more, children_from}
use Rattle.plan_dsl.specs.Ops.{ColumnOp, LiteralOp, BinaryOp, CastOp, Expression, LenOp, SliceOp, AliasOp, ExplodeOp, GatherOp, FilterOp, SortOp, SortByOp, AggOp, WindowOp, TernaryOp, FunctionOp}
use Rattle.plan_dsl.specs.Sources.{Excluded, ExcludedName, ExcludedType, Renaming, AddPrefix, AddSuffix, SetName, Plain, WildcardOp, ColumnsOp, DtypeColumnOp, IndexColumnOp, NthOp, ExcludeOp, SelectorOp, RootOp, RenameOp, Source, written}
use Rattle.plan_dsl.specs.Expressions.{plain_tree}
use Rattle.plan_dsl.specs.Literals.{is_literal}
use Rattle.plan_dsl.specs.Typing.{Typed, typing}
use Rattle.plan_dsl.specs.Operators.{operator_value}
use Rattle.plan_dsl.specs.OperatorTypes.{Taken, pair_to, operator_types}
use Rattle.plan_dsl.specs.Meaning.{meaning}
use Rattle.plan_dsl.specs.Strictness.{as_operand}
use Rattle.plan_dsl.specs.StrictRun.{strict_run}
use Rattle.plan_dsl.specs.Plans.{Plan, SourcePlan, PlanOp, named, scan_op, select_op, hstack_op, group_by_op, filter_op, simple_projection_op, source_select, source_hstack, source_filter}
use Rattle.plan_dsl.specs.Groups.{Group}
use Rattle.plan_dsl.specs.Windows.{Spot}
use Rattle.plan_dsl.specs.PlanKernels.{Series}

-- ---- tables of cases

-- the definition gives every case the one answer
abbrev pub GivesAll : {Case Answer : Type 0} → (Case → Answer) → Answer → List Case → Type 0
GivesAll definition answer cases = map definition cases ≡ map (λ _. answer) cases

-- ---- types

-- structs of fields of these names and types
abbrev pub struct_type : Columns → Ty
struct_type fields = StructType (fields_from fields)

abbrev pub one_field : String → Ty → Ty
one_field name type = struct_type ((codes name, type) ∷ [])

abbrev pub moment : Ty
moment = DatetimeType Microseconds

abbrev pub span : Ty
span = DurationType Microseconds

-- the types of times, and others
abbrev pub times : List Ty
times = DateType ∷ TimeType ∷ moment ∷ span ∷ []

abbrev pub no_times : List Ty
no_times = NullType ∷ Truth ∷ int32 ∷ int64 ∷ TextType ∷ Untyped (pos 1) ∷ []

-- ---- values

abbrev pub list : List Val → Val
list items = ListValue (values_from items)

abbrev pub struct_of : List Val → Val
struct_of parts = StructValue (values_from parts)

-- ---- operators

abbrev pub comparisons : List Operator
comparisons = Eq ∷ NotEq ∷ Lt ∷ LtEq ∷ Gt ∷ GtEq ∷ []

abbrev pub equalities : List Operator
equalities = Eq ∷ EqValidity ∷ NotEq ∷ NotEqValidity ∷ []

abbrev pub orders : List Operator
orders = Lt ∷ LtEq ∷ Gt ∷ GtEq ∷ []

-- the comparisons that compare nulls too
abbrev pub with_nulls : List Operator
with_nulls = EqValidity ∷ NotEqValidity ∷ []

abbrev pub quotients : List Operator
quotients = Divide ∷ FloorDivide ∷ Modulus ∷ []

-- arithmetic but sums
abbrev pub no_sums : List Operator
no_sums = Minus ∷ Multiply ∷ quotients

abbrev pub arithmetic : List Operator
arithmetic = Plus ∷ no_sums

abbrev pub bits : List Operator
bits = And ∷ Or ∷ Xor ∷ []

-- those of truth values alone
abbrev pub logical : List Operator
logical = LogicalAnd ∷ LogicalOr ∷ []

-- both operands are taken to the type, and give one of that type
abbrev pub both_as : Ty → Ty → Result Taken ErrorKind
both_as type result = Ok (pair_to type type result)

abbrev pub taken : Ty → Ty → Ty → Result Taken ErrorKind
taken left right result = Ok (pair_to left right result)

-- each of the operators takes the two types so
abbrev pub Take : List Operator → List (Ty × Ty × Result Taken ErrorKind) → Type 0
Take operators table =
    map (λ row. map (λ operator. operator_types operator (row.0 ∷ row.1 ∷ [])) operators) table ≡ map (λ row. map (λ _. row.2) operators) table

-- each of the operators refuses each of the first types on the left of each of the second
abbrev pub Refuse : List Operator → ErrorKind → List (List Ty × List Ty) → Type 0
Refuse operators kind table =
    map (λ row. map (λ left. map (λ right. map (λ operator. operator_types operator (left ∷ right ∷ [])) operators) row.1) row.0) table
    ≡ map (λ row. map (λ _. map (λ _. map (λ _. Err kind) operators) row.1) row.0) table

-- what the operators give of two values, the first of that type, in the result's type
abbrev pub Compute : List Operator → Ty → Ty → List (Val × Val × List Val) → Type 0
Compute operators from type table = GivesOfTwo (λ left right. map (λ operator. operator_value operator from type left right) operators) table

-- what an operator gives: each row has the first value's type, the result's, two values and the answer
abbrev pub ComputeEach : Operator → List (Ty × Ty × Val × Val × Val) → Type 0
ComputeEach operator table = map (λ row. operator_value operator row.0 row.1 row.2 row.3) table ≡ map (λ row. row.4) table

-- ---- expressions

abbrev pub all_options : List CastOptions
all_options = Strict ∷ NonStrict ∷ Overflowing ∷ []

abbrev pub column : String → Expression
column name = node (ColumnOp (codes name)) no_more

abbrev pub a : Expression
a = column "a"

abbrev pub b : Expression
b = column "b"

abbrev pub c : Expression
c = column "c"

abbrev pub d : Expression
d = column "d"

abbrev pub k : Expression
k = column "k"

abbrev pub m : Expression
m = column "m"

abbrev pub n : Expression
n = column "n"

abbrev pub s : Expression
s = column "s"

abbrev pub t : Expression
t = column "t"

abbrev pub u : Expression
u = column "u"

abbrev pub v : Expression
v = column "v"

abbrev pub w : Expression
w = column "w"

abbrev pub x : Expression
x = column "x"

-- a count of rows
abbrev pub count : Expression
count = node LenOp no_more

-- a number without a type
abbrev pub literal : ℤ → Expression
literal value = node (LiteralOp (Untyped value) (IntValue value)) no_more

abbrev pub typed_literal : Ty → ℤ → Expression
typed_literal type value = node (LiteralOp type (IntValue value)) no_more

-- numbers without a type: small ones, one below 0, two that Int8 hasn't, the greatest that has a type, and one past it
abbrev pub one : Expression
one = literal (pos 1)

abbrev pub two : Expression
two = literal (pos 2)

abbrev pub five : Expression
five = literal (pos 5)

abbrev pub below : Expression
below = literal (neg_ℤ (pos 1))

abbrev pub wide : Expression
wide = literal (pos 300)

abbrev pub two_hundred : Expression
two_hundred = literal (pos 200)

abbrev pub widest : Expression
widest = literal (pos 18446744073709551615)

abbrev pub huge : Expression
huge = literal (pos 18446744073709551616)

-- a literal as it is written
abbrev pub written_literal : LiteralValue → Expression
written_literal value = plain_tree (Literal value)

abbrev pub binary : Operator → Expression → Expression → Expression
binary operator left right = node (BinaryOp operator) (more left (more right no_more))

abbrev pub sum : Expression → Expression → Expression
sum left right = binary Plus left right

abbrev pub less : Expression → Expression → Expression
less left right = binary Lt left right

abbrev pub equal : Expression → Expression → Expression
equal left right = binary Eq left right

abbrev pub cast_as : CastOptions → Ty → Expression → Expression
cast_as options target operand = node (CastOp target options) (more operand no_more)

-- a slice of an expression, by an offset and a length
abbrev pub slice : Expression → Expression → Expression → Expression
slice input offset count = node SliceOp (more input (more offset (more count no_more)))

abbrev pub explode : Expression → Expression
explode input = node ExplodeOp (more input no_more)

-- what is gathered at indices, and at one index alone
abbrev pub gather : Expression → Expression → Expression
gather input index = node (GatherOp false) (more input (more index no_more))

abbrev pub gather_one : Expression → Expression → Expression
gather_one input index = node (GatherOp true) (more input (more index no_more))

-- the values where another expression is true
abbrev pub keep_where : Expression → Expression → Expression
keep_where input by = node FilterOp (more input (more by no_more))

-- ways to sort: whether from the greatest on, and whether nulls are last
abbrev pub way : Bool → Bool → SortOptions
way descending nulls_last = record { descending = descending; nulls_last = nulls_last }

abbrev pub rising : SortOptions
rising = way false false

abbrev pub sort_as : SortOptions → Expression → Expression
sort_as options input = node (SortOp options) (more input no_more)

-- sorted by keys, by these flags, and from the least on with nulls first
abbrev pub sort_by : List Bool → List Bool → List Expression → Expression → Expression
sort_by descending nulls_last keys input = node (SortByOp descending nulls_last) (more input (children_from keys))

abbrev pub rising_by : List Expression → Expression → Expression
rising_by keys input = sort_by (false ∷ []) (false ∷ []) keys input

-- an aggregate
abbrev pub agg : GroupByMethod → Expression → Expression
agg method input = node (AggOp method) (more input no_more)

abbrev pub all_methods : List GroupByMethod
all_methods = Min ∷ NanMin ∷ Max ∷ NanMax ∷ NUnique ∷ First ∷ Last ∷ Implode ∷ Sum ∷ Count false ∷ Count true ∷ Groups ∷ []

-- a function over the groups of keys, and over such groups in order
abbrev pub over : List Expression → Expression → Expression
over keys function = node (WindowOp None) (more function (children_from keys))

abbrev pub over_by : SortOptions → Expression → List Expression → Expression → Expression
over_by options order keys function = node (WindowOp (Some options)) (more function (more order (children_from keys)))

abbrev pub alias : String → Expression → Expression
alias name operand = node (AliasOp (codes name)) (more operand no_more)

-- what is given where a predicate is true, and elsewhere
abbrev pub ternary : Expression → Expression → Expression → Expression
ternary predicate truthy falsy = node TernaryOp (more truthy (more predicate (more falsy no_more)))

-- a function of operands, whose names aren't recorded
abbrev pub call : FunctionExpr → List Expression → Expression
call function operands = node (FunctionOp function []) (children_from operands)

-- null, which has no type but its own
abbrev pub nothing : Expression
nothing = node (LiteralOp NullType NullValue) no_more

-- ---- source expressions

abbrev pub all_names : List String → List Name
all_names names = map codes names

-- what is found, under these names
abbrev pub these : List String → Result (List Name) ErrorKind
these names = Ok (all_names names)

abbrev pub all : Source
all = node WildcardOp no_more

abbrev pub columns_named : List String → Source
columns_named names = node (ColumnsOp (all_names names)) no_more

abbrev pub columns_of_type : Ty → Source
columns_of_type type = node (DtypeColumnOp (type ∷ [])) no_more

abbrev pub columns_at : List ℤ → Source
columns_at places = node (IndexColumnOp places) no_more

abbrev pub nth : ℤ → Source
nth place = node (NthOp place) no_more

abbrev pub but : List Excluded → Source → Source
but excluded marker = node (ExcludeOp excluded) (more marker no_more)

abbrev pub but_named : String → Source → Source
but_named name marker = but (ExcludedName (codes name) ∷ []) marker

abbrev pub but_of_type : Ty → Source → Source
but_of_type type marker = but (ExcludedType type ∷ []) marker

abbrev pub selecting : Source → Source
selecting selector = node SelectorOp (more selector no_more)

abbrev pub root : Source → Source
root source = node RootOp (more source no_more)

-- renaming forms
abbrev pub form : Renaming → Source → Source
form renaming source = node (RenameOp renaming) (more source no_more)

abbrev pub prefix : String → Source → Source
prefix added source = form (AddPrefix (codes added)) source

abbrev pub suffix : String → Source → Source
suffix added source = form (AddSuffix (codes added)) source

abbrev pub fixed : String → Source → Source
fixed name source = form (SetName (codes name)) source

-- operators and aliases over source expressions
abbrev pub source_binary : Operator → Source → Source → Source
source_binary operator left right = node (Plain (BinaryOp operator)) (more left (more right no_more))

abbrev pub plus : Source → Source → Source
plus left right = source_binary Plus left right

abbrev pub equals : Source → Source → Source
equals left right = source_binary Eq left right

abbrev pub source_alias : String → Source → Source
source_alias name operand = node (Plain (AliasOp (codes name))) (more operand no_more)

-- of each type the first values are those of literals, and the others aren't
abbrev pub HasLiterals : List (Ty × List Val × List Val) → Type 0
HasLiterals table =
    map (λ row. map (is_literal row.0) row.1 ∷ map (is_literal row.0) row.2 ∷ []) table
    ≡ map (λ row. map (λ _. true) row.1 ∷ map (λ _. false) row.2 ∷ []) table

-- an operand of the first type, made one of the second: each row has these types, the operand, and what is made of it
abbrev pub AreOperands : List (Ty × Ty × Expression × Expression) → Type 0
AreOperands table = map (λ row. as_operand row.0 row.1 row.2) table ≡ map (λ row. row.3) table

-- a column of each first type has no strict cast to each of the types beside it
abbrev pub RefuseCasts : ErrorKind → List (Ty × List Ty) → Type 0
RefuseCasts kind table =
    map (λ row. map (λ target. typing [] ((codes "a", row.0) ∷ []) (cast_as Strict target a)) row.1) table ≡ map (λ row. map (λ _. Err kind) row.1) table

-- the typing of what has one value, and of what may have more
abbrev pub one_value : Ty → Typed
one_value type = record { type = type; many = false }

abbrev pub many_values : Ty → Typed
many_values type = record { type = type; many = true }

abbrev pub of_one : Ty → Result Typed ErrorKind
of_one type = Ok (one_value type)

abbrev pub of_many : Ty → Result Typed ErrorKind
of_many type = Ok (many_values type)

-- ---- frames

abbrev pub frame_with : Columns → List Row → Frame
frame_with schema rows = record { schema = schema; rows = rows }

-- what expressions mean on all rows of a frame, and how they run there as they are written
abbrev pub means : Frame → Expression → Outcome (List Val)
means frame tree = meaning [] frame tree (row_numbers frame)

abbrev pub runs : Frame → Expression → Outcome (List Val)
runs frame tree = strict_run [] frame tree (row_numbers frame)

-- a frame of one column of this type
abbrev pub alone : Ty → List Val → Frame
alone type values = frame_with ((codes "a", type) ∷ []) (map (λ value. value ∷ []) values)

-- a frame of two columns of these types, row by row
abbrev pub beside : Ty → Ty → List (Val × Val) → Frame
beside left right rows = frame_with ((codes "a", left) ∷ (codes "b", right) ∷ []) (map (λ row. row.0 ∷ row.1 ∷ []) rows)

-- what an operator means between two columns of these types: each row has their values and what it gives
abbrev pub Mean : Operator → Ty → Ty → List (Val × Val × Val) → Type 0
Mean operator left right table = means (beside left right (map (λ row. (row.0, row.1)) table)) (binary operator a b) ≡ Done (map (λ row. row.2) table)

-- what an operator gives between two columns of these types, as it runs where it is written
abbrev pub Run : Operator → Ty → Ty → List (Val × Val × Val) → Type 0
Run operator left right table = runs (beside left right (map (λ row. (row.0, row.1)) table)) (binary operator a b) ≡ Done (map (λ row. row.2) table)

-- the numbers from 1 to 5
abbrev pub one_to_five : Frame
one_to_five = alone int8 (number 1 ∷ number 2 ∷ number 3 ∷ number 4 ∷ number 5 ∷ [])

-- three rows, with a null
abbrev pub table : Frame
table =
    frame_with ((codes "a", int8) ∷ (codes "b", int32) ∷ []) (
    (number 1 ∷ number 10 ∷ []) ∷
    (null ∷ number 20 ∷ []) ∷
    (number 100 ∷ number 200 ∷ []) ∷ [])

abbrev pub four_columns : Columns
four_columns = (codes "a", int8) ∷ (codes "b", int64) ∷ (codes "t", Truth) ∷ (codes "u", uint64) ∷ []

-- numbers of two types
abbrev pub two_widths : Frame
two_widths =
    frame_with ((codes "a", int8) ∷ (codes "b", int64) ∷ []) (
    (number 1 ∷ number 2 ∷ []) ∷
    (number 2 ∷ number 2 ∷ []) ∷
    (null ∷ number 2 ∷ []) ∷
    (number 2 ∷ null ∷ []) ∷
    (number 3 ∷ negative 200 ∷ []) ∷ [])

-- numbers of two types, of which some are 0
abbrev pub some_zeros : Frame
some_zeros =
    frame_with ((codes "a", int8) ∷ (codes "b", int64) ∷ []) (
    (number 1 ∷ number 2 ∷ []) ∷
    (number 0 ∷ negative 200 ∷ []) ∷
    (null ∷ number 2 ∷ []) ∷
    (negative 1 ∷ null ∷ []) ∷ [])

abbrev pub truths_and_numbers : Frame
truths_and_numbers =
    frame_with ((codes "t", Truth) ∷ (codes "a", int8) ∷ []) (
    (yes ∷ number 1 ∷ []) ∷
    (yes ∷ number 2 ∷ []) ∷
    (no ∷ number 2 ∷ []) ∷
    (no ∷ negative 1 ∷ []) ∷
    (null ∷ number 1 ∷ []) ∷
    (yes ∷ number 127 ∷ []) ∷ [])

-- numbers with and without a sign, and truth values
abbrev pub signs_and_truths : Frame
signs_and_truths =
    frame_with ((codes "a", int8) ∷ (codes "u", uint8) ∷ (codes "t", Truth) ∷ []) (
    (number 100 ∷ number 0 ∷ yes ∷ []) ∷
    (number 127 ∷ number 255 ∷ no ∷ []) ∷
    (null ∷ null ∷ null ∷ []) ∷ [])

-- days beside moments, at midnight and elsewhere
abbrev pub days_and_moments : Frame
days_and_moments =
    frame_with ((codes "d", DateType) ∷ (codes "m", moment) ∷ []) (
    (number 1 ∷ number 86400000000 ∷ []) ∷
    (number 1 ∷ number 86400000001 ∷ []) ∷
    (negative 1 ∷ negative 86400000001 ∷ []) ∷
    (null ∷ number 0 ∷ []) ∷
    (number 0 ∷ null ∷ []) ∷ [])

-- texts, truth values and nulls
abbrev pub texts_and_truths : Frame
texts_and_truths =
    frame_with ((codes "x", TextType) ∷ (codes "b", Truth) ∷ (codes "n", NullType) ∷ []) (
    (text "true" ∷ yes ∷ null ∷ []) ∷
    (text "is " ∷ no ∷ null ∷ []) ∷
    (null ∷ yes ∷ null ∷ []) ∷
    (text "" ∷ null ∷ null ∷ []) ∷ [])

-- ---- plans

-- the first table, and the empty one of a schema
abbrev pub scan : {E : Type 0} → Columns → Tree (PlanOp E)
scan schema = node (scan_op (Some 0) schema) no_more

abbrev pub empty_scan : Columns → Plan
empty_scan schema = node (scan_op None schema) no_more

abbrev pub select : List Expression → Plan → Plan
select outputs input = node (select_op (map named outputs) None) (more input no_more)

abbrev pub stack : List Expression → Plan → Plan
stack outputs input = node (hstack_op (map named outputs) None) (more input no_more)

abbrev pub group_by : List Expression → List Expression → Plan → Plan
group_by keys aggs input = node (group_by_op (map named keys) (map named aggs) None) (more input no_more)

abbrev pub keep : Expression → Plan → Plan
keep predicate input = node (filter_op (named predicate)) (more input no_more)

abbrev pub project : Columns → Plan → Plan
project columns input = node (simple_projection_op columns None) (more input no_more)

-- a select, an hstack and a filter in a query, with plans' ops alone
abbrev pub written_select : List Expression → SourcePlan → SourcePlan
written_select trees input = source_select (map written trees) input

abbrev pub written_hstack : List Expression → SourcePlan → SourcePlan
written_hstack trees input = source_hstack (map written trees) input

abbrev pub written_filter : Expression → SourcePlan → SourcePlan
written_filter tree input = source_filter (written tree) input

-- ---- parts of plans

abbrev pub schema_ab : Columns
schema_ab = (codes "a", int8) ∷ (codes "b", int32) ∷ []

-- with a column of no common type with the first
abbrev pub schema_au : Columns
schema_au = (codes "a", int8) ∷ (codes "u", uint64) ∷ []

abbrev pub schema_abu : Columns
schema_abu = (codes "a", int8) ∷ (codes "b", int32) ∷ (codes "u", uint64) ∷ []

-- two columns of one type, and a text
abbrev pub schema_abc : Columns
schema_abc = (codes "a", int8) ∷ (codes "b", int8) ∷ (codes "c", TextType) ∷ []

-- two rows of them, with nulls
abbrev pub numbers_and_texts : Frame
numbers_and_texts = frame_with schema_abc ((number 1 ∷ number 2 ∷ text "x" ∷ []) ∷ (null ∷ number 4 ∷ null ∷ []) ∷ [])

abbrev pub schema_flagged : Columns
schema_flagged = (codes "a", int8) ∷ (codes "keep", Truth) ∷ []

-- four rows: the first column is less, null, greater and less
abbrev pub mixed : Frame
mixed =
    frame_with schema_ab (
    (number 1 ∷ number 10 ∷ []) ∷
    (null ∷ number 20 ∷ []) ∷
    (number 100 ∷ number 20 ∷ []) ∷
    (number 5 ∷ number 300 ∷ []) ∷ [])

-- numbers beside the names of their groups, with nulls
abbrev pub schema_kv : Columns
schema_kv = (codes "k", TextType) ∷ (codes "v", int64) ∷ []

abbrev pub keyed : Frame
keyed =
    frame_with schema_kv (
    (text "x" ∷ number 1 ∷ []) ∷
    (text "y" ∷ number 2 ∷ []) ∷
    (text "x" ∷ null ∷ []) ∷
    (null ∷ number 4 ∷ []) ∷
    (null ∷ number 5 ∷ []) ∷
    (text "x" ∷ number 1 ∷ []) ∷ [])

abbrev pub group : List Val → List ℕ → Group ℕ
group key items = record { key = key; items = items }

abbrev pub spot : ℕ → ℕ → Val → Spot
spot place row by = record { place = place; number = row; by = by }

-- each row's turn among the rows that are asked for
abbrev pub turns : List ℕ → Outcome (List Val)
turns rows = Done (map number (range_with_len 0 (length rows)))

-- four rows beside truth values and a null
abbrev pub flagged : Frame
flagged =
    frame_with schema_flagged (
    (number 1 ∷ yes ∷ []) ∷
    (number 2 ∷ null ∷ []) ∷
    (number 3 ∷ no ∷ []) ∷
    (null ∷ yes ∷ []) ∷ [])

-- the table of that number
abbrev pub scan_of : ℕ → Columns → Plan
scan_of place schema = node (scan_op (Some place) schema) no_more

abbrev pub series : String → Ty → List Val → Series
series name type values = record { name = codes name; type = type; values = values }
