-- What the worked examples share: tables of cases, and values and trees in short.
use Prim.Native.String.{String as Literal}
use Rattle.std.specs.Prelude.{◌≡◌, ◌+◌, ℕ, ℤ, negsuc, List, [], ◌∷◌, map, codes, ⊤, true, Option, Some, None, option_and_then, String, string_bytes}
use Rattle.std.specs.Global.{Global}
use Rattle.std.specs.Option.{option_map_or}
use Rattle.serde_json.specs.Data.{Data, Items, Members, array, no_items, item, no_members, member, negative, null, number, object, string, unsigned}
use Rattle.plan_types.specs.Schemas.{Columns, Name as Text}
use Rattle.plan_types.specs.Types.{Ty, Integer, Untyped}
use Rattle.plan_types.specs.Values.{IntValue}
use Rattle.plan_types.specs.declared.dtype.CastOptions.{CastOptions}
use Rattle.plan_dsl.specs.declared.function_expr.FunctionExpr.{FunctionExpr}
use Rattle.plan_dsl.specs.declared.operator.Operator.{Operator}
use Rattle.plan_dsl.specs.Ops.{ColumnOp, LiteralOp, BinaryOp, CastOp, TernaryOp, FunctionOp, Expression, Op}
use Rattle.plan_dsl.specs.Plans.{SourcePlan, scan_op}
use Rattle.plan_dsl.specs.Sources.{Source, written}
use Rattle.plan_dsl.specs.Samples.{written_select, written_filter}
use Rattle.plan_dsl.specs.Trees.{node, no_more, more, children_from}
use Rattle.plan_json.specs.Bytes.{IsRefusalOf, WritesQuery}
use Rattle.plan_json.specs.Faults.{FaultKind, BadShape, BadFloat, BadName, Form, Part, Path, Step, fault_at, key, number as at_number, own_fault, part, part_of, keyed_form, list_of, places_form}
use Rattle.plan_json.specs.Forms.{Read, bin_key, expression, expression_read, selector, selector_read, asks, leaf as leaf_of_form}
use Rattle.plan_json.specs.Queries.{QueryModel, read_as}
use Rattle.plan_json.specs.declared.forms.Kind.TheVariants as kinds
use Rattle.plan_json.specs.declared.forms.Leaf.{Leaf}
use Rattle.plan_json.specs.declared.forms.Key.TheVariants as keys
use Rattle.plan_json.specs.declared.forms.ExpressionKey.TheVariants as of
use Rattle.plan_json.specs.declared.forms.MarkerKey.TheVariants as marks
use Rattle.plan_json.specs.declared.forms.PlanKey.TheVariants as by
use Rattle.plan_json.specs.Tables.{Declared}
use Rattle.plan_json.specs.declared.error.JsonError.{JsonError}
use Rattle.plan_json.specs.declared.error.JsonError.TheVariants.{NotJson, Shape, Float, Name}

-- ---- tables of cases

-- the definition gives each case the answer that stands beside it
abbrev pub Gives : {Case Answer : Type 0} → (Case → Answer) → List (Case × Answer) → Type 0
Gives definition table = map (λ row. definition row.0) table ≡ map (λ row. row.1) table

-- it gives every case the one answer
abbrev pub GivesAll : {Case Answer : Type 0} → (Case → Answer) → Answer → List Case → Type 0
GivesAll definition answer cases = map definition cases ≡ map (λ _. answer) cases

abbrev pub EachOf : {Case : Type 0} → (Case → Type 0) → List Case → Type 0
EachOf statement [] = ⊤
EachOf statement (c ∷ cs) = statement c × EachOf statement cs

-- the statement holds of each case
pub record Each {Case : Type 0} (statement : Case → Type 0) (cases : List Case) : Type 0 where
  pub each : EachOf statement cases

-- ---- values

abbrev pub items_of : List Data → Items
items_of [] = no_items
items_of (d ∷ ds) = item d (items_of ds)

abbrev pub list : List Data → Data
list ds = array (items_of ds)

abbrev pub word : Literal → Data
word text = string (codes text)

abbrev pub whole : ℕ → Data
whole n = number (unsigned n)

-- -1 - n
abbrev pub below_zero : ℕ → Data
below_zero n = number (negative (negsuc n))

abbrev pub keyed : Literal → Data → Data
keyed name value = object (member (codes name) value no_members)

abbrev pub keyed_twice : Literal → Data → Literal → Data → Data
keyed_twice name value other_name other = object (member (codes name) value (member (codes other_name) other no_members))

-- of a unit of time
abbrev pub moments : Literal → Data
moments unit = keyed "Datetime" (word unit)

abbrev pub spans : Literal → Data
spans unit = keyed "Duration" (word unit)

abbrev pub column_value : Literal → Literal → Data
column_value name type = list (word name ∷ word type ∷ [])

abbrev pub table_value : Literal → Data → Data
table_value name columns = keyed_twice "columns" columns "name" (word name)

abbrev pub query_value : List Data → Data → Data
query_value tables plan = keyed_twice "plan" plan "tables" (list tables)

abbrev pub col : Literal → Data
col name = keyed "col" (word name)

abbrev pub bin : List Data → Data
bin parts = keyed "bin" (list parts)

abbrev pub cast_value : List Data → Data
cast_value parts = keyed "cast" (list parts)

abbrev pub every_column : Data
every_column = keyed "all" null

abbrev pub scan_value : Literal → Data
scan_value table = keyed "scan" (word table)

abbrev pub empty_value : Data
empty_value = keyed "empty" (list [])

abbrev pub filter_value : List Data → Data
filter_value parts = keyed "filter" (list parts)

abbrev pub select_value : List Data → Data
select_value parts = keyed "select" (list parts)

-- ---- trees

abbrev pub int8 : Ty
int8 = Integer true 8

abbrev pub int64 : Ty
int64 = Integer true 64

abbrev pub leaf : Op → Expression
leaf op = node op no_more

abbrev pub column : Literal → Expression
column name = leaf (ColumnOp (codes name))

abbrev pub typed : Ty → ℤ → Op
typed type n = LiteralOp type (IntValue n)

-- a number without a type
abbrev pub untyped : ℤ → Expression
untyped n = leaf (typed (Untyped n) n)

abbrev pub binary : Operator → Expression → Expression → Expression
binary operator left right = node (BinaryOp operator) (more left (more right no_more))

abbrev pub cast_to : Ty → CastOptions → Expression → Expression
cast_to type mode operand = node (CastOp type mode) (more operand no_more)

-- the second where the first is true, and else the third
abbrev pub choice : Expression → Expression → Expression → Expression
choice predicate truthy falsy = node TernaryOp (more truthy (more predicate (more falsy no_more)))

-- a function of the values of these
abbrev pub of_values : FunctionExpr → List Expression → Expression
of_values function inputs = node (FunctionOp function []) (children_from inputs)

abbrev pub scan : Option ℕ → Columns → SourcePlan
scan table columns = node (scan_op table columns) no_more

abbrev pub select : List Expression → SourcePlan → SourcePlan
select outputs input = written_select outputs input

abbrev pub filter : Expression → SourcePlan → SourcePlan
filter predicate input = written_filter predicate input

abbrev pub query : Declared → SourcePlan → QueryModel
query tables plan = record { tables = tables; plan = plan }

-- ---- parts and faults

abbrev pub fault_in : Form × Data → Option FaultKind
fault_in case = own_fault case.0 case.1

abbrev pub keys_in : Members → List Step
keys_in no_members = []
keys_in (member name value rest) = key name ∷ keys_in rest

abbrev pub numbers_in : ℕ → Items → List Step
numbers_in n no_items = []
numbers_in n (item d ds) = at_number n ∷ numbers_in (n + 1) ds

-- the keys or the numbers that a value has
abbrev pub steps_in : Data → List Step
steps_in (object members) = keys_in members
steps_in (array items) = numbers_in 0 items
steps_in _ = []

abbrev pub at_steps : Form → Data → List Step → List (Step × Part)
at_steps form d [] = []
at_steps form d (step ∷ steps) = option_map_or (λ below. (step, below) ∷ at_steps form d steps) (part_of form step d) (at_steps form d steps)

-- the parts of a value, each with its step
abbrev pub parts_in : Form × Data → List (Step × Part)
parts_in case = at_steps case.0 case.1 (steps_in case.1)

abbrev pub under : Literal → Form → Data → List (Step × Part)
under name form value = (key (codes name), part form value) ∷ []

abbrev pub from_number : ℕ → List (Form × Data) → List (Step × Part)
from_number n [] = []
from_number n (asked ∷ rest) = (at_number n, part asked.0 asked.1) ∷ from_number (n + 1) rest

-- the items of a list, and what is asked of each
abbrev pub in_turn : List (Form × Data) → List (Step × Part)
in_turn asked = from_number 0 asked

abbrev pub to : Literal → Path → Path
to name path = key (codes name) ∷ path

-- how a value of the form is at fault at the path's end
abbrev pub fault_along : Form × Data × Path → Option FaultKind
fault_along case = fault_at case.0 case.1 case.2

-- ---- texts

abbrev pub error_of : FaultKind → String Global → JsonError
error_of BadShape path = Shape path
error_of BadFloat path = Float path
error_of BadName path = Name path

abbrev pub Writes : Literal × QueryModel → Type 0
Writes case = WritesQuery (codes case.0) case.1

-- the text is refused in this way at the pointer
abbrev pub Refused : Literal × FaultKind × Literal → Type 0
Refused case = (path : String Global) → string_bytes path ≡ codes case.2 → IsRefusalOf (codes case.0) (error_of case.1 path)

abbrev pub NoJson : Literal → Type 0
NoJson text = IsRefusalOf (codes text) NotJson

-- ---- forms

abbrev pub expression_in : Read → Option Source
expression_in (expression_read tree) = Some tree
expression_in _ = None

-- the expression that a value is
abbrev pub expression_of : Data → Option Source
expression_of d = option_and_then expression_in (read_as [] expression d)

-- each value reads to the expression that stands beside it, which has plans' ops alone
abbrev pub ReadAs : List (Data × Expression) → Type 0
ReadAs table = map (λ row. expression_of row.0) table ≡ map (λ row. Some (written row.1)) table

abbrev pub selector_in : Read → Option Source
selector_in (selector_read tree) = Some tree
selector_in _ = None

-- the selector that a value is
abbrev pub selector_of : Data → Option Source
selector_of d = option_and_then selector_in (read_as [] selector d)

abbrev pub expression_over : List Text → Form
expression_over names = keyed_form names kinds.Expression

-- a list of what has no forms
abbrev pub leaf_list : Leaf → Form
leaf_list which = list_of [] (leaf_of_form which)

abbrev pub expression_list : List Text → Form
expression_list names = list_of names expression

abbrev pub operands : Form
operands = places_form [] (asks bin_key)

abbrev pub a_cast : Form
a_cast = places_form [] (asks (keys.Expression of.Cast))

abbrev pub an_exclude : Form
an_exclude = places_form [] (asks (keys.Expression (of.Marker marks.Exclude)))

abbrev pub a_filter : List Text → Form
a_filter names = places_form names (asks (keys.Plan by.Filter))

abbrev pub a_selection : List Text → Form
a_selection names = places_form names (asks (keys.Plan by.Select))
