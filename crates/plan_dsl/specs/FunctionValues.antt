-- What ternaries and functions make of values.
-- Most go row by row. One that asks whether a value is in another operand asks its lists row by row, or its column whole,
-- and one that shifts a column moves its values.
use Rattle.std.specs.Prelude.{ℕ, suc, ℤ, pos, negsuc, min, Bool, true, false, List, [], ◌∷◌, ◌++◌, map, length, replicate, take, drop, Option, Some, None, slice_get, if◌then◌else◌}
use Rattle.std.specs.List.{list_any}
use Rattle.plan_types.specs.Types.{Ty, ListType, StructType, Fields, with_field}
use Rattle.plan_types.specs.Schemas.{Name, same_name}
use Rattle.plan_types.specs.Values.{Val, Vals, with_value, NullValue, TruthValue, IntValue, ListValue, StructValue, same_value}
use Rattle.plan_types.specs.Outcomes.{Outcome, Done, Stuck}
use Rattle.plan_types.specs.Casts.{Converted, Gives, Fails}
use Rattle.plan_types.specs.Frames.{Row}
use Rattle.plan_dsl.specs.declared.function_expr.FunctionExpr.{FunctionExpr}
use Rattle.plan_dsl.specs.declared.function_expr.FunctionExpr.TheVariants.{AllHorizontal, AnyHorizontal, IsNull, IsNotNull, FillNull, IsIn, ShiftAndFill, ListGet, FieldByName}
use Rattle.plan_dsl.specs.Operators.{both_true, either_true}
use Rattle.plan_dsl.specs.Picks.{is_true, items_in}
use Rattle.plan_dsl.specs.Rows.{by_row}
use Rattle.plan_dsl.specs.Slices.{slice_start}

-- ---- row by row

-- the first value where the second is true, and else the third
abbrev pub ternary_value : Row → Converted
ternary_value (truthy ∷ predicate ∷ falsy ∷ []) = Gives (if is_true predicate then truthy else falsy)
ternary_value row = Fails

abbrev pub is_missing : Val → Bool
is_missing NullValue = true
is_missing value = false

-- the item that was found in a list, or null in its place, or a fault
abbrev pub found_item : Bool → Option Val → Converted
found_item null_on_oob (Some value) = Gives value
found_item true None = Gives NullValue
found_item false None = Fails

-- the item at a place, which may lie in front of the first
abbrev pub item_at : Bool → List Val → ℤ → Converted
item_at null_on_oob items (pos place) = found_item null_on_oob (slice_get items place)
item_at null_on_oob items (negsuc before) = found_item null_on_oob None

-- the item of a list at an index, and null beside null
abbrev pub list_item : Bool → Row → Converted
list_item null_on_oob (ListValue items ∷ IntValue index ∷ []) = item_at null_on_oob (items_in items) (slice_start index (length (items_in items)))
list_item null_on_oob row = Gives NullValue

-- the part of a struct of which the field is the first of that name
abbrev pub part_named : Name → Fields → Vals → Val
part_named name (with_field other type fields) (with_value first rest) = if same_name name other then first else part_named name fields rest
part_named name fields parts = NullValue

abbrev pub field_value : Name → List Ty → Row → Converted
field_value name (StructType fields ∷ []) (StructValue parts ∷ []) = Gives (part_named name fields parts)
field_value name types row = Gives NullValue

-- whether all values of a row are true, and whether any is
abbrev pub all_true : Row → Val
all_true [] = TruthValue true
all_true (value ∷ row) = both_true value (all_true row)

abbrev pub any_true : Row → Val
any_true [] = TruthValue false
any_true (value ∷ row) = either_true value (any_true row)

-- what a function gives of a row
abbrev pub function_value : FunctionExpr → List Ty → Row → Converted
function_value IsNull types (value ∷ []) = Gives (TruthValue (is_missing value))
function_value IsNotNull types (value ∷ []) = Gives (TruthValue (if is_missing value then false else true))
function_value FillNull types (value ∷ other ∷ []) = Gives (if is_missing value then other else value)
function_value (ListGet null_on_oob) types row = list_item null_on_oob row
function_value (FieldByName name) types row = field_value name types row
function_value AllHorizontal types row = Gives (all_true row)
function_value AnyHorizontal types row = Gives (any_true row)
function_value function types row = Fails

-- ---- a value among others

-- whether the list has the value: null is in none, and none is known of what is in no list
abbrev pub list_has : Row → Converted
list_has (NullValue ∷ items ∷ []) = Gives NullValue
list_has (value ∷ ListValue items ∷ []) = Gives (TruthValue (list_any (same_value value) (items_in items)))
list_has row = Gives NullValue

abbrev pub is_among_values : List Val → Val → Val
is_among_values others NullValue = NullValue
is_among_values others value = TruthValue (list_any (same_value value) others)

abbrev pub is_in_values : List Ty → List (List Val) → Outcome (List Val)
is_in_values (type ∷ ListType item ∷ []) columns = by_row list_has columns
is_in_values types (values ∷ others ∷ []) = Done (map (is_among_values others) values)
is_in_values types columns = Stuck

-- ---- a column that is shifted

-- values moved down or up by so many places, as many as before, with a value in the places that are left
abbrev pub moved_down : ℕ → List Val → Val → List Val
moved_down count values fill = take (length values) (replicate (min count (length values)) fill ++ values)

abbrev pub moved_up : ℕ → List Val → Val → List Val
moved_up count values fill = drop count values ++ replicate (min count (length values)) fill

-- by no known number: nothing is known of the values
abbrev pub shifted : List Val → Val → Val → List Val
shifted values (IntValue (pos count)) fill = moved_down count values fill
shifted values (IntValue (negsuc before)) fill = moved_up (suc before) values fill
shifted values count fill = map (λ value. NullValue) values

abbrev pub shift_values : List (List Val) → Outcome (List Val)
shift_values (values ∷ (count ∷ []) ∷ (fill ∷ []) ∷ []) = Done (shifted values count fill)
shift_values columns = Stuck

-- ---- by function

abbrev pub function_values : FunctionExpr → List Ty → List (List Val) → Outcome (List Val)
function_values IsIn types columns = is_in_values types columns
function_values ShiftAndFill types columns = shift_values columns
function_values function types columns = by_row (function_value function types) columns
