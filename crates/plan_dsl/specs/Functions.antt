-- Functions that are one, what they are hashed by, and what is said of them beside their values.
use Rattle.std.specs.Prelude.{ℕ, Bool, true, false, ◌==◌, ◌+◌, List, [], ◌++◌, encode_utf8_all, if◌then◌else◌}
use Rattle.std.specs.Hash as fed
use Rattle.std.specs.Bool.{beq}
use Rattle.std.specs.Ordering.{int_eq}
use Rattle.plan_types.specs.Schemas.{same_name}
use Rattle.plan_dsl.specs.declared.function_expr.FunctionExpr.{FunctionExpr}
use Rattle.plan_dsl.specs.declared.function_options.ApplyOptions.{ApplyOptions}
use Rattle.plan_dsl.specs.declared.function_options.ApplyOptions.TheVariants.{ElementWise, GroupWise}
use Rattle.plan_dsl.specs.declared.function_expr.FunctionExpr.TheVariants.{AllHorizontal, AnyHorizontal, IsNull, IsNotNull, FillNull, IsIn, ShiftAndFill, ListGet, FieldByName, FieldByIndex}

-- a function's number: no two have the same, but for names and flags
abbrev pub function_rank : FunctionExpr → ℕ
function_rank IsNull = 0
function_rank IsNotNull = 1
function_rank FillNull = 2
function_rank IsIn = 3
function_rank ShiftAndFill = 4
function_rank (ListGet null_on_oob) = 5
function_rank (FieldByName name) = 6
function_rank AllHorizontal = 7
function_rank AnyHorizontal = 8
function_rank (FieldByIndex place) = 9

abbrev pub same_function : FunctionExpr → FunctionExpr → Bool
same_function (ListGet flag) (ListGet other) = beq flag other
same_function (FieldByName name) (FieldByName other) = same_name name other
same_function (FieldByIndex place) (FieldByIndex other) = int_eq place other
same_function function other = function_rank function == function_rank other

-- what is hashed beside the number: a flag, a name or a place
abbrev pub parts_written : FunctionExpr → List (List ℕ)
parts_written (ListGet flag) = fed.bool flag
parts_written (FieldByName name) = fed.str (encode_utf8_all name)
parts_written (FieldByIndex place) = fed.i64 place
parts_written function = []

abbrev pub function_writes : FunctionExpr → List (List ℕ)
function_writes function = fed.u8 (function_rank function) ++ parts_written function

-- whether a function goes row by row, or by whole columns
abbrev pub apply_kind : FunctionExpr → ApplyOptions
apply_kind IsIn = GroupWise
apply_kind ShiftAndFill = GroupWise
apply_kind function = ElementWise

abbrev pub is_by_row : ApplyOptions → Bool
is_by_row ElementWise = true
is_by_row GroupWise = false

-- whether it gives a value for each row, of that row's values alone
abbrev pub is_elementwise_function : FunctionExpr → Bool
is_elementwise_function function = is_by_row (apply_kind function)

-- and whether it can have no data fault: one may that looks for an item past the end of a list
abbrev pub never_faults : FunctionExpr → Bool
never_faults (ListGet null_on_oob) = null_on_oob
never_faults function = is_elementwise_function function

-- whether it goes over any number of operands, in which each input is expanded by itself
abbrev pub is_horizontal : FunctionExpr → Bool
is_horizontal AllHorizontal = true
is_horizontal AnyHorizontal = true
is_horizontal function = false

-- the bits of its flags: 4 where inputs are expanded in place, and 8 where it can have no data fault
abbrev pub function_flags : FunctionExpr → ℕ
function_flags function = (if is_horizontal function then 4 else 0) + (if never_faults function then 8 else 0)

-- whether expansion leaves it: a field at a place is one of a name then
abbrev pub is_expanded_function : FunctionExpr → Bool
is_expanded_function (FieldByIndex place) = false
is_expanded_function function = true
