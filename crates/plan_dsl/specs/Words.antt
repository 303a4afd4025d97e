-- What aggregates and functions are called: the words that queries have for them.
use Rattle.std.specs.Prelude.{List, ℕ, true, false, codes}
use Rattle.plan_dsl.specs.declared.aggregate.GroupByMethod.{GroupByMethod}
use Rattle.plan_dsl.specs.declared.aggregate.GroupByMethod.TheVariants.{Min, NanMin, Max, NanMax, NUnique, First, Last, Implode, Sum, Count, Groups}
use Rattle.plan_dsl.specs.declared.function_expr.FunctionExpr.{FunctionExpr}
use Rattle.plan_dsl.specs.declared.function_expr.FunctionExpr.TheVariants.{AllHorizontal, AnyHorizontal, IsNull, IsNotNull, FillNull, IsIn, ShiftAndFill, ListGet, FieldByName, FieldByIndex}

-- a query has no word for the two of numbers that are none
abbrev pub method_name : GroupByMethod → List ℕ
method_name Min = codes "Min"
method_name NanMin = codes "NanMin"
method_name Max = codes "Max"
method_name NanMax = codes "NanMax"
method_name NUnique = codes "NUnique"
method_name First = codes "First"
method_name Last = codes "Last"
method_name Implode = codes "Implode"
method_name Sum = codes "Sum"
method_name (Count false) = codes "Count"
method_name (Count true) = codes "CountAll"
method_name Groups = codes "AggGroups"

-- the key of a field by its name or place says the name or the place beside it
abbrev pub function_name : FunctionExpr → List ℕ
function_name AllHorizontal = codes "AllHorizontal"
function_name AnyHorizontal = codes "AnyHorizontal"
function_name IsNull = codes "IsNull"
function_name IsNotNull = codes "IsNotNull"
function_name FillNull = codes "FillNull"
function_name IsIn = codes "IsIn"
function_name ShiftAndFill = codes "ShiftAndFill"
function_name (ListGet false) = codes "ListGet"
function_name (ListGet true) = codes "ListGetOrNull"
function_name (FieldByName name) = codes "field"
function_name (FieldByIndex place) = codes "field_at"
