-- Laws of definitions that go over lists: what they say of lists of any length, where examples compute short ones.
use Rattle.std.specs.Prelude.{◌≡◌, ◌+◌, ℕ, suc, pos, negsuc, ◌+ℤ◌, ℤ, Bool, false, true, List, [], ◌∷◌, ◌++◌, length, map, replicate, slice_get, zip, Some, IsTrue, encode_utf8_all, if◌then◌else◌}
use Rattle.std.specs.List.{AllByRecursion, filter, list_any}
use Rattle.plan_types.specs.Types.{Ty, Fields, with_field}
use Rattle.plan_types.specs.Schemas.{Columns, Name, same_name, with_column}
use Rattle.plan_types.specs.Values.{Val, Vals, with_value, NullValue, TruthValue, IntValue, TextValue, ListValue, all_fit, same_value}
use Rattle.plan_types.specs.ValueViews.{values_from}
use Rattle.plan_types.specs.Casts.{Converted, Gives, Fails, cast, wrapped}
use Rattle.plan_types.specs.Frames.{Frame, Row, value_in}
use Rattle.plan_types.specs.Outcomes.{Outcome, Done, Fault, then_do}
use Rattle.plan_types.specs.declared.dtype.CastOptions.{CastOptions}
use Rattle.plan_dsl.specs.declared.aggregate.GroupByMethod.TheVariants.{Min, Max, NUnique, First, Last, Implode, Sum, Count}
use Rattle.plan_dsl.specs.declared.operator.Operator.{Operator}
use Rattle.plan_dsl.specs.Aggregates.{aggregate_value, count_value, is_counted, sum_of, summand}
use Rattle.plan_dsl.specs.Evaluations.{Evaluated, Series, all_series, series_on}
use Rattle.plan_dsl.specs.FunctionValues.{is_among_values, list_has, part_named, shift_values, shifted}
use Rattle.plan_dsl.specs.Grouping.{group_rows, group_values, value_typed}
use Rattle.plan_dsl.specs.Groups.{Group, firsts}
use Rattle.plan_dsl.specs.Kernels.{Meaning, cast_values, filter_values, given, kernel, operator_values}
use Rattle.plan_dsl.specs.Operators.{is_less, operator_value}
use Rattle.plan_dsl.specs.Ops.{GatherOp}
use Rattle.plan_dsl.specs.Picks.{explode_values, exploded, gathered, is_true, or_null}
use Rattle.plan_dsl.specs.PlanKernels.{framed, kept_rows, row_with, shared_length, stacked}
use Rattle.plan_dsl.specs.Registry.{Registry}
use Rattle.plan_dsl.specs.Rows.{by_row, for_rows, length_of_all, side_by_side, stretched}
use Rattle.plan_dsl.specs.Slices.{slice_values}
use Rattle.plan_dsl.specs.Sorting.{comes_before}

-- ---- of all values

-- No value comes before the least, nor before the greatest from the other end. The last value is the one at the end. Sums
-- and counts of two lists, one behind the other, are those of both. What is exploded of a list of values are these.
pub record AggregatesAreOfAll (type : Ty) (rows : List ℕ) : Type 0 where
  pub least : (own : Ty) (values : List Val) → IsTrue (all_fit values own) → AllByRecursion (λ value. comes_before (record { descending = false; nulls_last = true }) value (aggregate_value Min type rows values) ≡ false) values
  pub greatest : (own : Ty) (values : List Val) → IsTrue (all_fit values own) → AllByRecursion (λ value. comes_before (record { descending = true; nulls_last = true }) value (aggregate_value Max type rows values) ≡ false) values
  pub first : (value : Val) (values : List Val) → aggregate_value First type rows (value ∷ values) ≡ value
  pub last : (values : List Val) (value : Val) → aggregate_value Last type rows (values ++ value ∷ []) ≡ value
  pub sum : (left right : List Val) → aggregate_value Sum type rows (left ++ right) ≡ IntValue (wrapped type (sum_of left +ℤ sum_of right))
  pub summand : (value : Val) → sum_of (value ∷ []) ≡ summand value
  pub count : (nulls : Bool) (left right : List Val) → aggregate_value (Count nulls) type rows (left ++ right) ≡ count_value type (length (filter (is_counted nulls) left) + length (filter (is_counted nulls) right))
  pub distinct : (values : List Val) (value : Val) → aggregate_value NUnique type rows (values ++ value ∷ []) ≡ count_value type (length (firsts same_value values) + (if list_any (same_value value) values then 0 else 1))
  pub items : (values : List Val) → exploded (aggregate_value Implode type rows values) ≡ or_null values

-- columns explode apart
abbrev pub ColumnsExplodeApart : Type 0
ColumnsExplodeApart = (left right : List Val) → explode_values (left ++ right) ≡ explode_values left ++ explode_values right

-- a value, but null, is among values and in a list where it stands
pub record MembersAreFound (before after : List Val) (value : Val) : Type 0 where
  pub among : is_among_values (before ++ value ∷ after) value ≡ TruthValue true
  pub listed : list_has (value ∷ ListValue (values_from (before ++ value ∷ after)) ∷ []) ≡ Gives (TruthValue true)

-- the part of a struct under a field's name, in front or behind a field of another name
pub record PartsAreFound (name : Name) (type : Ty) (fields : Fields) (value : Val) (parts : Vals) : Type 0 where
  pub own : part_named name (with_field name type fields) (with_value value parts) ≡ value
  pub behind : (other : Name) → same_name name other ≡ false → part_named name (with_field other type fields) (with_value value parts) ≡ part_named name fields parts

-- a slice has the values from its place on, counted from either end, so many of them, or all
pub record SlicesAreBetween (front middle back : List Val) : Type 0 where
  pub from_front : slice_values (front ++ (middle ++ back)) (IntValue (pos (length front)) ∷ []) (IntValue (pos (length middle)) ∷ []) ≡ Done middle
  pub from_end : (before : ℕ) → length (middle ++ back) ≡ suc before → slice_values (front ++ (middle ++ back)) (IntValue (negsuc before) ∷ []) (IntValue (pos (length middle)) ∷ []) ≡ Done middle
  pub all : slice_values (front ++ (middle ++ back)) (IntValue (pos (length front)) ∷ []) (NullValue ∷ []) ≡ Done (middle ++ back)

-- ---- one by one

-- what is given of items is there where each gives something, and is what they give, in order
pub record IsOfEach {A B : Type 0} (each : A → Outcome B) (items : List A) (given : Outcome (List B)) : Type 0 where
  pub found : (values : List B) → given ≡ Done values → map each items ≡ map Done values
  pub gives : (values : List B) → map each items ≡ map Done values → given ≡ Done values

-- what was converted, or a fault
abbrev pub as_outcome : Converted → Outcome Val
as_outcome Fails = Fault
as_outcome (Gives value) = Done value

-- gathering gives the value at each index, whether or not it is taken for a single one
pub record GatherGivesEach (returns_scalar : Bool) (values : List Val) : Type 0 where
  pub each : (registry : Registry) (frame : Frame) (rows : List ℕ) (types : List Ty) (type : Ty) (indices : List Val) → IsOfEach (gathered values) indices (kernel registry frame rows (GatherOp returns_scalar) types type (values ∷ indices ∷ []))

-- an index is a place from the front, and below 0 one from the end
pub record IndicesArePlaces (before after : List Val) (value : Val) : Type 0 where
  pub from_front : gathered (before ++ value ∷ after) (IntValue (pos (length before))) ≡ Done value
  pub from_end : gathered (before ++ value ∷ after) (IntValue (negsuc (length after))) ≡ Done value

-- a cast of a column casts each value, and what functions make of rows they make of each
abbrev pub CastsAreOfEach : Type 0
CastsAreOfEach = (from target : Ty) (options : CastOptions) (values : List Val) → IsOfEach (λ value. as_outcome (cast value from target options)) values (cast_values from target options values)

abbrev pub RowsGiveEach : Type 0
RowsGiveEach = (f : Row → Converted) (columns : List (List Val)) (rows : List Row) → side_by_side columns ≡ Done rows → IsOfEach (λ row. as_outcome (f row)) rows (by_row f columns)

-- so it is of operands, of the columns of a frame, and of aggregates in groups
abbrev pub OperandsGiveEach : Type 0
OperandsGiveEach = (operands : List Meaning) (rows : List ℕ) → IsOfEach (λ operand. operand rows) operands (given operands rows)

abbrev pub SeriesAreOfEach : Type 0
SeriesAreOfEach = (rows : List ℕ) (es : List Evaluated) → IsOfEach (series_on rows) es (all_series rows es)

pub record GroupsGiveEach (aggs : List Evaluated) : Type 0 where
  pub values : (rows : List ℕ) → IsOfEach (λ (e : Evaluated). value_typed e.typing (e.gives rows)) aggs (group_values aggs rows)
  pub rows : (groups : List (Group ℕ)) → IsOfEach (λ (group : Group ℕ). then_do (group_values aggs group.items) (λ values. Done (group.key ++ values))) groups (group_rows aggs groups)

-- ---- side by side

-- an operator gives its value at each place, also where one operand has a single value
pub record OperatorsGiveEach (operator : Operator) (from type : Ty) : Type 0 where
  pub pairs : (left right : List Val) → length left ≡ length right → operator_values operator from type left right ≡ Done (map (λ pair. operator_value operator from type pair.0 pair.1) (zip left right))
  pub one_left : (value : Val) (right : List Val) → operator_values operator from type (value ∷ []) right ≡ Done (map (λ other. operator_value operator from type value other) right)
  pub one_right : (left : List Val) (value : Val) → operator_values operator from type left (value ∷ []) ≡ Done (map (λ other. operator_value operator from type other value) left)

-- a column of as many values stays, and a single one is repeated
pub record ColumnsAreForRows (count : ℕ) : Type 0 where
  pub own : (values : List Val) → length values ≡ count → for_rows count values ≡ Done values
  pub repeated : (value : Val) → for_rows count (value ∷ []) ≡ Done (replicate count value)

-- rows have at each place the values of the column there, brought to so many
pub record AreRowsOf (count : ℕ) (columns : List (List Val)) (rows : List Row) : Type 0 where
  pub as_many : length rows ≡ count
  pub each : (place : ℕ) (column : List Val) → slice_get columns place ≡ Some column → map (λ row. slice_get row place) rows ≡ map Some (stretched count column)

pub record RowsHaveColumns : Type 0 where
  pub beside : (columns : List (List Val)) (count : ℕ) (rows : List Row) → length_of_all (map length columns) ≡ Some count → side_by_side columns ≡ Done rows → AreRowsOf count columns rows
  pub framed : (ss : List Series) (count : ℕ) (frame : Frame) → shared_length ss ≡ Some count → framed ss ≡ Done frame → AreRowsOf count (map (λ (s : Series). s.values) ss) frame.rows

-- a row with a value in a column has it there, and its own values in others
pub record RowsTakeValues (columns : Columns) (name : Name) (type : Ty) (value : Val) (row : Row) : Type 0 where
  pub own : value_in (with_column columns name type) name (row_with columns name value row) ≡ value
  pub others : (other : Name) → same_name other name ≡ false → value_in (with_column columns name type) other (row_with columns name value row) ≡ value_in columns other row

-- so has each row of a frame, of a column of as many values
pub record FramesTakeColumns : Type 0 where
  pub row : (columns : Columns) (name : Name) (type : Ty) (value : Val) (row : Row) → length row ≡ length columns → RowsTakeValues columns name type value row
  pub rows : (s : Series) (frame : Frame) → length s.values ≡ length frame.rows
      → stacked (s ∷ []) frame ≡ Done (record { schema = with_column frame.schema s.name s.type; rows = map (λ pair. row_with frame.schema s.name pair.0 pair.1) (zip s.values frame.rows) })

-- what stands beside true values, of as many
abbrev pub beside_true : {A : Type 0} → List Val → List A → List A
beside_true truths items = map (λ pair. pair.1) (filter (λ pair. is_true pair.0) (zip truths items))

-- a filter keeps these
pub record FiltersKeepTrue (truths : List Val) : Type 0 where
  pub values : (values : List Val) → length values ≡ length truths → filter_values values truths ≡ Done (beside_true truths values)
  pub rows : (frame : Frame) → length frame.rows ≡ length truths → kept_rows frame truths ≡ Done (record { schema = frame.schema; rows = beside_true truths frame.rows })

-- ---- shifts and orders

-- a shifted column has as many values: down, those in front stand behind others in place of the last, and up the other way
pub record ShiftsMoveValues (fill : Val) : Type 0 where
  pub as_many : (values found : List Val) (count : Val) → shift_values (values ∷ (count ∷ []) ∷ (fill ∷ []) ∷ []) ≡ Done found → length found ≡ length values
  pub down : (front back : List Val) → shifted (front ++ back) (IntValue (pos (length back))) fill ≡ replicate (length back) fill ++ front
  pub up : (first : Val) (front back : List Val) → shifted (first ∷ front ++ back) (IntValue (negsuc (length front))) fill ≡ back ++ replicate (suc (length front)) fill

-- of two values of a kind neither of which is less than the other both are one: texts have the same bytes
pub record OneIsLess : Type 0 where
  pub truths : (left right : Bool) → is_less (TruthValue left) (TruthValue right) ≡ false → is_less (TruthValue right) (TruthValue left) ≡ false → left ≡ right
  pub numbers : (left right : ℤ) → is_less (IntValue left) (IntValue right) ≡ false → is_less (IntValue right) (IntValue left) ≡ false → left ≡ right
  pub texts : (left right : List ℕ) → is_less (TextValue left) (TextValue right) ≡ false → is_less (TextValue right) (TextValue left) ≡ false → encode_utf8_all left ≡ encode_utf8_all right
