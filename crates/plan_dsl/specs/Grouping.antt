-- What a node makes of groups of a frame's rows.
-- Each row stands beside its keys, of which a column has a value for each row, or a single one that is repeated. The
-- frame has a row for each group: its keys, then what each aggregate gives on the group's rows. That is its one value, or
-- the list of its values where it may have many. Where there are no rows there are no groups, and no aggregate is evaluated.
use Rattle.std.specs.Prelude.{ℕ, List, [], ◌∷◌, ◌++◌, map, length, Option, Some, None, Bool, true, false, Result, Ok, Err}
use Rattle.plan_types.specs.Schemas.{Name, Columns}
use Rattle.plan_types.specs.Values.{Val, ListValue}
use Rattle.plan_types.specs.ValueViews.{values_from}
use Rattle.plan_types.specs.Outcomes.{Outcome, Done, Stuck, then_do}
use Rattle.plan_types.specs.Frames.{Row, Frame, row_numbers}
use Rattle.plan_types.specs.declared.error.ErrorKind.{ErrorKind}
use Rattle.plan_dsl.specs.Typing.{Typed}
use Rattle.plan_dsl.specs.Kernels.{key_rows}
use Rattle.plan_dsl.specs.Groups.{Group, groups}
use Rattle.plan_dsl.specs.PlanRules.{type_in_groups}
use Rattle.plan_dsl.specs.Evaluations.{Evaluated, Series, all_series, series_columns}

-- what an aggregate's values are in a group: the list of them where there may be many, else the only one
abbrev pub group_value : Bool → List Val → Outcome Val
group_value true values = Done (ListValue (values_from values))
group_value false (value ∷ []) = Done value
group_value false values = Stuck

abbrev pub value_typed : Result Typed ErrorKind → Outcome (List Val) → Outcome Val
value_typed (Err kind) given = Stuck
value_typed (Ok typed) given = then_do given (group_value typed.many)

-- what each of some aggregates gives on a group's rows
abbrev pub group_values : List Evaluated → List ℕ → Outcome Row
group_values [] rows = Done []
group_values (e ∷ es) rows = then_do (value_typed e.typing (e.gives rows)) (λ value. then_do (group_values es rows) (λ values. Done (value ∷ values)))

-- a row for each group: its keys, then what the aggregates give
abbrev pub group_rows : List Evaluated → List (Group ℕ) → Outcome (List Row)
group_rows aggs [] = Done []
group_rows aggs (group ∷ others) = then_do (group_values aggs group.items) (λ values. then_do (group_rows aggs others) (λ rows. Done ((group.key ++ values) ∷ rows)))

abbrev pub column_before : Name → Result Typed ErrorKind → Option Columns → Option Columns
column_before name (Err kind) rest = None
column_before name (Ok typed) None = None
column_before name (Ok typed) (Some columns) = Some ((name, type_in_groups typed) ∷ columns)

-- the columns of aggregates in groups, where each has a type
abbrev pub columns_in_groups : List Evaluated → Option Columns
columns_in_groups [] = Some []
columns_in_groups (e ∷ es) = column_before e.name e.typing (columns_in_groups es)

-- the frame of groups, with these columns of keys and of aggregates
abbrev pub group_frame : Columns → Option Columns → List Evaluated → List (Group ℕ) → Outcome Frame
group_frame keys None aggs found = Stuck
group_frame keys (Some columns) aggs found = then_do (group_rows aggs found) (λ rows. Done (record { schema = keys ++ columns; rows = rows }))

-- that of a frame's rows beside columns of keys
abbrev pub grouped_by : List Series → List Evaluated → Frame → Outcome Frame
grouped_by keys aggs frame =
    then_do (key_rows (length frame.rows) (map (λ key. key.values) keys)) (λ rows. group_frame (series_columns keys) (columns_in_groups aggs) aggs (groups rows (row_numbers frame)))

-- the frame of a frame's groups by keys
abbrev pub grouped_on : List Evaluated → List Evaluated → Frame → Outcome Frame
grouped_on keys aggs frame = then_do (all_series (row_numbers frame) keys) (λ columns. grouped_by columns aggs frame)
