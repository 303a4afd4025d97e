-- A plan's node over frames of the schemas of its inputs gives a frame of its own schema.
use Rattle.std.proofs.Common.{◌≡◌, ℕ, List, [], ◌∷◌, ◌++◌, map, slice_get, Option, Some, None, true, false, ◌||◌, ◌==◌, length, cond, IsTrue, Result, Ok, Err, refl, sym, ap, ◌∙◌, subst}
use Rattle.std.specs.List.{AllByRecursion, flat_map, list_all}
use Rattle.std.specs.Option.{option_map, option_map_or}
use Rattle.std.proofs.lemmas.Bool.{and_parts, or_parts}
use Rattle.std.proofs.lemmas.Cmp.{nat_list_eq_equiv}
use Rattle.std.proofs.lemmas.List.{map-append}
use Rattle.plan_types.specs.Types.{Ty, same_type}
use Rattle.plan_types.specs.TypeLaws.{same_type_exact}
use Rattle.plan_types.specs.Schemas.{Name, Columns, same_name, type_at, with_column, IsNewName, HasDistinctNames, is_among, repeats, names_of}
use Rattle.plan_types.specs.Values.{Val, fits, all_fit}
use Rattle.plan_types.specs.Outcomes.{Outcome, Done, Fault, then_do, Meets}
use Rattle.plan_types.specs.Frames.{Row, Frame, RowFits, HasNoRowsWithoutColumns, IsFrame, IsFrameOf, value_in, empty_frame, row_numbers}
use Rattle.plan_types.specs.declared.error.ErrorKind.{ErrorKind}
use Rattle.plan_types.specs.declared.error.ErrorKind.TheVariants.{Duplicate}
use Rattle.plan_types.proofs.SchemaLemmas.{IsNewName-head, IsNewName-tail, distinct_from_test, test_from_distinct}
use Rattle.plan_types.proofs.ValueLemmas.{meets_then, value_in_fits}
use Rattle.plan_dsl.specs.Registry.{Registry}
use Rattle.plan_dsl.specs.Trees.{Trees, node, no_more, more, fold_all}
use Rattle.plan_dsl.specs.Ops.{Expression}
use Rattle.plan_dsl.specs.Plans.{Named, Work, SelectWork, HStackWork, GroupByWork, FilterWork, SimpleProjectionWork, SliceWork, SortWork, DistinctWork, PassWork, FunctionWork, PlanKind, ScanKind, OverKind, PlanOp, Plan, Scan, expressions_of, own_scans, scans_in}
use Rattle.plan_dsl.specs.Literals.{settled}
use Rattle.plan_dsl.specs.Typing.{Typed, typing}
use Rattle.plan_dsl.specs.Kernels.{stretched, at_length, for_rows, in_front, key_rows}
use Rattle.plan_dsl.specs.Picks.{is_true, where_true}
use Rattle.plan_dsl.specs.PlanKernels.{Evaluated, Evaluation, Series, series_typed, series_on, all_series, shared_length, rows_of, series_columns, framed, selected_on, table_frame, scanned, gives_nothing, work_frame, over_frame, frame_by, plan_kernel, row_with, rows_with, frame_with_column, stacked, hstacked_on, kept_rows, filtered_on, row_in, projected_on}
use Rattle.plan_dsl.specs.Groups.{Group, groups}
use Rattle.plan_dsl.specs.Grouping.{value_typed, group_value, group_values, group_rows, column_before, columns_in_groups, group_frame, grouped_by, grouped_on}
use Rattle.plan_dsl.specs.PlanRules.{broken_kinds, expression_kinds, scan_kinds, key_kinds, name_kinds, names_in, type_kinds, typed_kinds, list_type_kinds, all_type_kinds, work_kinds, type_in_groups, stands_in, projection_kinds, TypedOutput, output_before, typed_outputs, list_before, typed_lists, columns_of, aggregate_columns, with_columns, work_schema, schema_by, plan_rule, schema_of, schemas_of, IsWellFormed, AllWellFormed}
use Rattle.plan_dsl.specs.TableFrames.{function_frame}
use Rattle.plan_dsl.specs.TableFunctions.{TableFunction, RowIndexFunction, ExplodeFunction, UnpivotFunction, RenameFunction, UnnestFunction}
use Rattle.plan_dsl.specs.TableRules.{function_kinds, function_schema}
use Rattle.plan_dsl.specs.PlanMeaning.{by_meaning, source_meaning, HasTable, HasTables, FitsPlan, MeetsWhere}
use Rattle.plan_dsl.specs.Laws.{AreOf, MeaningHasSchema, OwnColumnsGiveTheFrame}
use Rattle.plan_dsl.specs.WorkLaws.{IsGiven, AreGiven, ListsAreGiven, output_names, kinds_of_types, KeepsFrames, NothingHasNoColumns}
use Rattle.plan_dsl.proofs.ColumnLemmas.{stretched_fits}
use Rattle.plan_dsl.proofs.ExplodeLemmas.{explode_keeps}
use Rattle.plan_dsl.proofs.FitLemmas.{meaning_has_type}
use Rattle.plan_dsl.proofs.GroupingLemmas.{groups_have, rows_joined_fit, group_value_fits}
use Rattle.plan_dsl.proofs.RowFitLemmas.{rows_in_front, bare_rows, without_columns}
use Rattle.plan_dsl.proofs.RowWorkLemmas.{sliced_frame, sorted_frame, distinct_frame}
use Rattle.plan_dsl.proofs.TableLemmas.{index_keeps, rename_keeps}
use Rattle.plan_dsl.proofs.UnnestLemmas.{unnest_keeps}
use Rattle.plan_dsl.proofs.UnpivotLemmas.{unpivot_keeps}
use Rattle.plan_dsl.proofs.RuleLemmas.{unbroken_kinds, unbroken_schema, no_front, no_tail, not_repeated, scan_distinct, projection_stands, projection_distinct, well_formed_schema}

-- each input has a schema, and gives a frame of it unless there is a fault
abbrev pub AllMeet : List (Option Columns) → List (Outcome Frame) → Type 0
AllMeet [] [] = Unit {0}
AllMeet [] (outcome ∷ outcomes) = ⊥
AllMeet (schema ∷ schemas) [] = ⊥
AllMeet (schema ∷ schemas) (outcome ∷ outcomes) = MeetsWhere schema outcome × AllMeet schemas outcomes

-- of no inputs nothing is given, and of one there is one outcome
no_outcome : (outcomes : List (Outcome Frame)) → AllMeet [] outcomes → outcomes ≡ []
no_outcome [] h = refl
no_outcome (o ∷ os) h = absurd h

only_outcome : (schema : Option Columns) (outcomes : List (Outcome Frame)) → AllMeet (schema ∷ []) outcomes → (o : Outcome Frame) × (outcomes ≡ o ∷ []) × MeetsWhere schema o
only_outcome schema (o ∷ []) h = (o, refl, h.0)
only_outcome schema [] h = absurd h
only_outcome schema (o ∷ p ∷ os) h = absurd h.1

-- tables that have what two lists of scans ask for
pub front_tables : (tables : List Frame) (xs ys : List Scan) → HasTables tables (xs ++ ys) → HasTables tables xs
front_tables tables [] ys h = tt
front_tables tables (x ∷ xs) ys h = (h.0, front_tables tables xs ys h.1)

pub back_tables : (tables : List Frame) (xs ys : List Scan) → HasTables tables (xs ++ ys) → HasTables tables ys
back_tables tables [] ys h = h
back_tables tables (x ∷ xs) ys h = back_tables tables xs ys h.1

pub all_tables : (tables : List Frame) (xs ys : List Scan) → HasTables tables xs → HasTables tables ys → HasTables tables (xs ++ ys)
all_tables tables [] ys h k = k
all_tables tables (x ∷ xs) ys h k = (h.0, all_tables tables xs ys h.1 k)

-- the tables that plans side by side scan
abbrev pub scans_below : Trees (PlanOp (Named Expression)) → List Scan
scans_below inputs = flat_map (λ scans. scans) (fold_all (λ op below. own_scans op.kind ++ flat_map (λ scans. scans) below) inputs)

-- what a node over one input asks for that scans no table itself
pub fits_input : (tables : List Frame) (op : PlanOp (Named Expression)) (input : Plan) → FitsPlan tables (node op (more input no_more)) → FitsPlan tables input
fits_input tables op input h = front_tables tables (scans_in input) [] (back_tables tables (own_scans op.kind) (scans_in input ++ []) h)

pub fits_over : (tables : List Frame) (op : PlanOp (Named Expression)) (input : Plan) → own_scans op.kind ≡ [] → FitsPlan tables input → FitsPlan tables (node op (more input no_more))
fits_over tables op input none h = subst (λ scans. HasTables tables (scans ++ (scans_in input ++ []))) (sym none) (all_tables tables (scans_in input) [] h tt)

abbrev FitsSeries : Series → Type 0
FitsSeries s = IsTrue (all_fit s.values s.type)

-- rows of fitting columns fit
rows_fit : (count : ℕ) (ss : List Series) → AllByRecursion FitsSeries ss → AllByRecursion (RowFits (series_columns ss)) (rows_of count ss)
rows_fit count [] h = bare_rows count
rows_fit count (s ∷ ss) h = rows_in_front (series_columns ss) s.name s.type (stretched count s.values) (rows_of count ss) (stretched_fits count s.values s.type h.0) (rows_fit count ss h.1)

-- fitting columns of a schema
record AreSeriesOf (schema : Columns) (ss : List Series) : Type 0 where
  columns : series_columns ss ≡ schema
  fitting : AllByRecursion FitsSeries ss

-- they make a frame of it, where it has a column and distinct names
framed_meets : (schema : Columns) (ss : List Series) → HasDistinctNames schema → ¬ (schema ≡ []) → AreSeriesOf schema ss → Meets (IsFrameOf schema) (framed ss)
framed_meets schema [] distinct some h = absurd (some (sym h.columns))
framed_meets schema (s ∷ ss) distinct some h =
    elim (shared_length (s ∷ ss)) as (λ o. Meets (IsFrameOf schema) (at_length o (λ count. record { schema = series_columns (s ∷ ss); rows = rows_of count (s ∷ ss) }))) [
      | None ↦ tt
      | Some count ↦ record {
        schema_is = h.columns;
        frame_is = record { distinct = subst HasDistinctNames (sym h.columns) distinct; fitting = rows_fit count (s ∷ ss) h.fitting; bare = tt };
      }
    ]

-- a fitting column of an output
record IsSeriesOf (o : TypedOutput) (s : Series) : Type 0 where
  name : s.name ≡ o.name
  type : s.type ≡ o.typed.type
  fitting : FitsSeries s

-- one more column
one_more : (rest : Columns) (o : TypedOutput) (s : Series) (ss : List Series) → IsSeriesOf o s → AreSeriesOf rest ss → AreSeriesOf ((o.name, o.typed.type) ∷ rest) (s ∷ ss)
one_more rest o s ss h k = record {
  columns = (λ i. (h.name i, h.type i) ∷ k.columns i);
  fitting = (h.fitting, k.fitting);
}

absurd_none : {A : Type 0} (x : A) → ¬ (None ≡ Some x)
absurd_none x h = cc

some_same : {A : Type 0} (x y : A) → Some x ≡ Some y → x ≡ y
some_same x y h = cc

-- what an expression gives is a column of its type
series_given : (rows : List ℕ) (o : TypedOutput) (e : Evaluated) → IsGiven o e → Meets (IsSeriesOf o) (series_on rows e)
series_given rows o e h =
    let there = meets_then (AreOf o.typed) (IsSeriesOf o) (e.gives rows) (λ values. Done (record { name = e.name; type = o.typed.type; values = values })) (h.gives rows) (λ values k. record { name = h.name; type = refl; fitting = k.fitting }) in
    subst (λ t. Meets (IsSeriesOf o) (series_typed e.name t (e.gives rows))) (sym h.typing) there

-- so are those of expressions one by one
series_meet : (rows : List ℕ) (os : List TypedOutput) (es : List Evaluated) → AreGiven os es → Meets (AreSeriesOf (columns_of os)) (all_series rows es)
series_meet rows [] [] h = record { columns = refl; fitting = tt }
series_meet rows (o ∷ os) (e ∷ es) h =
    let Are : List Series → Type 0 = AreSeriesOf (columns_of (o ∷ os)) in
    meets_then (IsSeriesOf o) Are (series_on rows e) (λ s. then_do (all_series rows es) (λ ss. Done (s ∷ ss))) (series_given rows o e h.0) (λ s is.
    meets_then (AreSeriesOf (columns_of os)) Are (all_series rows es) (λ ss. Done (s ∷ ss)) (series_meet rows os es h.1) (λ ss are. one_more (columns_of os) o s ss is are))
series_meet rows [] (e ∷ es) h = absurd h
series_meet rows (o ∷ os) [] h = absurd h

no_rows : (own : Columns) → HasNoRowsWithoutColumns own []
no_rows [] = refl
no_rows (c ∷ cs) = tt

frame_of_same : (own schema : Columns) (frame : Frame) → own ≡ schema → IsFrameOf own frame → IsFrameOf schema frame
frame_of_same own schema frame e h = record { schema_is = h.schema_is ∙ e; frame_is = h.frame_is }

-- a table that is there
found_meets : (own schema : Columns) (found : Option Frame) → own ≡ schema → HasTable own found → Meets (IsFrameOf schema) (table_frame found)
found_meets own schema None e h = absurd h
found_meets own schema (Some frame) e h = frame_of_same own schema frame e h

-- the empty table of a schema
empty_meets : (own schema : Columns) → own ≡ schema → HasDistinctNames own → IsFrameOf schema (record { schema = own; rows = [] })
empty_meets own schema e distinct = record {
  schema_is = e;
  frame_is = record { distinct = distinct; fitting = tt; bare = no_rows own };
}

-- a column that is put in leaves the names distinct
other_is_new : (cs : Columns) (name other : Name) (type : Ty) → IsNewName cs other → same_name other name ≡ false → IsNewName (with_column cs name type) other
other_is_new [] name other type new apart = ap (λ b. cond b (Some type) None) apart
other_is_new (c ∷ cs) name other type new apart =
    let head = IsNewName-head c cs other new in
    let tail = IsNewName-tail c cs other new in
    elim (same_name name c.0) as (λ b. IsNewName (cond b ((c.0, type) ∷ cs) (c ∷ with_column cs name type)) other) [ true ↦ ap (λ b. cond b (Some type) (type_at cs other)) head ∙ tail | false ↦ ap (λ b. cond b (Some c.1) (type_at (with_column cs name type) other)) head ∙ other_is_new cs name other type tail apart ]

distinct_with : (cs : Columns) (name : Name) (type : Ty) → HasDistinctNames cs → HasDistinctNames (with_column cs name type)
distinct_with [] name type h = (refl, tt)
distinct_with (c ∷ cs) name type h =
    elim (same_name name c.0) as (λ b. same_name name c.0 ≡ b → HasDistinctNames (cond b ((c.0, type) ∷ cs) (c ∷ with_column cs name type))) [ true ↦ λ e. h | false ↦ λ e. (other_is_new cs name c.0 type h.0 (nat_list_eq_equiv.symm c.0 name ∙ e), distinct_with cs name type h.1) ] refl

-- and rows with a fitting value in it fit
row_with_fits : (cs : Columns) (name : Name) (type : Ty) (value : Val) (row : Row) → IsTrue (fits value type) → RowFits cs row → RowFits (with_column cs name type) (row_with cs name value row)
row_with_fits [] name type value row h k = (h, tt)
row_with_fits (c ∷ cs) name type value [] h k = absurd k
row_with_fits (c ∷ cs) name type value (first ∷ row) h k =
    elim (same_name name c.0) as (λ b. RowFits (cond b ((c.0, type) ∷ cs) (c ∷ with_column cs name type)) (cond b (value ∷ row) (first ∷ row_with cs name value row))) [ true ↦ (h, k.1) | false ↦ (k.0, row_with_fits cs name type value row h k.1) ]

rows_with_fit : (cs : Columns) (name : Name) (type : Ty) (values : List Val) (rows : List Row) → IsTrue (all_fit values type) → AllByRecursion (RowFits cs) rows → AllByRecursion (RowFits (with_column cs name type)) (rows_with cs name values rows)
rows_with_fit cs name type [] rows h k = tt
rows_with_fit cs name type (value ∷ values) [] h k = tt
rows_with_fit cs name type (value ∷ values) (row ∷ rows) h k =
    let parts = and_parts (fits value type) (all_fit values type) h in (row_with_fits cs name type value row parts.0 k.0, rows_with_fit cs name type values rows parts.1 k.1)

has_a_column : (cs : Columns) (name : Name) (type : Ty) (rows : List Row) → HasNoRowsWithoutColumns (with_column cs name type) rows
has_a_column [] name type rows = tt
has_a_column (c ∷ cs) name type rows =
    elim (same_name name c.0) as (λ b. HasNoRowsWithoutColumns (cond b ((c.0, type) ∷ cs) (c ∷ with_column cs name type)) rows) [ true ↦ tt | false ↦ tt ]

column_in_frame : (schema : Columns) (frame : Frame) (name : Name) (type : Ty) (values : List Val) → IsFrameOf schema frame → IsTrue (all_fit values type) → IsFrameOf (with_column schema name type) (frame_with_column frame name type values)
column_in_frame schema frame name type values h fit = record {
  schema_is = ap (λ cs. with_column cs name type) h.schema_is;
  frame_is = record {
    distinct = distinct_with frame.schema name type h.frame_is.distinct;
    fitting = rows_with_fit frame.schema name type values frame.rows fit h.frame_is.fitting;
    bare = has_a_column frame.schema name type (rows_with frame.schema name values frame.rows);
  };
}

-- fitting columns that are put into a frame give one of its columns with theirs, or a length is a fault
stacked_meets : (schema : Columns) (ss : List Series) (frame : Frame) → IsFrameOf schema frame → AllByRecursion FitsSeries ss → Meets (IsFrameOf (with_columns schema (series_columns ss))) (stacked ss frame)
stacked_meets schema [] frame h k = h
stacked_meets schema (s ∷ ss) frame h k =
    let count = length frame.rows in
    let put = column_in_frame schema frame s.name s.type (stretched count s.values) h (stretched_fits count s.values s.type k.0) in
    elim (length s.values == count || length s.values == 1) as (λ b. Meets (IsFrameOf (with_columns schema (series_columns (s ∷ ss)))) (then_do (cond b (Done (stretched count s.values)) Fault) (λ each. stacked ss (frame_with_column frame s.name s.type each)))) [ true ↦ stacked_meets (with_column schema s.name s.type) ss (frame_with_column frame s.name s.type (stretched count s.values)) put k.1 | false ↦ tt ]

-- rows that are kept still fit
kept_fit : (columns : Columns) (values : List Val) (rows : List Row) → AllByRecursion (RowFits columns) rows → AllByRecursion (RowFits columns) (where_true values rows)
kept_fit columns [] rows h = tt
kept_fit columns (value ∷ values) [] h = tt
kept_fit columns (value ∷ values) (row ∷ rows) h =
    let rest = kept_fit columns values rows h.1 in
    elim (is_true value) as (λ b. AllByRecursion (RowFits columns) (cond b (row ∷ where_true values rows) (where_true values rows))) [ true ↦ (h.0, rest) | false ↦ rest ]

kept_of_none : (values : List Val) → where_true {A = Row} values [] ≡ []
kept_of_none [] = refl
kept_of_none (value ∷ values) = refl

kept_bare : (columns : Columns) (values : List Val) (rows : List Row) → HasNoRowsWithoutColumns columns rows → HasNoRowsWithoutColumns columns (where_true values rows)
kept_bare [] values rows h = ap (where_true values) h ∙ kept_of_none values
kept_bare (c ∷ cs) values rows h = tt

kept_frame : (schema : Columns) (frame : Frame) (values : List Val) → IsFrameOf schema frame → IsFrameOf schema (record { schema = frame.schema; rows = where_true values frame.rows })
kept_frame schema frame values h = record {
  schema_is = h.schema_is;
  frame_is = record {
    distinct = h.frame_is.distinct;
    fitting = kept_fit frame.schema values frame.rows h.frame_is.fitting;
    bare = kept_bare frame.schema values frame.rows h.frame_is.bare;
  };
}

-- they are a frame of the same columns, or their number is a fault
kept_meets : (schema : Columns) (frame : Frame) (values : List Val) → IsFrameOf schema frame → Meets (IsFrameOf schema) (kept_rows frame values)
kept_meets schema frame values h =
    let count = length frame.rows in
    elim (length values == count || length values == 1) as (λ b. Meets (IsFrameOf schema) (then_do (cond b (Done (stretched count values)) Fault) (λ each. Done (record { schema = frame.schema; rows = where_true each frame.rows })))) [ true ↦ kept_frame schema frame (stretched count values) h | false ↦ tt ]

-- a column that stands with its type is found under its name
found_type : (column : Name × Ty) (found : Option Ty) → option_map_or (same_type column.1) found false ≡ true → found ≡ Some column.1
found_type column None h = cc
found_type column (Some type) h = ap Some (sym (same_type_exact column.1 type h))

-- so a row that fits columns, in others that stand among them, fits these
row_in_fits : (schema columns : Columns) (row : Row) → list_all (stands_in schema) columns ≡ true → RowFits schema row → RowFits columns (row_in schema columns row)
row_in_fits schema [] row h k = tt
row_in_fits schema (c ∷ cs) row h k =
    let parts = and_parts (stands_in schema c) (list_all (stands_in schema) cs) h in
    let found = found_type c (type_at schema c.0) parts.0 in
    (value_in_fits schema c.0 row c.1 k found, row_in_fits schema cs row parts.1 k)

rows_in_fit : (schema columns : Columns) (rows : List Row) → list_all (stands_in schema) columns ≡ true → AllByRecursion (RowFits schema) rows → AllByRecursion (RowFits columns) (map (row_in schema columns) rows)
rows_in_fit schema columns [] h k = tt
rows_in_fit schema columns (row ∷ rows) h k = (row_in_fits schema columns row h k.0, rows_in_fit schema columns rows h k.1)

-- a row in its own columns is that row
row_behind : (c : Name × Ty) (value : Val) (cs xs : Columns) (row : Row) → is_among c.0 (names_of xs) ≡ false → row_in (c ∷ cs) xs (value ∷ row) ≡ row_in cs xs row
row_behind c value cs [] row apart = refl
row_behind c value cs (x ∷ xs) row apart =
    let parts = or_parts (same_name c.0 x.0) _ apart in
    let first = ap (λ b. cond b value (value_in cs x.0 row)) (nat_list_eq_equiv.symm x.0 c.0 ∙ parts.0) in
    let later = row_behind c value cs xs row parts.1 in
    λ i. first i ∷ later i

own_row : (cs : Columns) (row : Row) → repeats (names_of cs) ≡ false → RowFits cs row → row_in cs cs row ≡ row
own_row [] [] distinct h = refl
own_row [] (value ∷ row) distinct h = absurd h
own_row (c ∷ cs) [] distinct h = absurd h
own_row (c ∷ cs) (value ∷ row) distinct h =
    let parts = or_parts (is_among c.0 (names_of cs)) _ distinct in
    let first = ap (λ b. cond b value (value_in cs c.0 row)) (nat_list_eq_equiv.refl c.0) in
    let later = row_behind c value cs cs row parts.0 ∙ own_row cs row parts.1 h.1 in
    λ i. first i ∷ later i

own_rows : (cs : Columns) (rows : List Row) → repeats (names_of cs) ≡ false → AllByRecursion (RowFits cs) rows → map (row_in cs cs) rows ≡ rows
own_rows cs [] distinct h = refl
own_rows cs (row ∷ rows) distinct h =
    let first = own_row cs row distinct h.0 in
    let later = own_rows cs rows distinct h.1 in
    λ i. first i ∷ later i

abbrev frame_of : Columns → List Row → Frame
frame_of cs rows = record { schema = cs; rows = rows }

own_columns : (evaluate : Evaluation) (cs : Columns) (rows : List Row) → IsFrame (frame_of cs rows) → over_frame evaluate (SimpleProjectionWork cs) [] (Done (frame_of cs rows)) ≡ Done (frame_of cs rows)
own_columns evaluate [] rows h = ap (λ each. Done (frame_of [] each)) (sym h.bare)
own_columns evaluate (c ∷ cs) rows h = ap (λ each. Done (frame_of (c ∷ cs) each)) (own_rows (c ∷ cs) rows (test_from_distinct (c ∷ cs) h.distinct) h.fitting)

pub own_columns_give_the_frame : OwnColumnsGiveTheFrame
own_columns_give_the_frame evaluate frame h = own_columns evaluate frame.schema frame.rows h

projected_frame : (under : Columns) (c : Name × Ty) (cs : Columns) (frame : Frame) → projection_kinds under (c ∷ cs) ≡ [] → IsFrameOf under frame → IsFrameOf (c ∷ cs) (projected_on (c ∷ cs) frame)
projected_frame under c cs frame none h =
    let stand = subst (λ s. list_all (stands_in s) (c ∷ cs) ≡ true) (sym h.schema_is) (projection_stands under (c ∷ cs) none) in
    record {
      schema_is = refl;
      frame_is = record { distinct = projection_distinct under (c ∷ cs) none; fitting = rows_in_fit frame.schema (c ∷ cs) frame.rows stand h.frame_is.fitting; bare = tt };
    }

-- columns of keys make rows that fit, or a length is a fault
for_rows_fit : (count : ℕ) (values : List Val) (type : Ty) → IsTrue (all_fit values type) → Meets (λ column. IsTrue (all_fit column type)) (for_rows count values)
for_rows_fit count values type h =
    elim (length values == count || length values == 1) as (λ b. Meets (λ column. IsTrue (all_fit column type)) (cond b (Done (stretched count values)) Fault)) [ true ↦ stretched_fits count values type h | false ↦ tt ]

key_rows_fit : (count : ℕ) (ss : List Series) → AllByRecursion FitsSeries ss → Meets (AllByRecursion (RowFits (series_columns ss))) (key_rows count (map (λ s. s.values) ss))
key_rows_fit count [] h = bare_rows count
key_rows_fit count (s ∷ ss) h =
    let later = key_rows count (map (λ (x : Series). x.values) ss) in
    let Fit : List Row → Type 0 = AllByRecursion (RowFits (series_columns (s ∷ ss))) in
    meets_then (λ column. IsTrue (all_fit column s.type)) Fit (for_rows count s.values) (λ column. then_do later (λ rows. Done (in_front column rows))) (for_rows_fit count s.values s.type h.0) (λ column k.
    meets_then (AllByRecursion (RowFits (series_columns ss))) Fit later (λ rows. Done (in_front column rows)) (key_rows_fit count ss h.1) (λ rows fit. rows_in_front (series_columns ss) s.name s.type column rows k fit))

has_columns : (cs : Columns) (rows : List Row) → ¬ (cs ≡ []) → HasNoRowsWithoutColumns cs rows
has_columns [] rows some = absurd (some refl)
has_columns (c ∷ cs) rows some = tt

some_front : (cs ds : Columns) → ¬ (cs ≡ []) → ¬ (cs ++ ds ≡ [])
some_front [] ds some e = some refl
some_front (c ∷ cs) ds some e = cc

-- aggregates have the same columns in groups by what they are on a frame
columns_given : (os : List TypedOutput) (es : List Evaluated) → AreGiven os es → columns_in_groups es ≡ Some (aggregate_columns os)
columns_given [] [] h = refl
columns_given (o ∷ os) (e ∷ es) h =
    let name = h.0.name in
    let typing = h.0.typing in
    let later = columns_given os es h.1 in
    λ i. column_before (name i) (typing i) (later i)
columns_given [] (e ∷ es) h = absurd h
columns_given (o ∷ os) [] h = absurd h

-- what an aggregate gives on a group's rows is a value of its type in groups
value_given : (rows : List ℕ) (o : TypedOutput) (e : Evaluated) → IsGiven o e → Meets (λ value. IsTrue (fits value (type_in_groups o.typed))) (value_typed e.typing (e.gives rows))
value_given rows o e h =
    let Fits : Val → Type 0 = λ value. IsTrue (fits value (type_in_groups o.typed)) in
    let there = meets_then (AreOf o.typed) Fits (e.gives rows) (group_value o.typed.many) (h.gives rows) (λ values of. group_value_fits o.typed values of) in
    subst (λ t. Meets Fits (value_typed t (e.gives rows))) (sym h.typing) there

-- aggregates give values of their columns
group_values_meet : (rows : List ℕ) (os : List TypedOutput) (es : List Evaluated) → AreGiven os es → Meets (RowFits (aggregate_columns os)) (group_values es rows)
group_values_meet rows [] [] h = tt
group_values_meet rows (o ∷ os) (e ∷ es) h =
    let Fits : Val → Type 0 = λ value. IsTrue (fits value (type_in_groups o.typed)) in
    let Fit : Row → Type 0 = RowFits (aggregate_columns (o ∷ os)) in
    meets_then Fits Fit (value_typed e.typing (e.gives rows)) (λ value. then_do (group_values es rows) (λ values. Done (value ∷ values))) (value_given rows o e h.0) (λ value f.
    meets_then (RowFits (aggregate_columns os)) Fit (group_values es rows) (λ values. Done (value ∷ values)) (group_values_meet rows os es h.1) (λ values g. (f, g)))
group_values_meet rows [] (e ∷ es) h = absurd h
group_values_meet rows (o ∷ os) [] h = absurd h

module _ (os : List TypedOutput) (es : List Evaluated) (given : AreGiven os es) (keys : Columns) where
  -- and groups of fitting keys make rows that fit
  group_rows_meet : (found : List (Group ℕ)) → AllByRecursion (λ group. RowFits keys group.key) found → Meets (AllByRecursion (RowFits (keys ++ aggregate_columns os))) (group_rows es found)
  group_rows_meet [] h = tt
  group_rows_meet (group ∷ others) h =
      let columns = aggregate_columns os in
      let later = group_rows es others in
      let Fit : List Row → Type 0 = AllByRecursion (RowFits (keys ++ columns)) in
      meets_then (RowFits columns) Fit (group_values es group.items) (λ values. then_do later (λ rows. Done ((group.key ++ values) ∷ rows))) (group_values_meet group.items os es given) (λ values k.
      meets_then Fit Fit later (λ rows. Done ((group.key ++ values) ∷ rows)) (group_rows_meet others h.1) (λ rows fit. (rows_joined_fit keys columns group.key values h.0 k, fit)))

  -- so the frame of groups is one of these columns
  group_frame_meets : (found : List (Group ℕ)) → HasDistinctNames (keys ++ aggregate_columns os) → ¬ (keys ≡ []) → AllByRecursion (λ group. RowFits keys group.key) found → Meets (IsFrameOf (keys ++ aggregate_columns os)) (group_frame keys (columns_in_groups es) es found)
  group_frame_meets found distinct some h =
      let columns = aggregate_columns os in
      let Is : Outcome Frame → Type 0 = Meets (IsFrameOf (keys ++ columns)) in
      subst (λ o. Is (group_frame keys o es found)) (sym (columns_given os es given)) (
      meets_then (AllByRecursion (RowFits (keys ++ columns))) (IsFrameOf (keys ++ columns)) (group_rows es found) (λ rows. Done (record { schema = keys ++ columns; rows = rows })) (group_rows_meet found h) (λ rows fit. record {
        schema_is = refl;
        frame_is = record { distinct = distinct; fitting = fit; bare = has_columns (keys ++ columns) rows (some_front keys columns some) };
      }))

  -- of the groups that columns of keys make of a frame's rows
  grouped_by_meets : (frame : Frame) (ss : List Series) → AreSeriesOf keys ss → HasDistinctNames (keys ++ aggregate_columns os) → ¬ (keys ≡ []) → Meets (IsFrameOf (keys ++ aggregate_columns os)) (grouped_by ss es frame)
  grouped_by_meets frame ss h distinct some =
      let columns = aggregate_columns os in
      let rows_of_keys = subst (λ cs. Meets (AllByRecursion (RowFits cs)) (key_rows (length frame.rows) (map (λ s. s.values) ss))) h.columns (key_rows_fit (length frame.rows) ss h.fitting) in
      let made = meets_then (AllByRecursion (RowFits keys)) (IsFrameOf (keys ++ columns)) (key_rows (length frame.rows) (map (λ s. s.values) ss)) (λ rows. group_frame keys (columns_in_groups es) es (groups rows (row_numbers frame))) rows_of_keys (λ rows fit. group_frame_meets (groups rows (row_numbers frame)) distinct some (groups_have (RowFits keys) rows (row_numbers frame) fit)) in
      subst (λ cs. Meets (IsFrameOf (keys ++ columns)) (then_do (key_rows (length frame.rows) (map (λ s. s.values) ss)) (λ rows. group_frame cs (columns_in_groups es) es (groups rows (row_numbers frame))))) (sym h.columns) made

-- ---- works, one by one

column_names : (os : List TypedOutput) → names_of (columns_of os) ≡ output_names os
column_names [] = refl
column_names (o ∷ os) = ap (λ l. o.name ∷ l) (column_names os)

aggregate_names : (os : List TypedOutput) → names_of (aggregate_columns os) ≡ output_names os
aggregate_names [] = refl
aggregate_names (o ∷ os) = ap (λ l. o.name ∷ l) (aggregate_names os)

columns_distinct : (kind : ErrorKind) (os : List TypedOutput) → name_kinds kind (output_names os) ≡ [] → HasDistinctNames (columns_of os)
columns_distinct kind os none = distinct_from_test (columns_of os) (ap repeats (column_names os) ∙ not_repeated (repeats (output_names os)) kind none)

some_column : (o : TypedOutput) (os : List TypedOutput) → ¬ (columns_of (o ∷ os) ≡ [])
some_column o os e = cc

select_keeps : (schema : Columns) (frame : Frame) (os : List TypedOutput) (es : List Evaluated) → AreGiven os es → name_kinds Duplicate (output_names os) ≡ [] → gives_nothing SelectWork (output_names os ∷ []) ≡ false → Meets (IsFrameOf (columns_of os)) (selected_on es (row_numbers frame))
select_keeps schema frame [] es given none some = absurd cc
select_keeps schema frame (o ∷ os) es given none some =
    meets_then (AreSeriesOf (columns_of (o ∷ os))) (IsFrameOf (columns_of (o ∷ os))) (all_series (row_numbers frame) es) framed (series_meet (row_numbers frame) (o ∷ os) es given) (λ ss. framed_meets (columns_of (o ∷ os)) ss (columns_distinct Duplicate (o ∷ os) none) (some_column o os))

hstack_keeps : (schema : Columns) (frame : Frame) (os : List TypedOutput) (es : List Evaluated) → IsFrameOf schema frame → AreGiven os es → Meets (IsFrameOf (with_columns schema (columns_of os))) (hstacked_on es frame)
hstack_keeps schema frame os es h given =
    let Is : Frame → Type 0 = IsFrameOf (with_columns schema (columns_of os)) in
    meets_then (AreSeriesOf (columns_of os)) Is (all_series (row_numbers frame) es) (λ ss. stacked ss frame) (series_meet (row_numbers frame) os es given) (λ ss k. subst (λ c. Meets (IsFrameOf (with_columns schema c)) (stacked ss frame)) k.columns (stacked_meets schema ss frame h k.fitting))

groups_distinct : (keys aggs : List TypedOutput) → name_kinds Duplicate (output_names keys ++ output_names aggs) ≡ [] → HasDistinctNames (columns_of keys ++ aggregate_columns aggs)
groups_distinct keys aggs none =
    let front = column_names keys in
    let behind = aggregate_names aggs in
    let names : names_of (columns_of keys ++ aggregate_columns aggs) ≡ output_names keys ++ output_names aggs = map-append (λ (c : Name × Ty). c.0) (columns_of keys) (aggregate_columns aggs) ∙ (λ i. front i ++ behind i) in
    distinct_from_test (columns_of keys ++ aggregate_columns aggs) (ap repeats names ∙ not_repeated (repeats (output_names keys ++ output_names aggs)) Duplicate none)

group_keeps : (frame : Frame) (keys aggs : List TypedOutput) (es others : List Evaluated) → AreGiven keys es → AreGiven aggs others → key_kinds (output_names keys) ++ name_kinds Duplicate (output_names keys ++ output_names aggs) ≡ [] → Meets (IsFrameOf (columns_of keys ++ aggregate_columns aggs)) (grouped_on es others frame)
group_keeps frame [] aggs es others h k none = absurd cc
group_keeps frame (key ∷ keys) aggs es others h k none =
    let own = columns_of (key ∷ keys) in
    let distinct = groups_distinct (key ∷ keys) aggs none in
    meets_then (AreSeriesOf own) (IsFrameOf (own ++ aggregate_columns aggs)) (all_series (row_numbers frame) es) (λ columns. grouped_by columns others frame) (series_meet (row_numbers frame) (key ∷ keys) es h) (λ ss s. grouped_by_meets aggs others k own frame ss s distinct (some_column key keys))

filter_keeps : (schema : Columns) (frame : Frame) (o : TypedOutput) (e : Evaluated) → IsFrameOf schema frame → IsGiven o e → Meets (IsFrameOf schema) (filtered_on e frame)
filter_keeps schema frame o e h given =
    meets_then (AreOf o.typed) (IsFrameOf schema) (e.gives (row_numbers frame)) (kept_rows frame) (given.gives (row_numbers frame)) (λ values k. kept_meets schema frame values h)

projection_keeps : (schema own : Columns) (frame : Frame) → IsFrameOf schema frame → projection_kinds schema own ≡ [] → gives_nothing (SimpleProjectionWork own) [] ≡ false → IsFrameOf own (projected_on own frame)
projection_keeps schema [] frame h none some = absurd cc
projection_keeps schema (c ∷ cs) frame h none some = projected_frame schema c cs frame none h

only_given : (os : List TypedOutput) (answers : List (List Evaluated)) → ListsAreGiven (os ∷ []) answers → (es : List Evaluated) × (answers ≡ es ∷ []) × AreGiven os es
only_given os (es ∷ []) h = (es, refl, h.0)
only_given os [] h = absurd h
only_given os (es ∷ next ∷ rest) h = absurd h.1

two_given : (os us : List TypedOutput) (answers : List (List Evaluated)) → ListsAreGiven (os ∷ us ∷ []) answers → (es : List Evaluated) × (others : List Evaluated) × (answers ≡ es ∷ others ∷ []) × AreGiven os es × AreGiven us others
two_given os us (es ∷ others ∷ []) h = (es, others, refl, h.0, h.1.0)
two_given os us [] h = absurd h
two_given os us (es ∷ []) h = absurd h.1
two_given os us (es ∷ others ∷ next ∷ rest) h = absurd h.1.1

one_given : (o : TypedOutput) (es : List Evaluated) → AreGiven (o ∷ []) es → (e : Evaluated) × (es ≡ e ∷ []) × IsGiven o e
one_given o (e ∷ []) h = (e, refl, h.0)
one_given o [] h = absurd h
one_given o (e ∷ next ∷ rest) h = absurd h.1

no_given : (answers : List (List Evaluated)) → ListsAreGiven [] answers → answers ≡ []
no_given [] h = refl
no_given (es ∷ rest) h = absurd h

-- a function that breaks no rule gives a frame of its schema, or an explode's lists are a fault
functions_keep : (function : TableFunction) (schema : Columns) (frame : Frame) → IsFrameOf schema frame → function_kinds function schema ≡ [] → Meets (IsFrameOf (function_schema function schema)) (function_frame function frame)
functions_keep (RowIndexFunction name offset) schema frame h none = index_keeps schema frame name offset h none
functions_keep (ExplodeFunction columns) schema frame h none = explode_keeps schema frame columns h
functions_keep (UnpivotFunction on index variable value) schema frame h none = unpivot_keeps schema frame on index variable value h none
functions_keep (RenameFunction existing new swapping) schema frame h none = rename_keeps schema frame existing new h none
functions_keep (UnnestFunction columns) schema frame h none = unnest_keeps schema frame columns h none

-- each work over one input keeps frames: other lists than its own break a rule
pub works_keep_frames : (work : Work) → KeepsFrames work
works_keep_frames SelectWork schema frame (os ∷ []) answers h given types none some =
    let a = only_given os answers given in
    subst (λ l. Meets (IsFrameOf (columns_of os)) (work_frame SelectWork l frame)) (sym a.1) (select_keeps schema frame os a.0 a.2 none some)
works_keep_frames HStackWork schema frame (os ∷ []) answers h given types none some =
    let a = only_given os answers given in
    subst (λ l. Meets (IsFrameOf (with_columns schema (columns_of os))) (work_frame HStackWork l frame)) (sym a.1) (hstack_keeps schema frame os a.0 h a.2)
works_keep_frames GroupByWork schema frame (keys ∷ aggs ∷ []) answers h given types none some =
    let a = two_given keys aggs answers given in
    subst (λ l. Meets (IsFrameOf (columns_of keys ++ aggregate_columns aggs)) (work_frame GroupByWork l frame)) (sym a.2) (group_keeps frame keys aggs a.0 a.1 a.3 a.4 none)
works_keep_frames FilterWork schema frame ((o ∷ []) ∷ []) answers h given types none some =
    let a = only_given (o ∷ []) answers given in
    let e = one_given o a.0 a.2 in
    subst (λ l. Meets (IsFrameOf schema) (work_frame FilterWork l frame)) (sym (a.1 ∙ ap (λ es. es ∷ []) e.1)) (filter_keeps schema frame o e.0 h e.2)
works_keep_frames (SimpleProjectionWork own) schema frame [] answers h given types none some =
    subst (λ l. Meets (IsFrameOf own) (work_frame (SimpleProjectionWork own) l frame)) (sym (no_given answers given)) (projection_keeps schema own frame h none some)
works_keep_frames (SliceWork offset count) schema frame [] answers h given types none some =
    subst (λ l. Meets (IsFrameOf schema) (work_frame (SliceWork offset count) l frame)) (sym (no_given answers given)) (sliced_frame schema frame offset count h)
works_keep_frames (SortWork descending nulls_last) schema frame (os ∷ []) answers h given types none some =
    let a = only_given os answers given in
    let keys = series_meet (row_numbers frame) os a.0 a.2 in
    subst (λ l. Meets (IsFrameOf schema) (work_frame (SortWork descending nulls_last) l frame)) (sym a.1) (sorted_frame schema frame descending nulls_last a.0 (AreSeriesOf (columns_of os)) keys h)
works_keep_frames (DistinctWork keep subset) schema frame [] answers h given types none some =
    subst (λ l. Meets (IsFrameOf schema) (work_frame (DistinctWork keep subset) l frame)) (sym (no_given answers given)) (distinct_frame schema frame keep subset h)
works_keep_frames (PassWork passing) schema frame [] answers h given types none some =
    subst (λ l. Meets (IsFrameOf schema) (work_frame (PassWork passing) l frame)) (sym (no_given answers given)) h
works_keep_frames (FunctionWork function) schema frame [] answers h given types none some =
    subst (λ l. Meets (IsFrameOf (function_schema function schema)) (work_frame (FunctionWork function) l frame)) (sym (no_given answers given)) (functions_keep function schema frame h none)
works_keep_frames work schema frame lists answers h given types none some = absurd cc

pub nothing_has_no_columns : (work : Work) → NothingHasNoColumns work
nothing_has_no_columns SelectWork schema ([] ∷ []) nothing = refl
nothing_has_no_columns (SimpleProjectionWork []) schema lists nothing = refl
nothing_has_no_columns work schema lists nothing = absurd cc

-- ---- typed expressions

before_is : (name : Name) (t : Result Typed ErrorKind) (rest : Option (List TypedOutput)) (outputs : List TypedOutput) → output_before name t rest ≡ Some outputs → (typed : Typed) × (others : List TypedOutput) × (t ≡ Ok typed) × (rest ≡ Some others) × (outputs ≡ record { name = name; typed = typed } ∷ others)
before_is name (Err kind) rest outputs h = absurd cc
before_is name (Ok typed) None outputs h = absurd cc
before_is name (Ok typed) (Some others) outputs h = (typed, others, refl, refl, sym (some_same (record { name = name; typed = typed } ∷ others) outputs h))

lists_before : (first : Option (List TypedOutput)) (rest : Option (List (List TypedOutput))) (outputs : List (List TypedOutput)) → list_before first rest ≡ Some outputs → (own : List TypedOutput) × (others : List (List TypedOutput)) × (first ≡ Some own) × (rest ≡ Some others) × (outputs ≡ own ∷ others)
lists_before None rest outputs h = absurd cc
lists_before (Some own) None outputs h = absurd cc
lists_before (Some own) (Some others) outputs h = (own, others, refl, refl, sym (some_same (own ∷ others) outputs h))

module _ (registry : Registry) (schema : Columns) where
  -- they have their names, and break what their types do
  names_typed : (os : List (Named Expression)) (outputs : List TypedOutput) → typed_outputs registry schema os ≡ Some outputs → names_in os ≡ output_names outputs
  names_typed [] outputs h = ap output_names (some_same [] outputs h)
  names_typed (o ∷ os) outputs h =
      let found = before_is o.label.name (typing registry schema (settled o.expression)) (typed_outputs registry schema os) outputs h in
      ap (λ names. o.label.name ∷ names) (names_typed os found.1 found.3) ∙ sym (ap output_names found.4)

  names_of_lists : (lists : List (List (Named Expression))) (outputs : List (List TypedOutput)) → typed_lists registry schema lists ≡ Some outputs → map names_in lists ≡ map output_names outputs
  names_of_lists [] outputs h = ap (map output_names) (some_same [] outputs h)
  names_of_lists (os ∷ lists) outputs h =
      let found = lists_before (typed_outputs registry schema os) (typed_lists registry schema lists) outputs h in
      let first = names_typed os found.0 found.2 in
      let later = names_of_lists lists found.1 found.3 in
      (λ i. first i ∷ later i) ∙ sym (ap (map output_names) found.4)

  abbrev kinds_typed : Work → List TypedOutput → List ErrorKind
  kinds_typed work outputs = flat_map (λ output. type_kinds work output.typed) outputs

  types_typed : (work : Work) (os : List (Named Expression)) (outputs : List TypedOutput) → typed_outputs registry schema os ≡ Some outputs → list_type_kinds registry work schema os ≡ kinds_typed work outputs
  types_typed work [] outputs h = ap (kinds_typed work) (some_same [] outputs h)
  types_typed work (o ∷ os) outputs h =
      let found = before_is o.label.name (typing registry schema (settled o.expression)) (typed_outputs registry schema os) outputs h in
      let first = ap (typed_kinds work) found.2 in
      let later = types_typed work os found.1 found.3 in
      (λ i. first i ++ later i) ∙ sym (ap (kinds_typed work) found.4)

  types_of_lists : (work : Work) (lists : List (List (Named Expression))) (outputs : List (List TypedOutput)) → typed_lists registry schema lists ≡ Some outputs → all_type_kinds registry work schema lists ≡ kinds_of_types work outputs
  types_of_lists work [] outputs h = ap (kinds_of_types work) (some_same [] outputs h)
  types_of_lists work (os ∷ lists) outputs h =
      let found = lists_before (typed_outputs registry schema os) (typed_lists registry schema lists) outputs h in
      let first = types_typed work os found.0 found.2 in
      let later = types_of_lists work lists found.1 found.3 in
      (λ i. first i ++ later i) ∙ sym (ap (kinds_of_types work) found.4)

module _ (registry : Registry) (frame : Frame) (is_frame : IsFrame frame) where
  -- and give on a frame what they are typed as
  outputs_given : (os : List (Named Expression)) (outputs : List TypedOutput) → typed_outputs registry frame.schema os ≡ Some outputs → AreGiven outputs (map (by_meaning registry frame) os)
  outputs_given [] outputs h = subst (λ l. AreGiven l []) (some_same [] outputs h) tt
  outputs_given (o ∷ os) outputs h =
      let found = before_is o.label.name (typing registry frame.schema (settled o.expression)) (typed_outputs registry frame.schema os) outputs h in
      let first : IsGiven (record { name = o.label.name; typed = found.0 }) (by_meaning registry frame o) = record { name = refl; typing = found.2; gives = meaning_has_type registry frame is_frame (settled o.expression) found.0 found.2 } in
      subst (λ l. AreGiven l (map (by_meaning registry frame) (o ∷ os))) (sym found.4) (first, outputs_given os found.1 found.3)

  lists_given : (lists : List (List (Named Expression))) (outputs : List (List TypedOutput)) → typed_lists registry frame.schema lists ≡ Some outputs → ListsAreGiven outputs (map (map (by_meaning registry frame)) lists)
  lists_given [] outputs h = subst (λ l. ListsAreGiven l []) (some_same [] outputs h) tt
  lists_given (os ∷ lists) outputs h =
      let found = lists_before (typed_outputs registry frame.schema os) (typed_lists registry frame.schema lists) outputs h in
      subst (λ l. ListsAreGiven l (map (map (by_meaning registry frame)) (os ∷ lists))) (sym found.4) (outputs_given os found.0 found.2, lists_given lists found.1 found.3)

-- ---- nodes

mapped_some : {A B : Type 0} (f : A → B) (o : Option A) (y : B) → option_map f o ≡ Some y → (x : A) × (o ≡ Some x) × (f x ≡ y)
mapped_some f None y h = absurd cc
mapped_some f (Some x) y h = (x, refl, some_same (f x) y h)

module _ (registry : Registry) where
  -- a node over one input that breaks no rule gives a frame of the schema that its work makes
  module _ (work : Work) (lists : List (List (Named Expression))) (under : Columns) (outputs : List (List TypedOutput)) (typed : typed_lists registry under lists ≡ Some outputs) (types : kinds_of_types work outputs ≡ []) (kinds : work_kinds work under (map output_names outputs) ≡ []) where
    work_meets : (frame : Frame) → IsFrameOf under frame → gives_nothing work (map output_names outputs) ≡ false → Meets (IsFrameOf (work_schema work under outputs)) (work_frame work (map (map (by_meaning registry frame)) lists) frame)
    work_meets frame h some =
        let there = subst (λ c. typed_lists registry c lists ≡ Some outputs) (sym h.schema_is) typed in
        works_keep_frames work under frame outputs (map (map (by_meaning registry frame)) lists) h (lists_given registry frame h.frame_is lists outputs there) types kinds some

    over_meets : (input : Outcome Frame) → Meets (IsFrameOf under) input → Meets (IsFrameOf (work_schema work under outputs)) (over_frame (by_meaning registry) work lists input)
    over_meets input h =
        let own = work_schema work under outputs in
        let gives = then_do input (λ frame. work_frame work (map (map (by_meaning registry frame)) lists) frame) in
        let same = ap (gives_nothing work) (names_of_lists registry under lists outputs typed) in
        subst (λ b. Meets (IsFrameOf own) (cond b (Done empty_frame) gives)) (sym same) (
        elim (gives_nothing work (map output_names outputs)) as (λ b. gives_nothing work (map output_names outputs) ≡ b → Meets (IsFrameOf own) (cond b (Done empty_frame) gives)) [ true ↦ λ e. without_columns own (sym (nothing_has_no_columns work under outputs e)) | false ↦ λ e. meets_then (IsFrameOf under) (IsFrameOf own) input _ h (λ frame k. work_meets frame k e) ] refl)

  over_node : (work : Work) (lists : List (List (Named Expression))) (under schema : Columns) (input : Outcome Frame) → all_type_kinds registry work under lists ++ work_kinds work under (map names_in lists) ≡ [] → option_map (work_schema work under) (typed_lists registry under lists) ≡ Some schema → Meets (IsFrameOf under) input → Meets (IsFrameOf schema) (over_frame (by_meaning registry) work lists input)
  over_node work lists under schema input none is h =
      let found = mapped_some (work_schema work under) (typed_lists registry under lists) schema is in
      let types = sym (types_of_lists registry under work lists found.0 found.1) ∙ no_front (all_type_kinds registry work under lists) _ none in
      let kinds = ap (work_kinds work under) (sym (names_of_lists registry under lists found.0 found.1)) ∙ no_tail (all_type_kinds registry work under lists) _ none in
      subst (λ s. Meets (IsFrameOf s) (over_frame (by_meaning registry) work lists input)) found.2 (over_meets work lists under found.0 found.1 types kinds input h)

  -- a scan of columns that break no rule
  scan_meets : (tables : List Frame) (table : Option ℕ) (own schema : Columns) → HasTables tables (own_scans {E = Expression} (ScanKind table own)) → scan_kinds own ≡ [] → own ≡ schema → Meets (IsFrameOf schema) (scanned tables table own)
  scan_meets tables (Some number) own schema fits none same = found_meets own schema (slice_get tables number) same fits.0
  scan_meets tables None own schema fits none same = empty_meets own schema same (scan_distinct own none)

  node_meets : (kind : PlanKind (Named Expression)) (tables : List Frame) (recorded : Option Columns) (inputs : List (Option Columns)) (outcomes : List (Outcome Frame)) (schema : Columns) → HasTables tables (own_scans kind) → broken_kinds registry (record { kind = kind; recorded = recorded }) inputs ≡ [] → schema_by registry kind inputs ≡ Some schema → AllMeet inputs outcomes → Meets (IsFrameOf schema) (frame_by kind tables (by_meaning registry) outcomes)
  node_meets (ScanKind table own) tables recorded [] outcomes schema fits none is k =
      subst (λ os. Meets (IsFrameOf schema) (frame_by (ScanKind table own) tables (by_meaning registry) os)) (sym (no_outcome outcomes k)) (scan_meets tables table own schema fits none (some_same _ _ is))
  node_meets (OverKind work lists) tables recorded (Some under ∷ []) outcomes schema fits none is k =
      let only = only_outcome (Some under) outcomes k in
      let own = no_tail (expression_kinds registry (Some under ∷ []) (expressions_of (OverKind work lists))) _ none in
      subst (λ os. Meets (IsFrameOf schema) (frame_by (OverKind work lists) tables (by_meaning registry) os)) (sym only.1) (over_node work lists under schema only.0 own is only.2)
  node_meets kind tables recorded inputs outcomes schema fits none is k = absurd (absurd_none schema is)

  -- a node that has a schema gives a frame of it, unless there is a fault
  pub kernel_meets : (tables : List Frame) (op : PlanOp (Named Expression)) (inputs : List (Option Columns)) (outcomes : List (Outcome Frame)) (schema : Columns) → HasTables tables (own_scans op.kind) → plan_rule registry op inputs ≡ Some schema → AllMeet inputs outcomes → Meets (IsFrameOf schema) (plan_kernel tables (by_meaning registry) op outcomes)
  kernel_meets tables op inputs outcomes schema fits h k =
      let kinds = broken_kinds registry op inputs in
      let found = schema_by registry op.kind inputs in
      node_meets op.kind tables op.recorded inputs outcomes schema fits (unbroken_kinds kinds found schema h) (unbroken_schema kinds found schema h) k

  mutual
    plan_meets : (tables : List Frame) (plan : Plan) (schema : Columns) → FitsPlan tables plan → IsWellFormed registry plan → schema_of registry plan ≡ Some schema → Meets (IsFrameOf schema) (source_meaning registry tables plan)
    plan_meets tables (node op inputs) schema fits well e =
        let scans = own_scans op.kind in
        let below = scans_below inputs in
        kernel_meets tables op (schemas_of registry inputs) (fold_all (plan_kernel tables (by_meaning registry)) inputs) schema (front_tables tables scans below fits) e (inputs_meet tables inputs (back_tables tables scans below fits) well.1)

    inputs_meet : (tables : List Frame) (inputs : Trees (PlanOp (Named Expression))) → HasTables tables (scans_below inputs) → AllWellFormed registry inputs → AllMeet (schemas_of registry inputs) (fold_all (plan_kernel tables (by_meaning registry)) inputs)
    inputs_meet tables no_more fits well = tt
    inputs_meet tables (more plan rest) fits well =
        let found = well_formed_schema registry plan well.0 in
        (subst (λ o. MeetsWhere o (source_meaning registry tables plan)) (sym found.1) (plan_meets tables plan found.0 (front_tables tables (scans_in plan) (scans_below rest) fits) well.0 found.1), inputs_meet tables rest (back_tables tables (scans_in plan) (scans_below rest) fits) well.1)

-- a well-formed plan is not stuck on fitting tables, and its frame has its schema
pub meaning_has_schema : MeaningHasSchema
meaning_has_schema registry tables plan schema fits well e = plan_meets registry tables plan schema fits well e
