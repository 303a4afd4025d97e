-- What goes over a list goes over all of it.
use Rattle.std.proofs.Common.{◌≡◌, ◌∙◌, ◌⊎◌, ◌+◌, ◌≤◌, ℕ, zero, suc, ℤ, pos, negsuc, Bool, true, false, cond, List, [], ◌∷◌, ◌++◌, length, map, replicate, take, drop, slice_get, Some, None, refl, sym, inl, inr, ap, subst, arith, length-append, append_assoc}
use Rattle.std.specs.Prelude.{not, ◌-◌, ◌&&◌, ◌||◌, ◌==◌, ◌+ℤ◌, min, zip, nat_lt, int_lt, encode_utf8_all}
use Rattle.std.specs.List.{AllByRecursion, filter, list_any}
use Rattle.std.proofs.Math.IntN.{+ℤ_assoc, +ℤ_idl, +ℤ_idr, +ℤ-neg_ℤ_cancel}
use Rattle.std.proofs.Math.Nat.{min-eq_left}
use Rattle.std.proofs.Math.Seq.{drop-append_seam}
use Rattle.std.specs.declared.cmp.Ordering.TheVariants.{Less, Equal, Greater}
use Rattle.std.proofs.lemmas.Bool.{eq-eqb, eqb-true, ltb-false, or_parts}
use Rattle.std.proofs.lemmas.Map.Lookups.{exact_signed}
use Rattle.std.proofs.lemmas.List.{length-drop, length-map, length-replicate, length-take-le, take_at}
use Rattle.std.proofs.lemmas.List.Elements.{filter-append}
use Rattle.std.proofs.lemmas.List.Folds.{list_any-append}
use Rattle.std.proofs.lemmas.List.Sorted.{IsPermutation-sym}
use Rattle.std.proofs.Math.Seq.{take-append_seam, take-append-add}
use Rattle.std.proofs.lemmas.Slice.Eq.{bytes_eq-Decides}
use Rattle.plan_types.specs.Types.{Ty, Fields}
use Rattle.plan_types.specs.Schemas.{Columns, Name, same_name, with_column}
use Rattle.plan_types.specs.Values.{Val, Vals, NullValue, TruthValue, IntValue, all_fit, fits, same_value}
use Rattle.plan_types.specs.ValueViews.{values_from}
use Rattle.plan_types.specs.ValueLaws.{same_value_own}
use Rattle.plan_types.specs.Casts.{Converted, Gives, Fails, cast, wrapped}
use Rattle.plan_types.specs.Frames.{Frame, Row, value_in}
use Rattle.plan_types.specs.Outcomes.{Outcome, Done, Fault, Stuck, Meets, then_do}
use Rattle.plan_types.proofs.ListLemmas.{slice_get-seam}
use Rattle.plan_dsl.specs.declared.sort_options.SortOptions.{SortOptions}
use Rattle.plan_dsl.specs.Aggregates.{count_value, first_value, is_counted, last_value, sum_of, summand}
use Rattle.plan_dsl.specs.Evaluations.{Evaluated, Series, all_series, series_on}
use Rattle.plan_dsl.specs.FunctionValues.{is_missing, part_named, shifted}
use Rattle.plan_dsl.specs.Grouping.{group_rows, group_values, value_typed}
use Rattle.plan_dsl.specs.Groups.{Group, firsts}
use Rattle.plan_dsl.specs.Kernels.{Meaning, at_each, cast_values, given}
use Rattle.plan_dsl.specs.ListLaws.{AggregatesAreOfAll, AreRowsOf, CastsAreOfEach, ColumnsAreForRows, FiltersKeepTrue, FramesTakeColumns, PartsAreFound, SlicesAreBetween, GatherGivesEach, GroupsGiveEach, IndicesArePlaces, IsOfEach, MembersAreFound, OneIsLess, OperandsGiveEach, OperatorsGiveEach, RowsGiveEach, RowsHaveColumns, SeriesAreOfEach, ShiftsMoveValues, as_outcome, beside_true}
use Rattle.plan_dsl.specs.declared.operator.Operator.{Operator}
use Rattle.plan_dsl.specs.Operators.{is_before, operator_value}
use Rattle.plan_dsl.specs.Picks.{gathered, gather_values, is_true, items_in, or_fault, or_null, at_place, where_true}
use Rattle.plan_dsl.specs.PlanKernels.{frame_with_column, row_with, rows_with, length_beside as series_beside, rows_of as series_rows, series_columns, shared_length}
use Rattle.plan_dsl.specs.Rows.{at_length, common_length, each_row, for_rows, in_front, key_rows, rows_of, stretched, value_before}
use Rattle.plan_dsl.specs.Slices.{slice_start, sliced}
use Rattle.plan_dsl.specs.Sorting.{comes_before, sort_values}
use Rattle.plan_dsl.specs.SortLaws.{IsInOrder}
use Rattle.plan_dsl.proofs.OrderLemmas.{done_parts, values_in_order, values_sorted}
use Rattle.plan_dsl.proofs.SortLemmas.{as_many_rows, column_for_rows, each_fits, in_front_many, permuted_each}
use Rattle.plan_dsl.proofs.SwapLemmas.{same_value_symmetric}
use Rattle.plan_dsl.proofs.WindowValueLemmas.{for_rows_same, stretched_same}

-- ---- of all values

last_at_end : (values : List Val) (value : Val) → last_value (values ++ value ∷ []) ≡ value
last_at_end [] value = refl
last_at_end (first ∷ []) value = refl
last_at_end (first ∷ second ∷ rest) value = last_at_end (second ∷ rest) value

sums_added : (left right : List Val) → sum_of (left ++ right) ≡ sum_of left +ℤ sum_of right
sums_added [] right = sym (+ℤ_idl (sum_of right))
sums_added (value ∷ left) right = ap (λ n. summand value +ℤ n) (sums_added left right) ∙ sym (+ℤ_assoc (summand value) (sum_of left) (sum_of right))

items_of_values : (values : List Val) → items_in (values_from values) ≡ values
items_of_values [] = refl
items_of_values (value ∷ values) = ap (λ l. value ∷ l) (items_of_values values)

counts_added : (nulls : Bool) (left right : List Val) → length (filter (is_counted nulls) (left ++ right)) ≡ length (filter (is_counted nulls) left) + length (filter (is_counted nulls) right)
counts_added nulls left right =
    let test = is_counted nulls in ap length (filter-append test left right) ∙ length-append (filter test left) (filter test right)

-- the value at the end is new unless one before it is the same
abbrev new_at_end : List Val → Val → List Val
new_at_end values value = cond (list_any (same_value value) values) [] (value ∷ [])

left_out : (before : List Val) (value : Val) (same : Bool) (found : Bool) → before ++ cond found [] (cond (not same) (value ∷ []) []) ≡ before ++ cond (same || found) [] (value ∷ [])
left_out before value true true = refl
left_out before value true false = refl
left_out before value false true = refl
left_out before value false false = refl

firsts_at_end : (values : List Val) (value : Val) → firsts same_value (values ++ value ∷ []) ≡ firsts same_value values ++ new_at_end values value
firsts_at_end [] value = refl
firsts_at_end (first ∷ values) value =
    let others = λ (other : Val). not (same_value first other) in
    let before = first ∷ filter others (firsts same_value values) in
    ap (λ l. first ∷ filter others l) (firsts_at_end values value)
    ∙ ap (λ l. first ∷ l) (filter-append others (firsts same_value values) (new_at_end values value))
    ∙ elim (list_any (same_value value) values) as (λ b. before ++ filter others (cond b [] (value ∷ [])) ≡ before ++ cond b [] (cond (not (same_value first value)) (value ∷ []) [])) [ true ↦ refl | false ↦ refl ]
    ∙ ap (λ b. before ++ cond (list_any (same_value value) values) [] (cond (not b) (value ∷ []) [])) (same_value_symmetric first value)
    ∙ left_out before value (same_value value first) (list_any (same_value value) values)

distinct_at_end : (values : List Val) (value : Val) → length (firsts same_value (values ++ value ∷ [])) ≡ length (firsts same_value values) + cond (list_any (same_value value) values) 0 1
distinct_at_end values value =
    let count = length (firsts same_value values) in
    ap length (firsts_at_end values value)
    ∙ length-append (firsts same_value values) (new_at_end values value)
    ∙ elim (list_any (same_value value) values) as (λ b. count + length (cond b [] (value ∷ [])) ≡ count + cond b 0 1) [ true ↦ refl | false ↦ refl ]

own_name : (name : Name) → same_name name name ≡ true
own_name name = (bytes_eq-Decides name name).1 refl

not_itself : (before : Bool) → (before ≡ true → before ≡ false) → before ≡ false
not_itself true h = h refl
not_itself false h = refl

-- none comes before the first in order
first_of_all : (options : SortOptions) (own : Ty) (found : List Val) → AllByRecursion (λ value. fits value own ≡ true) found → IsInOrder (comes_before options) found → AllByRecursion (λ value. comes_before options value (first_value found) ≡ false) found
first_of_all options own [] of h = tt
first_of_all options own (first ∷ rest) of h = (not_itself (comes_before options first first) ((values_in_order options own).one_way first first of.0 of.0), h.0)

none_before : (options : SortOptions) (own : Ty) (values : List Val) → all_fit values own ≡ true → AllByRecursion (λ value. comes_before options value (first_value (sort_values options values)) ≡ false) values
none_before options own values fit =
    let found = sort_values options values in
    let sort = values_sorted options own values fit in
    let each = permuted_each (λ value. fits value own ≡ true) values found sort.same (each_fits values own fit) in
    permuted_each (λ value. comes_before options value (first_value found) ≡ false) found values (IsPermutation-sym values found sort.same) (first_of_all options own found each sort.in_order)

pub aggregates_of_all : (type : Ty) (rows : List ℕ) → AggregatesAreOfAll type rows
aggregates_of_all type rows = record {
  least = λ own values fit. none_before (record { descending = false; nulls_last = true }) own values fit;
  greatest = λ own values fit. none_before (record { descending = true; nulls_last = true }) own values fit;
  first = λ value values. refl;
  last = last_at_end;
  sum = λ left right. ap (λ n. IntValue (wrapped type n)) (sums_added left right);
  summand = λ value. +ℤ_idr (summand value);
  count = λ nulls left right. ap (count_value type) (counts_added nulls left right);
  distinct = λ values value. ap (count_value type) (distinct_at_end values value);
  items = λ values. ap or_null (items_of_values values);
}

pub parts_found : (name : Name) (type : Ty) (fields : Fields) (value : Val) (parts : Vals) → PartsAreFound name type fields value parts
parts_found name type fields value parts = record {
  own = ap (λ b. cond b value (part_named name fields parts)) (own_name name);
  behind = λ other h. ap (λ b. cond b value (part_named name fields parts)) h;
}

front_taken : (front middle back : List Val) → drop (length front) (take (length front + length middle) (front ++ (middle ++ back))) ≡ middle
front_taken front middle back =
    ap (drop (length front)) (take-append-add front (middle ++ back) (length middle) ∙ ap (λ l. front ++ l) (take-append_seam middle back)) ∙ drop-append_seam front middle

pub slices_between : (front middle back : List Val) → SlicesAreBetween front middle back
slices_between front middle back =
    let values = front ++ (middle ++ back) in
    record {
      from_front = ap Done (front_taken front middle back);
      from_end = λ before h.
          ap (λ n. Done (sliced (slice_start (negsuc before) n) (IntValue (pos (length middle))) values)) (length-append front (middle ++ back) ∙ ap (λ n. length front + n) h)
          ∙ ap (λ start. Done (sliced start (IntValue (pos (length middle))) values)) (+ℤ-neg_ℤ_cancel (pos (length front)) (pos (suc before)))
          ∙ ap Done (front_taken front middle back);
      all = ap Done (drop-append_seam front (middle ++ back));
    }

found_among : (before after : List Val) (value : Val) → list_any (same_value value) (before ++ value ∷ after) ≡ true
found_among before after value =
    list_any-append (same_value value) before (value ∷ after)
    ∙ ap (λ b. list_any (same_value value) before || (b || list_any (same_value value) after)) (same_value_own value)
    ∙ elim (list_any (same_value value) before) as (λ b. (b || true) ≡ true) [ true ↦ refl | false ↦ refl ]

found_in_list : (before after : List Val) (value : Val) → list_any (same_value value) (items_in (values_from (before ++ value ∷ after))) ≡ true
found_in_list before after value = ap (list_any (same_value value)) (items_of_values (before ++ value ∷ after)) ∙ found_among before after value

pub members_found : (before after : List Val) (value : Val) → is_missing value ≡ false → MembersAreFound before after value
members_found before after NullValue h = cc
members_found before after value h = record { among = ap TruthValue (found_among before after value); listed = ap (λ b. Gives (TruthValue b)) (found_in_list before after value) }

-- ---- one by one

module _ {A B : Type 0} (each : A → Outcome B) (go : List A → Outcome (List B)) (none : go [] ≡ Done []) (next : (item : A) (items : List A) → go (item ∷ items) ≡ then_do (each item) (λ value. then_do (go items) (λ values. Done (value ∷ values)))) where
  each_found : (items : List A) (values : List B) → go items ≡ Done values → map each items ≡ map Done values
  each_found [] values h = let done : Done [] ≡ Done values = sym none ∙ h in let is : [] ≡ values = cc in ap (map Done) is
  each_found (item ∷ items) values h =
      let first = done_parts (each item) (λ value. then_do (go items) (λ values. Done (value ∷ values))) values (sym (next item items) ∙ h) in
      let rest = done_parts (go items) (λ values. Done (first.0 ∷ values)) values first.2 in
      let later = each_found items rest.0 rest.1 in
      let is : first.0 ∷ rest.0 ≡ values = cc in
      (λ i. first.1 i ∷ later i) ∙ ap (map Done) is

  each_gives : (items : List A) (values : List B) → map each items ≡ map Done values → go items ≡ Done values
  each_gives [] [] h = none
  each_gives [] (value ∷ values) h = cc
  each_gives (item ∷ items) [] h = cc
  each_gives (item ∷ items) (value ∷ values) h =
      let first : each item ≡ Done value = cc in
      let later : map each items ≡ map Done values = cc in
      next item items
      ∙ ap (λ o. then_do o (λ value. then_do (go items) (λ values. Done (value ∷ values)))) first
      ∙ ap (λ o. then_do o (λ values. Done (value ∷ values))) (each_gives items values later)

  is_of_each : (items : List A) → IsOfEach each items (go items)
  is_of_each items = record { found = each_found items; gives = each_gives items }

pub gather_each : (returns_scalar : Bool) (values : List Val) → GatherGivesEach returns_scalar values
gather_each returns_scalar values = record { each = λ registry frame rows types type indices. is_of_each (gathered values) (gather_values values) refl (λ index indices. refl) indices }

value_before_is : (converted : Converted) (rest : Outcome (List Val)) → value_before converted rest ≡ then_do (as_outcome converted) (λ value. then_do rest (λ values. Done (value ∷ values)))
value_before_is Fails rest = refl
value_before_is (Gives value) rest = refl

pub casts_of_each : CastsAreOfEach
casts_of_each from target options values =
    is_of_each (λ value. as_outcome (cast value from target options)) (cast_values from target options) refl (λ value values. value_before_is (cast value from target options) (cast_values from target options values)) values

pub rows_of_each : RowsGiveEach
rows_of_each f columns rows h =
    subst (IsOfEach (λ row. as_outcome (f row)) rows) (ap (λ o. then_do o (each_row f)) (sym h))
    (is_of_each (λ row. as_outcome (f row)) (each_row f) refl (λ row rows. value_before_is (f row) (each_row f rows)) rows)

pub operands_of_each : OperandsGiveEach
operands_of_each operands rows = is_of_each (λ (operand : Meaning). operand rows) (λ operands. given operands rows) refl (λ operand operands. refl) operands

pub series_of_each : SeriesAreOfEach
series_of_each rows es = is_of_each (series_on rows) (all_series rows) refl (λ e es. refl) es

pub groups_of_each : (aggs : List Evaluated) → GroupsGiveEach aggs
groups_of_each aggs = record {
  values = λ rows. is_of_each (λ (e : Evaluated). value_typed e.typing (e.gives rows)) (λ es. group_values es rows) refl (λ e es. refl) aggs;
  rows = λ groups. is_of_each (λ (group : Group ℕ). then_do (group_values aggs group.items) (λ values. Done (group.key ++ values))) (group_rows aggs) refl (λ group others. after (group_values aggs group.items) (λ values. Done (group.key ++ values)) (λ row. then_do (group_rows aggs others) (λ rows. Done (row ∷ rows)))) groups;
}
  where
    after : {A B C : Type 0} (first : Outcome A) (next : A → Outcome B) (last : B → Outcome C) → then_do first (λ x. then_do (next x) last) ≡ then_do (then_do first next) last
    after (Done x) next last = refl
    after Fault next last = refl
    after Stuck next last = refl

found_at : (before after : List Val) (value : Val) → at_place (before ++ value ∷ after) (pos (length before)) ≡ Done value
found_at before after value = ap or_fault (slice_get-seam before value after)

pub indices_are_places : (before after : List Val) (value : Val) → IndicesArePlaces before after value
indices_are_places before after value = record {
  from_front = found_at before after value;
  from_end =
      ap (λ n. at_place (before ++ value ∷ after) (slice_start (negsuc (length after)) n)) (length-append before (value ∷ after))
      ∙ ap (at_place (before ++ value ∷ after)) (+ℤ-neg_ℤ_cancel (pos (length before)) (pos (suc (length after))))
      ∙ found_at before after value;
}

-- ---- side by side

at_pairs : (f : Val → Val → Val) (left right : List Val) → at_each f left right ≡ map (λ pair. f pair.0 pair.1) (zip left right)
at_pairs f [] right = refl
at_pairs f (x ∷ left) [] = refl
at_pairs f (x ∷ left) (y ∷ right) = ap (λ l. f x y ∷ l) (at_pairs f left right)

repeated_left : (f : Val → Val → Val) (value : Val) (right : List Val) → at_each f (replicate (length right) value) right ≡ map (f value) right
repeated_left f value [] = refl
repeated_left f value (y ∷ right) = ap (λ l. f value y ∷ l) (repeated_left f value right)

repeated_right : (f : Val → Val → Val) (left : List Val) (value : Val) → at_each f left (replicate (length left) value) ≡ map (λ other. f other value) left
repeated_right f [] value = refl
repeated_right f (x ∷ left) value = ap (λ l. f x value ∷ l) (repeated_right f left value)

common_same : (count : ℕ) → common_length count count ≡ Some count
common_same count = ap (λ b. cond b (Some count) (cond (count == 1) (Some count) (cond (count == 1) (Some count) None))) (eq-eqb count count refl)

common_left : (count : ℕ) → common_length 1 count ≡ Some count
common_left count = elim (1 == count) as (λ b. (1 == count) ≡ b → cond b (Some 1) (Some count) ≡ Some count) [ true ↦ λ e. ap Some (eqb-true 1 count e) | false ↦ λ e. refl ] refl

common_right : (count : ℕ) → common_length count 1 ≡ Some count
common_right count = elim (count == 1) as (λ b. cond b (Some count) (cond b (Some 1) (Some count)) ≡ Some count) [ true ↦ refl | false ↦ refl ]

-- what is made of two columns of as many values
as_long : {A : Type 0} (make : List Val → List Val → A) (left right : List Val) → length left ≡ length right → at_length (common_length (length left) (length right)) (λ count. make (stretched count left) (stretched count right)) ≡ Done (make left right)
as_long {A = A} make left right h =
    let made : ℕ → A = λ count. make (stretched count left) (stretched count right) in
    ap (λ n. at_length (common_length (length left) n) made) (sym h)
    ∙ ap (λ o. at_length o made) (common_same (length left))
    ∙ (λ i. Done (make (stretched_same (length left) left refl i) (stretched_same (length left) right (sym h) i)))

pub operators_each : (operator : Operator) (from type : Ty) → OperatorsGiveEach operator from type
operators_each operator from type =
    let f = operator_value operator from type in
    record {
      pairs = λ left right h. as_long (at_each f) left right h ∙ ap Done (at_pairs f left right);
      one_left = λ value right.
          let made : ℕ → List Val = λ count. at_each f (replicate count value) (stretched count right) in
          ap (λ o. at_length o made) (common_left (length right)) ∙ ap (λ l. Done (at_each f (replicate (length right) value) l)) (stretched_same (length right) right refl) ∙ ap Done (repeated_left f value right);
      one_right = λ left value.
          let made : ℕ → List Val = λ count. at_each f (stretched count left) (replicate count value) in
          ap (λ o. at_length o made) (common_right (length left)) ∙ ap (λ l. Done (at_each f l (replicate (length left) value))) (stretched_same (length left) left refl) ∙ ap Done (repeated_right f left value);
    }

pub columns_for_rows : (count : ℕ) → ColumnsAreForRows count
columns_for_rows count = record {
  own = for_rows_same count;
  repeated = λ value. elim (1 == count) as (λ b. cond (b || true) (Done (replicate count value)) Fault ≡ Done (replicate count value)) [ true ↦ refl | false ↦ refl ];
}

-- ---- rows of columns

front_heads : (values : List Val) (rows : List Row) → length values ≡ length rows → map (λ row. slice_get row 0) (in_front values rows) ≡ map Some values
front_heads [] rows h = refl
front_heads (value ∷ values) [] h = absurd (omega (arith, h))
front_heads (value ∷ values) (row ∷ rows) h = ap (λ l. Some value ∷ l) (front_heads values rows (omega (arith, h)))

front_others : (place : ℕ) (values : List Val) (rows : List Row) → length values ≡ length rows → map (λ row. slice_get row (suc place)) (in_front values rows) ≡ map (λ row. slice_get row place) rows
front_others place [] [] h = refl
front_others place [] (row ∷ rows) h = absurd (omega (arith, h))
front_others place (value ∷ values) [] h = absurd (omega (arith, h))
front_others place (value ∷ values) (row ∷ rows) h = ap (λ l. slice_get row place ∷ l) (front_others place values rows (omega (arith, h)))

no_columns : (count : ℕ) → AreRowsOf count [] (replicate count [])
no_columns count = record { as_many = length-replicate count []; each = λ place column at. cc }

column_in_front : (count : ℕ) (values : List Val) (columns : List (List Val)) (rows : List Row) → length (stretched count values) ≡ count → AreRowsOf count columns rows → AreRowsOf count (values ∷ columns) (in_front (stretched count values) rows)
column_in_front count values columns rows many of = record {
  as_many = in_front_many count (stretched count values) rows many of.as_many;
  each = at;
}
  where
    at : (place : ℕ) (column : List Val) → slice_get (values ∷ columns) place ≡ Some column → map (λ row. slice_get row place) (in_front (stretched count values) rows) ≡ map Some (stretched count column)
    at zero column h = let is : values ≡ column = cc in front_heads (stretched count values) rows (many ∙ sym of.as_many) ∙ ap (λ l. map Some (stretched count l)) is
    at (suc place) column h = front_others place (stretched count values) rows (many ∙ sym of.as_many) ∙ of.each place column h

for_rows_is : (count : ℕ) (values found : List Val) → for_rows count values ≡ Done found → stretched count values ≡ found
for_rows_is count values found h = elim (length values == count || length values == 1) as (λ b. cond b (Done (stretched count values)) Fault ≡ Done found → stretched count values ≡ found) [ true ↦ λ h. cc | false ↦ λ h. cc ] h

key_rows_have : (count : ℕ) (columns : List (List Val)) (rows : List Row) → key_rows count columns ≡ Done rows → AreRowsOf count columns rows
key_rows_have count [] rows h = let is : replicate count [] ≡ rows = cc in subst (AreRowsOf count []) is (no_columns count)
key_rows_have count (key ∷ keys) rows h =
    let p = done_parts (for_rows count key) (λ column. then_do (key_rows count keys) (λ rows. Done (in_front column rows))) rows h in
    let q = done_parts (key_rows count keys) (λ rows. Done (in_front p.0 rows)) rows p.2 in
    let front : in_front p.0 q.0 ≡ rows = cc in
    let key_is = for_rows_is count key p.0 p.1 in
    let many : length p.0 ≡ count = subst (Meets (λ column. length column ≡ count)) p.1 (column_for_rows count key) in
    subst (AreRowsOf count (key ∷ keys)) (ap (λ l. in_front l q.0) key_is ∙ front) (column_in_front count key keys q.0 (ap length key_is ∙ many) (key_rows_have count keys q.0 q.1))

-- lengths that have a common one are that, or one
common_are : (left right count : ℕ) → common_length left right ≡ Some count → ((left == count || left == 1) ≡ true) × ((right ≡ count) ⊎ (right ≡ 1))
common_are left right count h =
    elim (left == right) as (λ b. (left == right) ≡ b → cond b (Some left) (cond (left == 1) (Some right) (cond (right == 1) (Some left) None)) ≡ Some count → ((left == count || left == 1) ≡ true) × ((right ≡ count) ⊎ (right ≡ 1))) [
      | true ↦ λ e h. let is : left ≡ count = cc in (ap (λ b. b || left == 1) (eq-eqb left count is), inl (sym (eqb-true left right e) ∙ is))
      | false ↦ λ e h. elim (left == 1) as (λ b. (left == 1) ≡ b → cond b (Some right) (cond (right == 1) (Some left) None) ≡ Some count → ((left == count || left == 1) ≡ true) × ((right ≡ count) ⊎ (right ≡ 1))) [
        | true ↦ λ one h. let is : right ≡ count = cc in (ap (λ b. left == count || b) one ∙ elim (left == count) as (λ b. (b || true) ≡ true) [ true ↦ refl | false ↦ refl ], inl is)
        | false ↦ λ one h. elim (right == 1) as (λ b. (right == 1) ≡ b → cond b (Some left) None ≡ Some count → ((left == count || left == 1) ≡ true) × ((right ≡ count) ⊎ (right ≡ 1))) [
          | true ↦ λ f h. let is : left ≡ count = cc in (ap (λ b. b || left == 1) (eq-eqb left count is), inr (eqb-true right 1 f))
          | false ↦ λ f h. cc
        ] refl h
      ] refl h
    ] refl h

-- so a column of such a length is brought to the common one
may_have : (many count : ℕ) → (many == count || many == 1) ≡ true → (wider : ℕ) → ((count ≡ wider) ⊎ (count ≡ 1)) → (many == wider || many == 1) ≡ true
may_have many count h wider (inl same) = subst (λ n. (many == n || many == 1) ≡ true) same h
may_have many count h wider (inr one) =
    let single : many ≡ 1 = one_of (many == count) (many == 1) h (λ e. eqb-true many count e ∙ one) (λ e. eqb-true many 1 e) in
    ap (λ b. many == wider || b) (eq-eqb many 1 single) ∙ elim (many == wider) as (λ b. (b || true) ≡ true) [ true ↦ refl | false ↦ refl ]
  where
    one_of : (a b : Bool) → (a || b) ≡ true → (a ≡ true → many ≡ 1) → (b ≡ true → many ≡ 1) → many ≡ 1
    one_of true b h f g = f refl
    one_of false b h f g = g h

abbrev AllMayHave : ℕ → List Series → Type 0
AllMayHave count ss = AllByRecursion (λ (s : Series). (length s.values == count || length s.values == 1) ≡ true) ss

all_wider : (count wider : ℕ) (ss : List Series) → ((count ≡ wider) ⊎ (count ≡ 1)) → AllMayHave count ss → AllMayHave wider ss
all_wider count wider [] w h = tt
all_wider count wider (s ∷ ss) w h = (may_have (length s.values) count h.0 wider w, all_wider count wider ss w h.1)

shared_are : (ss : List Series) (count : ℕ) → shared_length ss ≡ Some count → AllMayHave count ss
shared_are [] count h = tt
shared_are (s ∷ ss) count h =
    elim (shared_length ss) as (λ o. shared_length ss ≡ o → series_beside (length s.values) o ≡ Some count → AllMayHave count (s ∷ ss)) [
      | None ↦ λ e h. cc
      | Some other ↦ λ e h. let parts = common_are (length s.values) other count h in (parts.0, all_wider other count ss parts.1 (shared_are ss other e))
    ] refl h

rows_of_have : (count : ℕ) (ss : List Series) → AllMayHave count ss → AreRowsOf count (map (λ (s : Series). s.values) ss) (series_rows count ss)
rows_of_have count [] h = no_columns count
rows_of_have count (s ∷ ss) h = column_in_front count s.values (map (λ (s : Series). s.values) ss) (series_rows count ss) (as_many_rows count s.values h.0) (rows_of_have count ss h.1)

pub rows_have_columns : RowsHaveColumns
rows_have_columns = record {
  beside = λ columns count rows shared h. key_rows_have count columns rows (ap (λ o. rows_of o columns) (sym shared) ∙ h);
  framed = λ ss count frame shared h.
      let made : Done (record { schema = series_columns ss; rows = series_rows count ss }) ≡ Done frame = ap (λ o. at_length o (λ count. record { schema = series_columns ss; rows = series_rows count ss })) (sym shared) ∙ h in
      let is : record { schema = series_columns ss; rows = series_rows count ss } ≡ frame = cc in
      subst (λ (f : Frame). AreRowsOf count (map (λ (s : Series). s.values) ss) f.rows) is (rows_of_have count ss (shared_are ss count shared));
}

-- ---- columns that are put into a frame

row_has : (columns : Columns) (name : Name) (type : Ty) (value : Val) (row : Row) → length row ≡ length columns → value_in (with_column columns name type) name (row_with columns name value row) ≡ value
row_has [] name type value row h = ap (λ b. cond b value NullValue) (own_name name)
row_has (c ∷ columns) name type value [] h = absurd (omega (arith, h))
row_has (c ∷ columns) name type value (first ∷ row) h =
    elim (same_name name c.0) as (λ b. same_name name c.0 ≡ b → value_in (cond b ((c.0, type) ∷ columns) (c ∷ with_column columns name type)) name (cond b (value ∷ row) (first ∷ row_with columns name value row)) ≡ value) [
      | true ↦ λ e. ap (λ b. cond b value (value_in columns name row)) e
      | false ↦ λ e. ap (λ b. cond b first (value_in (with_column columns name type) name (row_with columns name value row))) e ∙ row_has columns name type value row (omega (arith, h))
    ] refl

other_name : (name other found : Name) → same_name name found ≡ true → same_name other name ≡ false → same_name other found ≡ false
other_name name other found is h = ap (same_name other) (sym ((bytes_eq-Decides name found).0 is)) ∙ h

row_keeps : (columns : Columns) (name : Name) (type : Ty) (value : Val) (row : Row) → length row ≡ length columns → (other : Name) → same_name other name ≡ false → value_in (with_column columns name type) other (row_with columns name value row) ≡ value_in columns other row
row_keeps [] name type value row h other k = ap (λ b. cond b value NullValue) k
row_keeps (c ∷ columns) name type value [] h other k = absurd (omega (arith, h))
row_keeps (c ∷ columns) name type value (first ∷ row) h other k =
    elim (same_name name c.0) as (λ b. same_name name c.0 ≡ b → value_in (cond b ((c.0, type) ∷ columns) (c ∷ with_column columns name type)) other (cond b (value ∷ row) (first ∷ row_with columns name value row)) ≡ cond (same_name other c.0) first (value_in columns other row)) [
      | true ↦ λ e.
          let apart = other_name name other c.0 e k in
          ap (λ b. cond b value (value_in columns other row)) apart ∙ sym (ap (λ b. cond b first (value_in columns other row)) apart)
      | false ↦ λ e. ap (λ v. cond (same_name other c.0) first v) (row_keeps columns name type value row (omega (arith, h)) other k)
    ] refl

rows_take : (columns : Columns) (name : Name) (values : List Val) (rows : List Row) → rows_with columns name values rows ≡ map (λ pair. row_with columns name pair.0 pair.1) (zip values rows)
rows_take columns name [] rows = refl
rows_take columns name (value ∷ values) [] = refl
rows_take columns name (value ∷ values) (row ∷ rows) = ap (λ l. row_with columns name value row ∷ l) (rows_take columns name values rows)

pub frames_take : FramesTakeColumns
frames_take = record {
  row = λ columns name type value row h. record { own = row_has columns name type value row h; others = row_keeps columns name type value row h };
  rows = λ s frame h.
      ap (λ o. then_do o (λ each. Done (frame_with_column frame s.name s.type each))) (for_rows_same (length frame.rows) s.values h)
      ∙ ap (λ rows. Done (record { schema = with_column frame.schema s.name s.type; rows = rows })) (rows_take frame.schema s.name s.values frame.rows);
}

-- ---- what stands beside true values

kept_beside : {A : Type 0} (truths : List Val) (items : List A) → where_true truths items ≡ beside_true truths items
kept_beside [] items = refl
kept_beside (truth ∷ truths) [] = refl
kept_beside (truth ∷ truths) (item ∷ items) =
    elim (is_true truth) as (λ b. cond b (item ∷ where_true truths items) (where_true truths items) ≡ map (λ pair. pair.1) (cond b ((truth, item) ∷ filter (λ pair. is_true pair.0) (zip truths items)) (filter (λ pair. is_true pair.0) (zip truths items)))) [
      | true ↦ ap (λ l. item ∷ l) (kept_beside truths items)
      | false ↦ kept_beside truths items
    ]

pub filters_keep : (truths : List Val) → FiltersKeepTrue truths
filters_keep truths = record {
  values = λ values h. as_long (λ values truths. where_true truths values) values truths h ∙ ap Done (kept_beside truths values);
  rows = λ frame h. ap (λ o. then_do o (λ each. Done (record { schema = frame.schema; rows = where_true each frame.rows }))) (for_rows_same (length frame.rows) truths (sym h)) ∙ ap (λ rows. Done (record { schema = frame.schema; rows = rows })) (kept_beside truths frame.rows);
}

-- ---- shifts

shifted_many : (values : List Val) (count fill : Val) → length (shifted values count fill) ≡ length values
shifted_many values (IntValue (pos count)) fill =
    length-take-le (length values) (replicate (min count (length values)) fill ++ values) (omega (arith, length-append (replicate (min count (length values)) fill) values))
shifted_many values (IntValue (negsuc before)) fill =
    length-append (drop (suc before) values) (replicate (min (suc before) (length values)) fill)
    ∙ ap (λ n. n + length (replicate (min (suc before) (length values)) fill)) (length-drop (suc before) values)
    ∙ ap (λ n. (length values - suc before) + n) (length-replicate (min (suc before) (length values)) fill)
    ∙ omega arith
shifted_many values count fill = length-map values (λ value. NullValue)

moved_down_is : (front back : List Val) (fill : Val) → shifted (front ++ back) (IntValue (pos (length back))) fill ≡ replicate (length back) fill ++ front
moved_down_is front back fill =
    let values = front ++ back in
    let fills = replicate (length back) fill in
    let within : length back ≤ length values = omega (arith, length-append front back) in
    let as_many : length (fills ++ front) ≡ length values = omega (arith, length-append front back, length-append fills front, length-replicate (length back) fill) in
    ap (λ n. take (length values) (replicate n fill ++ values)) (min-eq_left within)
    ∙ ap (take (length values)) (sym (append_assoc fills front back))
    ∙ take_at (fills ++ front) back (length values) as_many

moved_up_is : (first : Val) (front back : List Val) (fill : Val) → shifted (first ∷ front ++ back) (IntValue (negsuc (length front))) fill ≡ back ++ replicate (suc (length front)) fill
moved_up_is first front back fill =
    let within : suc (length front) ≤ suc (length (front ++ back)) = omega (arith, length-append front back) in
    ap (λ n. drop (length front) (front ++ back) ++ replicate n fill) (min-eq_left within)
    ∙ ap (λ l. l ++ replicate (suc (length front)) fill) (drop-append_seam front back)

pub shifts_move : (fill : Val) → ShiftsMoveValues fill
shifts_move fill = record {
  as_many = λ values found count h. let is : shifted values count fill ≡ found = cc in sym (ap length is) ∙ shifted_many values count fill;
  down = λ front back. moved_down_is front back fill;
  up = λ first front back. moved_up_is first front back fill;
}

-- ---- orders

truths_one : (left right : Bool) → (not left && right) ≡ false → (not right && left) ≡ false → left ≡ right
truths_one true true h k = refl
truths_one true false h k = cc
truths_one false true h k = cc
truths_one false false h k = refl

numbers_one : (left right : ℤ) → int_lt left right ≡ false → int_lt right left ≡ false → left ≡ right
numbers_one left right h k = exact_signed left right (ap (λ b. cond b Less (cond (int_lt right left) Greater Equal)) h ∙ ap (λ b. cond b Greater Equal) k)

bytes_one : (left right : List ℕ) → is_before left right ≡ false → is_before right left ≡ false → left ≡ right
bytes_one [] [] h k = refl
bytes_one [] (y ∷ right) h k = cc
bytes_one (x ∷ left) [] h k = cc
bytes_one (x ∷ left) (y ∷ right) h k =
    let hs = or_parts (nat_lt x y) (x == y && is_before left right) h in
    let ks = or_parts (nat_lt y x) (y == x && is_before right left) k in
    let same : x ≡ y = omega (arith, ltb-false x y hs.0, ltb-false y x ks.0) in
    let later = bytes_one left right (sym (ap (λ b. b && is_before left right) (eq-eqb x y same)) ∙ hs.1) (sym (ap (λ b. b && is_before right left) (eq-eqb y x (sym same))) ∙ ks.1) in
    λ i. same i ∷ later i

pub one_is_less : OneIsLess
one_is_less = record { truths = truths_one; numbers = numbers_one; texts = λ left right. bytes_one (encode_utf8_all left) (encode_utf8_all right) }
