-- What is read by the table of forms.
use Rattle.plan_json.proofs.Names.{Bool, List, None, Option, Some, [], ap, arith, bytes_eq, cond, false, get_or, is_some, length, map, ne_eqb, option_and_then, option_map, refl, slice_get, subst, suc, sym, take, true, zero, ℕ, ◌&&◌, ◌||◌, ◌++◌, ◌<◌, ◌==◌, ◌∙◌, ◌∷◌, ◌≡◌, ◌≤◌, asked_form, items_of, key, key_form, keyed_form, number, own_fault, part, part_of, places_form, shape_fault, unless, all_of, both, only_member, items_view, view, Name, Data, Items, array, item, no_items, Declared, as_array, at, get_item, Asked, Read, a_form, asks, expression_read, expressions_in, flag_read, flags_in, key_named, leaves_read, list_read, many, many_read, name_read, place_view, ty, type_read, ℤ, reads_of, row_named, says, IsItem, each_as, front, places_as, read_as, these_as, option_map_or, escaped, Value, items_len-items_view, eq-eqb, length-map, items_len, bytes_eq-Decides, Kind, Key, tree_of, slice_get-map, slice_get-get_or, trees_of, SortByOp, expression_says, same_Some, and_parts, Box, Global}
use Rattle.plan_json.specs.declared.forms.Place.{Place}
use Rattle.plan_dsl.specs.Expressions.{excluded_of}
use Rattle.plan_dsl.specs.Sources.{Plain, Source}
use Rattle.plan_dsl.specs.declared.marker.Excluded.{Excluded}
use Rattle.plan_types.specs.declared.dtype.DataType.{DataType}
use Rattle.plan_json.specs.Forms.{excluded_in, excluded_read, function_read, index_read, indexes_in, keep_read, names_in, optional, plan_read, plan_says, subset_read, order, order_items, order_read, order_says, selector_read, selectors_in, types_in}
use Rattle.plan_json.specs.Queries.{has_flags, list_as}
use Rattle.plan_dsl.specs.Plans.{HitsOption, OrderOption, PlanOption, ProjectionOption, SourcePlan, call_option, options_in, source_distinct}
use Rattle.plan_dsl.specs.declared.distinct_options.UniqueKeepStrategy.{UniqueKeepStrategy}
use Rattle.plan_dsl.specs.declared.function.DslFunction.{DslFunction}
use Rattle.plan_dsl.specs.declared.function.DslFunction.TheVariants.{Stats}
use Rattle.plan_json.specs.declared.forms.PlanKey.TheVariants as by
use Rattle.plan_dsl.specs.declared.plan.DslPlan.{DslPlan}
use Rattle.plan_dsl.specs.declared.plan.DslPlan.TheVariants.{Cache', DataFrameScan, Distinct', Filter', GroupBy', HStack', MapFunction', Select', Sink', Slice', Sort'}
use Rattle.plan_dsl.specs.Expressions.{function_source, order_trees, way_of}
use Rattle.plan_dsl.specs.Ops.{WindowOp}
use Rattle.plan_dsl.specs.declared.function_expr.FunctionExpr.{FunctionExpr}
use Rattle.plan_dsl.specs.declared.sort_options.SortOptions.{SortOptions}
use Rattle.plan_dsl.specs.declared.window.WindowType.{WindowType}
use Rattle.plan_dsl.specs.Trees.{node, more, no_more, children_from}
use Rattle.plan_dsl.specs.declared.expr.Expr.{Expr, Function, SortBy, Window}
use Rattle.plan_dsl.specs.declared.expr.Exprs.{Exprs}
use Rattle.plan_dsl.specs.declared.sort_options.SortMultipleOptions.{SortMultipleOptions}
use Rattle.plan_dsl.proofs.ExprLemmas.{function_listed, sort_by_listed, window_listed}
use Rattle.plan_json.specs.declared.forms.ExpressionKey.TheVariants as of
use Rattle.plan_json.specs.declared.forms.Leaf.TheVariants as leaves
use Rattle.plan_json.specs.declared.forms.SmallLeaf.TheVariants as smalls
use Rattle.plan_json.specs.Errors.{IsErrorOf}
use Rattle.plan_json.specs.Faults.{Step, is_list, list_of, optional_form, order_form}
use Rattle.plan_json.specs.declared.error.JsonError.{JsonError}
use Rattle.serde_json.specs.Find.{as_null}
use Rattle.plan_json.proofs.FaultLemmas.{key_in, stricter_error}
use Rattle.plan_json.proofs.ItemLemmas.{item_at}
use Rattle.plan_json.proofs.LookingLemmas.{array-from_as_array, object-from_only_member}

-- ---- keys need no escape in a pointer

abbrev all_plain : {K : Type 0} → List (List ℕ × K) → Bool
all_plain [] = true
all_plain (row ∷ rows) = bytes_eq (escaped row.0) row.0 && all_plain rows

pub named_plain : {K : Type 0} (rows : List (List ℕ × K)) (word : List ℕ) (row : List ℕ × K) → all_plain rows ≡ true → Some row ≡ row_named rows word → escaped row.0 ≡ row.0
named_plain [] word row plain is = cc
named_plain {K} (first ∷ rows) word row plain is =
    let parts = and_parts _ _ plain in
    let here : Some row ≡ Some first → escaped row.0 ≡ row.0 = λ e. subst (λ (x : List ℕ × K). escaped x.0 ≡ x.0) (sym (same_Some row first e)) ((bytes_eq-Decides (escaped first.0) first.0).0 parts.0) in
    elim (bytes_eq first.0 word) as (λ b. Some row ≡ cond b (Some first) (row_named rows word) → escaped row.0 ≡ row.0) [ true ↦ here | false ↦ named_plain rows word row parts.1 ] is

place_at : (places : List Place) (n : ℕ) (p : Place) → n < length places → slice_get (map place_view places) n ≡ Some (place_view (get_or places n p))
place_at places n p within = slice_get-map place_view places n ∙ ap (option_map place_view) (slice_get-get_or places n p within)

-- ---- a form, by its key

pub form_read : (tables : Declared) (kind : Kind) (d : Data) (word : List ℕ) (value : Data) (row : List ℕ × Key) (r : Read) → Some (word, value) ≡ only_member d → Some row ≡ key_named kind word → option_and_then (says row.1) (places_as tables (asks row.1) value) ≡ Some r → read_as tables (a_form kind) d ≡ Some r
form_read tables kind d word value row r is named said =
    ap (read_as tables (a_form kind)) (object-from_only_member d word value is)
    ∙ ap (option_and_then (λ x. option_and_then (says x.1) (places_as tables (asks x.1) value))) (sym named) ∙ said

-- ---- lists

pub each_as-all_of : (tables : Declared) (a : Asked) (ds : Items) → each_as tables a ds ≡ all_of (read_as tables a) ds
each_as-all_of tables a no_items = refl
each_as-all_of tables a (item d ds) = ap (front (read_as tables a d)) (each_as-all_of tables a ds)

-- the expressions that were read
pub expressions_read : (trees : List Source) → expressions_in (reads_of (map expression_read trees)) ≡ trees
expressions_read [] = refl
expressions_read (tree ∷ trees) = ap (λ l. tree ∷ l) (expressions_read trees)

-- the selectors that were read
pub selectors_read : (trees : List Source) → selectors_in (reads_of (map selector_read trees)) ≡ trees
selectors_read [] = refl
selectors_read (tree ∷ trees) = ap (λ l. tree ∷ l) (selectors_read trees)

pub flags_read : (flags : List Bool) → flags_in (reads_of (map flag_read flags)) ≡ flags
flags_read [] = refl
flags_read (flag ∷ flags) = ap (λ l. flag ∷ l) (flags_read flags)

-- a distinct by the selectors that were read, if there are some
pub distinct_said : (input : SourcePlan) (subset : Option (List Source)) (keep : UniqueKeepStrategy)
    → plan_says by.Distinct (plan_read input ∷ subset_read subset ∷ keep_read keep ∷ []) ≡ Some (source_distinct keep subset input)
distinct_said input None keep = refl
distinct_said input (Some trees) keep = ap (λ l. Some (source_distinct keep (Some l) input)) (selectors_read trees)

pub names_read : (names : List Name) → names_in (reads_of (map name_read names)) ≡ names
names_read [] = refl
names_read (name ∷ names) = ap (λ l. name ∷ l) (names_read names)

pub types_read : (types : List DataType) → types_in (reads_of (map (λ dtype. type_read (ty dtype)) types)) ≡ map ty types
types_read [] = refl
types_read (dtype ∷ types) = ap (λ l. ty dtype ∷ l) (types_read types)

pub indexes_read : (indexes : List ℤ) → indexes_in (reads_of (map index_read indexes)) ≡ indexes
indexes_read [] = refl
indexes_read (index ∷ indexes) = ap (λ l. index ∷ l) (indexes_read indexes)

pub all_excluded_read : (xs : List Excluded) → excluded_in (reads_of (map (λ x. excluded_read (excluded_of x)) xs)) ≡ map excluded_of xs
all_excluded_read [] = refl
all_excluded_read (x ∷ xs) = ap (λ l. excluded_of x ∷ l) (all_excluded_read xs)

pub sort_by_said : (expr : Box Expr Global) (by : Exprs) (options : SortMultipleOptions)
    → expression_says of.SortBy (expression_read (tree_of expr.value) ∷ many_read (reads_of (map expression_read (trees_of by))) ∷ leaves_read (leaves.Small smalls.Flag) (reads_of (map flag_read options.descending.items.value.items)) ∷ leaves_read (leaves.Small smalls.Flag) (reads_of (map flag_read options.nulls_last.items.value.items)) ∷ []) ≡ Some (tree_of (SortBy expr by options))
sort_by_said expr by options =
    (λ i. Some (node (Plain (SortByOp (flags_read options.descending.items.value.items i) (flags_read options.nulls_last.items.value.items i))) (more (tree_of expr.value) (children_from (expressions_read (trees_of by) i)))))
    ∙ ap (λ tree. Some tree) (sym (sort_by_listed (SortBy expr by options) expr by options refl).is)

-- a window over its function, its keys and what orders its groups
pub over_said : (function : Box Expr Global) (keys : Exprs) (by : Option (Box Expr Global × SortOptions)) (options : WindowType)
    → expression_says of.Over (expression_read (tree_of function.value) ∷ many_read (reads_of (map expression_read (trees_of keys))) ∷ order_read (way_of by) (order_trees by) ∷ []) ≡ Some (tree_of (Window function keys by options))
over_said function keys by options =
    (λ i. Some (node (Plain (WindowOp (way_of by))) (more (tree_of function.value) (children_from (order_trees by ++ expressions_read (trees_of keys) i)))))
    ∙ ap (λ tree. Some tree) (sym (window_listed (Window function keys by options) function keys by options refl).is)

-- a function over the expressions that were read
pub function_said : (input : Exprs) (function : FunctionExpr)
    → expression_says of.Fn (function_read function ∷ many_read (reads_of (map expression_read (trees_of input))) ∷ []) ≡ Some (tree_of (Function input function))
function_said input function =
    (λ i. Some (node (function_source function) (children_from (expressions_read (trees_of input) i))))
    ∙ ap (λ tree. Some tree) (sym (function_listed (Function input function) input function refl).is)

-- a function over one expression
pub one_said : (input : Exprs) (expr : Expr) (function : FunctionExpr) → input.items.items ≡ expr ∷ [] → tree_of (Function input function) ≡ node (function_source function) (more (tree_of expr) no_more)
one_said input expr function one = (function_listed (Function input function) input function refl).is ∙ (λ i. node (function_source function) (children_from (map tree_of (one i))))

-- an order that is a list
pub order_listed : (tables : Declared) (d : Data) (rs : List Read) (r : Read) → list_as tables order_items d ≡ Some rs → order_says rs ≡ Some r → read_as tables order d ≡ Some r
order_listed tables (array ds) rs r items says = ap (option_and_then order_says) items ∙ says
order_listed tables _ rs r items says = cc

-- an error of that list is one of the order
order_parts : (names : List Name) (d : Data) (step : Step) → part_of (items_of names order_items) step d ≡ part_of (order_form names) step d
order_parts names d (key word) = refl
order_parts names d (number n) = refl

pub order_error : (names : List Name) (d : Data) (error : JsonError) → None ≡ as_null d → IsErrorOf (items_of names order_items) d error → IsErrorOf (order_form names) d error
order_error names d error none bad =
    stricter_error (items_of names order_items) (order_form names) d
    (λ kind h. ap (λ o. unless (shape_fault d) (is_some {T = Unit {0}} o || is_list (λ items. items_len items == length order_items) d)) (sym none) ∙ h)
    (order_parts names d) error bad

-- a list where there may be none
pub optional_listed : (tables : Declared) (a : Asked) (d : Data) (r : Read) → read_as tables (many a) d ≡ Some r → read_as tables (optional a) d ≡ Some r
optional_listed tables a (array ds) r read = read
optional_listed tables a _ r read = cc

-- an error of that list is one of what may be none
optional_parts : (names : List Name) (a : Asked) (d : Data) (step : Step) → part_of (list_of names a) step d ≡ part_of (optional_form names a) step d
optional_parts names a d (key word) = refl
optional_parts names a d (number n) = refl

pub optional_error : (names : List Name) (a : Asked) (d : Data) (error : JsonError) → None ≡ as_null d → IsErrorOf (list_of names a) d error → IsErrorOf (optional_form names a) d error
optional_error names a d error none bad =
    stricter_error (list_of names a) (optional_form names a) d
    (λ kind h. ap (λ o. unless (shape_fault d) (is_some {T = Unit {0}} o || is_list (λ items. true) d)) (sym none) ∙ h)
    (optional_parts names a d) error bad

-- ---- a form by its key

-- the value of a key is a part of a value that has it
pub key_part : (names : List Name) (kind : Kind) (d : Data) (word : List ℕ) (value : Data) (row : List ℕ × Key) → Some (word, value) ≡ only_member d → Some row ≡ key_named kind word → row.0 ≡ word → part_of (keyed_form names kind) (key row.0) d ≡ Some (part (places_form names (asks row.1)) value)
key_part names kind d word value row is named same =
    key_in (key_form names kind) d word row.0 value (places_form names (asks row.1)) is same (ap (option_map (λ r. places_form names (asks r.1))) (sym named))

-- ---- a list of exactly these

-- what is read of items one by one, with something behind the last
these_read : (tables : Declared) (ps : List Asked) (ds : Items) (rs : List Read) → items_len ds ≡ length ps → length ps ≤ length rs → ((n : ℕ) (r : Read) → slice_get rs n ≡ Some r → IsItem tables ps ds n r) → these_as tables ps ds ≡ Some (take (length ps) rs)
these_read tables [] no_items rs count room each = refl
these_read tables (p ∷ ps) (item d ds) (r ∷ rs) count room each =
    let first = each 0 r refl in
    let rest = these_read tables ps ds rs (omega (arith, count)) (omega (arith, room)) (λ n x at. record { read = λ q e asked here. (each (suc n) x at).read q e asked here }) in
    ap (λ o. front o (these_as tables ps ds)) (first.read p d refl refl) ∙ ap (front (Some r)) rest
these_read tables _ _ _ count room each = absurd (omega (arith, count, room))

one_of_five : (tables : Declared) (ps : List Asked) (ds : Items) (a b c e f : Read) → IsItem tables ps ds 0 a → IsItem tables ps ds 1 b → IsItem tables ps ds 2 c → IsItem tables ps ds 3 e → IsItem tables ps ds 4 f → (n : ℕ) (r : Read) → slice_get (a ∷ b ∷ c ∷ e ∷ f ∷ []) n ≡ Some r → IsItem tables ps ds n r
one_of_five tables ps ds a b c e f first second third fourth fifth zero r at = let same : a ≡ r = cc in subst (IsItem tables ps ds 0) same first
one_of_five tables ps ds a b c e f first second third fourth fifth (suc zero) r at = let same : b ≡ r = cc in subst (IsItem tables ps ds 1) same second
one_of_five tables ps ds a b c e f first second third fourth fifth (suc (suc zero)) r at = let same : c ≡ r = cc in subst (IsItem tables ps ds 2) same third
one_of_five tables ps ds a b c e f first second third fourth fifth (suc (suc (suc zero))) r at = let same : e ≡ r = cc in subst (IsItem tables ps ds 3) same fourth
one_of_five tables ps ds a b c e f first second third fourth fifth (suc (suc (suc (suc zero)))) r at = let same : f ≡ r = cc in subst (IsItem tables ps ds 4) same fifth
one_of_five tables ps ds a b c e f first second third fourth fifth (suc (suc (suc (suc (suc n))))) r at = cc

pub five_read : (tables : Declared) (places : List Place) (vs : List Value) (a b c e f : Read) → length vs ≡ length places → length places ≤ 5 → let ps = map place_view places in let ds = items_view vs in
    IsItem tables ps ds 0 a → IsItem tables ps ds 1 b → IsItem tables ps ds 2 c → IsItem tables ps ds 3 e → IsItem tables ps ds 4 f → these_as tables ps ds ≡ Some (take (length places) (a ∷ b ∷ c ∷ e ∷ f ∷ []))
five_read tables places vs a b c e f count short first second third fourth fifth =
    let ps = map place_view places in
    let ds = items_view vs in
    let same : length ps ≡ length places = length-map places place_view in
    these_read tables ps ds (a ∷ b ∷ c ∷ e ∷ f ∷ []) (items_len-items_view vs ∙ count ∙ sym same) (subst (λ n. n ≤ 5) (sym same) short) (one_of_five tables ps ds a b c e f first second third fourth fifth)
    ∙ ap (λ n. Some (take n (a ∷ b ∷ c ∷ e ∷ f ∷ []))) same

-- the item of a number, by the place of that number
pub item_read : (tables : Declared) (places : List Place) (vs : List Value) (n : ℕ) (p : Place) (v : Value) (r : Read) → length vs ≡ length places → n < length places → v ≡ get_or vs n v
    → read_as tables (place_view (get_or places n p)) (view v) ≡ Some r → IsItem tables (map place_view places) (items_view vs) n r
item_read tables places vs n p v r count within here read = record {
  read = λ q d asked at.
      let own : q ≡ place_view (get_or places n p) = same_Some _ _ (sym asked ∙ place_at places n p within) in
      let value : d ≡ view v = same_Some _ _ (sym at ∙ item_at vs n v (subst (λ k. n < k) (sym count) within) here) in (λ i. read_as tables (own i) (value i)) ∙ read;
}

-- the item of a number is a part
pub item_part_at : (names : List Name) (places : List Place) (vs : List Value) (n : ℕ) (p : Place) (v : Value) → length vs ≡ length places → n < length places → v ≡ get_or vs n v
    → part_of (items_of names (map place_view places)) (number n) (array (items_view vs)) ≡ Some (part (asked_form names (place_view (get_or places n p))) (view v))
item_part_at names places vs n p v count within here =
    let ps = map place_view places in
    ap (λ b. cond b (option_map (λ (q : Asked × Data). part (asked_form names q.0) q.1) (both (slice_get ps n) (get_item n (items_view vs)))) None) (eq-eqb _ _ (items_len-items_view vs ∙ count ∙ sym (length-map places place_view)))
    ∙ ap (λ o. option_map (λ (q : Asked × Data). part (asked_form names q.0) q.1) (both o (get_item n (items_view vs)))) (place_at places n p within)
    ∙ ap (λ o. option_map (λ (q : Asked × Data). part (asked_form names q.0) q.1) (both (Some (place_view (get_or places n p))) o)) (item_at vs n v (subst (λ k. n < k) (sym count) within) here)

-- a list of another number of items
pub other_count : (names : List Name) (places : List Place) (vs : List Value) (d : Data) → Some (items_view vs) ≡ as_array d → (length vs ≡ length places → ⊥) → own_fault (items_of names (map place_view places)) d ≡ Some (shape_fault d)
other_count names places vs d is other =
    let ps = map place_view places in
    ap (λ o. unless (shape_fault d) (option_map_or (λ items. items_len items == length ps) o false)) (sym is)
    ∙ ap (unless (shape_fault d)) (ne_eqb _ _ (λ same. other (sym (items_len-items_view vs) ∙ same ∙ length-map places place_view)))

-- ---- a list of any number

pub each_read : (tables : Declared) (a : Asked) (d : Data) (ds : Items) (rs : List Read) → Some ds ≡ as_array d → all_of (read_as tables a) ds ≡ Some rs → read_as tables (many a) d ≡ Some (list_read a (reads_of rs))
each_read tables a d ds rs is read =
    ap (read_as tables (many a)) (array-from_as_array d ds is) ∙ ap (option_map (λ xs. list_read a (reads_of xs))) (each_as-all_of tables a ds ∙ read)

-- ---- options that are set

abbrev sets : PlanOption → Bool
sets (ProjectionOption options) = options.duplicate_check
sets (OrderOption maintain_order) = maintain_order
sets (HitsOption hits) = false

abbrev any_sets : List PlanOption → Bool
any_sets [] = false
any_sets (option ∷ options) = sets option || any_sets options

-- a function has no option that is set
unset_call : (function : DslFunction) (options : List PlanOption) → any_sets (call_option function ++ options) ≡ any_sets options
unset_call (Stats statistic) options = refl
unset_call _ options = refl

flags_in_options : (plan : DslPlan) → has_flags plan ≡ any_sets (options_in plan)
flags_in_options (DataFrameScan table schema) = refl
flags_in_options (Select' expr p input options) = ap (λ b. options.duplicate_check || b) (flags_in_options input)
flags_in_options (HStack' exprs p input options) = ap (λ b. options.duplicate_check || b) (flags_in_options input)
flags_in_options (GroupBy' p input keys aggs maintain_order) = ap (λ b. maintain_order || b) (flags_in_options input)
flags_in_options (Filter' p input predicate) = flags_in_options input
flags_in_options (MapFunction' p input function) = flags_in_options input ∙ sym (unset_call function (options_in input))
flags_in_options (Sort' p input by_column sort_options) = flags_in_options input
flags_in_options (Distinct' p input options) = ap (λ b. options.maintain_order || b) (flags_in_options input)
flags_in_options (Slice' p input offset len) = flags_in_options input
flags_in_options (Cache' p input id) = flags_in_options input
flags_in_options (Sink' p input payload) = flags_in_options input

-- a plan with the options of another, and with one more that isn't set, has no flags where that has none
pub same_flags : (plan other : DslPlan) → options_in other ≡ options_in plan → has_flags plan ≡ false → has_flags other ≡ false
same_flags plan other same none = flags_in_options other ∙ ap any_sets same ∙ sym (flags_in_options plan) ∙ none

pub unset_flags : (plan other : DslPlan) → options_in other ≡ ProjectionOption (record { duplicate_check = false }) ∷ options_in plan → has_flags plan ≡ false → has_flags other ≡ false
unset_flags plan other same none = flags_in_options other ∙ ap any_sets same ∙ sym (flags_in_options plan) ∙ none
