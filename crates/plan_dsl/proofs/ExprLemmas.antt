-- The expressions of a node, as the row that it keeps and as a list.
use Rattle.std.proofs.Common.{◌≡◌, ◌≢◌, ℕ, suc, Bool, true, false, cond, ◌&&◌, List, [], ◌∷◌, ◌++◌, map, length, Option, Some, None, Result, Ok, Err, IfOk, refl, sym, ap, ◌∙◌}
use Rattle.std.proofs.Math.Bool.{and-true, and-false}
use Rattle.std.proofs.lemmas.List.{append_assoc, map-append}
use Rattle.std.specs.Global.{Box, Vec}
use Rattle.std.specs.Cmp.Derive.Mapped.{items_map, pointwise-map}
use Rattle.std.specs.Cmp.Lexicographic.{pointwise}
use Rattle.std.specs.Hash as fed
use Rattle.std.specs.Hash.{fed_then}
use Rattle.std.specs.List.{fold, list_all}
use Rattle.std.specs.Option.{option_map}
use mathlib.Core.Former.{Count}
use Rattle.plan_dsl.specs.Copies.{put, all_put, put_below}
use Rattle.plan_dsl.specs.Trees.{Trees, node, no_more, more, children_from, top_op}
use Rattle.plan_types.specs.Schemas.{Name}
use Rattle.plan_types.specs.Types.{ty, same_type}
use Rattle.plan_types.specs.declared.dtype.DataType.{DataType}
use Rattle.plan_dsl.specs.declared.marker.Excluded.{Excluded}
use Rattle.plan_dsl.specs.declared.function_expr.FunctionExpr.TheVariants.{AllHorizontal, AnyHorizontal, IsNull, IsNotNull, FillNull, IsIn, ShiftAndFill, ListGet, FieldByName, FieldByIndex}
use Rattle.plan_dsl.specs.Functions.{function_writes, is_expanded_function, same_function}
use Rattle.plan_dsl.specs.Ops.{Op, ColumnOp, WindowOp}
use Rattle.plan_dsl.specs.Expansion.{all_with_column_put, is_marker, with_column_put}
use Rattle.plan_dsl.specs.Expressions.{excluded_of, order_trees, function_source, tree_of, row_trees, sort_by_op, trees_of, way_of}
use Rattle.plan_dsl.specs.SameExpressions.{same_order, same_sort, same_trees, trees_writes}
use Rattle.plan_dsl.specs.Sources.{is_plain, all_are_plain, excluded_writes, same_excluded, SourceOp, Plain, Source, same_source_op, same_source, source_op_writes, source_writes}
use Rattle.plan_dsl.specs.declared.expr.Expr.{Expr, DtypeColumn, Exclude, SortBy, SortBy', Window, Window', Function, Function', Row_of-Expr, end_of-Expr, more_of-Expr, items-the_row-Expr, items_hidden-the_row-Expr-0}
use Rattle.plan_dsl.specs.declared.expr.Exprs.{Exprs}
use Rattle.plan_dsl.specs.declared.function_expr.FunctionExpr.{FunctionExpr}
use Rattle.plan_dsl.specs.declared.sort_options.SortMultipleOptions.{SortMultipleOptions}
use Rattle.plan_dsl.specs.declared.sort_options.SortOptions.{SortOptions}
use Rattle.plan_dsl.specs.declared.window.WindowType.{WindowType}

row_children : (n : _) (row : Row_of-Expr n) → row_trees row ≡ children_from (map tree_of (items-the_row-Expr n row))
row_children n end_of-Expr = refl
row_children n (more_of-Expr first rest) = ap (more (tree_of first)) (row_children _ rest)

-- ---- one operand and a list, of any kind

-- a tree of an op over one operand and a list
pub record IsListed (tree : Source) (op : SourceOp) (first : Source) (rest : List Source) : Type 0 where
  pub is : tree ≡ node op (more first (children_from rest))

-- of a value that keeps a row, over the items of that row
row_listed : (value : Expr) (op : SourceOp) (first : Source) (row : (n : Count) × Row_of-Expr n) (items : List Expr) → tree_of value ≡ node op (more first (row_trees row.1)) → items-the_row-Expr row.0 row.1 ≡ items → IsListed (tree_of value) op first (map tree_of items)
row_listed value op first row items is shown = record {
  is = is ∙ ap (λ rest. node op (more first rest)) (row_children row.0 row.1 ∙ ap (λ items. children_from (map tree_of items)) shown);
}

-- compared
pub listed_compared : {a b : Source} {op own : SourceOp} {first other : Source} {rest others : List Source} {result : Bool} → IsListed a op first rest → IsListed b own other others → true ≡ same_source_op op own → true ≡ same_source first other → result ≡ same_trees same_source_op (children_from rest) (children_from others) → result ≡ same_source a b
listed_compared left right ops firsts rests = (λ i. ops i && (firsts i && rests i)) ∙ sym (λ i. same_source (left.is i) (right.is i))

-- with plans' ops alone
each_is_plain : (sources : List Source) → all_are_plain (children_from sources) ≡ list_all is_plain sources
each_is_plain [] = refl
each_is_plain (source ∷ sources) = ap (λ b. is_plain source && b) (each_is_plain sources)

pub listed_plain : {tree : Source} {op : Op} {first : Source} {rest : List Source} → IsListed tree (Plain op) first rest → is_plain tree ≡ (is_plain first && list_all is_plain rest)
listed_plain {tree} {op} {first} {rest} listed = ap is_plain listed.is ∙ ap (λ b. is_plain first && b) (each_is_plain rest)

-- lists of other lengths aren't the same
pub exprs_apart : (left right : List Expr) → length left ≢ length right → false ≡ same_trees same_source_op (children_from (map tree_of left)) (children_from (map tree_of right))
exprs_apart [] [] n = absurd (n refl)
exprs_apart [] (y ∷ ys) n = refl
exprs_apart (x ∷ xs) [] n = refl
exprs_apart (x ∷ xs) (y ∷ ys) n =
    sym (and-false (same_source (tree_of x) (tree_of y))) ∙ ap (λ b. same_source (tree_of x) (tree_of y) && b) (exprs_apart xs ys (λ e. n (ap suc e)))

-- fed to a hasher
pub listed_fed : {S : Type 0} (write : S → List ℕ → S) (s : S) {t u v : S} {tree : Source} {op : SourceOp} {first : Source} {rest : List Source} → IsListed tree op first rest
    → t ≡ fold write s (source_op_writes (top_op tree)) → u ≡ fold write t (source_writes first) → v ≡ fold write u (trees_writes source_op_writes (children_from rest)) → v ≡ fold write s (source_writes tree)
listed_fed write s {t} {u} {v} {tree} {op} {first} {rest} listed own each others =
    let values = source_writes first in
    let keys = trees_writes source_op_writes (children_from rest) in
    fed_then write s t v (source_op_writes op) (values ++ keys) (own ∙ ap (λ x. fold write s (source_op_writes (top_op x))) listed.is) (fed_then write t u v values keys each others) ∙ ap (λ x. fold write s (source_writes x)) (sym listed.is)

-- ---- a list of operands alone, of any kind

-- a tree of an op over a list
pub record IsOfEach (tree : Source) (op : SourceOp) (each : List Source) : Type 0 where
  pub is : tree ≡ node op (children_from each)

-- compared
pub each_compared : {a b : Source} {op own : SourceOp} {each others : List Source} {result : Bool} → IsOfEach a op each → IsOfEach b own others → true ≡ same_source_op op own → result ≡ same_trees same_source_op (children_from each) (children_from others) → result ≡ same_source a b
each_compared left right ops rests = (λ i. ops i && rests i) ∙ sym (λ i. same_source (left.is i) (right.is i))

pub each_apart : {a b : Source} {op own : SourceOp} {each others : List Source} → IsOfEach a op each → IsOfEach b own others → false ≡ same_source_op op own → false ≡ same_source a b
each_apart {each = each} {others} left right ops = ap (λ b. b && same_trees same_source_op (children_from each) (children_from others)) ops ∙ sym (λ i. same_source (left.is i) (right.is i))

-- with plans' ops alone
pub of_each_plain : {tree : Source} {op : Op} {each : List Source} → IsOfEach tree (Plain op) each → is_plain tree ≡ list_all is_plain each
of_each_plain {each = each} listed = ap is_plain listed.is ∙ each_is_plain each

-- fed to a hasher
pub each_fed : {S : Type 0} (write : S → List ℕ → S) (s : S) {t u : S} {tree : Source} {op : SourceOp} {each : List Source} → IsOfEach tree op each
    → t ≡ fold write s (source_op_writes (top_op tree)) → u ≡ fold write t (trees_writes source_op_writes (children_from each)) → u ≡ fold write s (source_writes tree)
each_fed write s {t} {u} {tree} {op} {each} listed own others =
    fed_then write s t u (source_op_writes op) (trees_writes source_op_writes (children_from each)) (own ∙ ap (λ x. fold write s (source_op_writes (top_op x))) listed.is) others
    ∙ ap (λ x. fold write s (source_writes x)) (sym listed.is)

-- ---- the kinds with a list

abbrev row_of : Expr → (n : Count) × Row_of-Expr n
row_of (SortBy' p expr _ row options) = (_, row)
row_of (Window' p function _ row order options) = (_, row)
row_of (Function' _ row function) = (_, row)
row_of _ = (_, end_of-Expr)

pub sort_by_listed : (value : Expr) (expr : Box Expr) (by : Exprs) (options : SortMultipleOptions) → value ≡ SortBy expr by options → IsListed (tree_of value) (Plain (sort_by_op options)) (tree_of expr.value) (trees_of by)
sort_by_listed value expr by options is = row_listed value (Plain (sort_by_op options)) (tree_of expr.value) (row_of (SortBy expr by options)) by.items.items (ap tree_of is) (items_hidden-the_row-Expr-0 by.items)

pub function_listed : (value : Expr) (input : Exprs) (function : FunctionExpr) → value ≡ Function input function → IsOfEach (tree_of value) (function_source function) (trees_of input)
function_listed value input function is =
    let row = row_of (Function input function) in
    record {
      is = ap tree_of is ∙ ap (node (function_source function)) (row_children row.0 row.1 ∙ ap (λ items. children_from (map tree_of items)) (items_hidden-the_row-Expr-0 input.items));
    }

-- functions that are one, over the same operands
same_sources : (function other : FunctionExpr) → same_source_op (function_source function) (function_source other) ≡ same_function function other
same_sources (FieldByIndex place) (FieldByIndex other) = refl
same_sources (FieldByIndex place) _ = refl
same_sources _ (FieldByIndex place) = refl
same_sources function other = and-true (same_function function other)

pub functions_compared : (function other : FunctionExpr) {test : Bool} → test ≡ same_function function other → test ≡ same_source_op (function_source function) (function_source other)
functions_compared function other same = same ∙ sym (same_sources function other)

-- a function has plans' ops alone where expansion leaves it, and its operands have
pub function_plain : (function : FunctionExpr) (tree : Source) (each : List Source) → IsOfEach tree (function_source function) each → is_plain tree ≡ (is_expanded_function function && list_all is_plain each)
function_plain (FieldByIndex place) tree each listed = ap is_plain listed.is
function_plain AllHorizontal tree each listed = of_each_plain listed
function_plain AnyHorizontal tree each listed = of_each_plain listed
function_plain IsNull tree each listed = of_each_plain listed
function_plain IsNotNull tree each listed = of_each_plain listed
function_plain FillNull tree each listed = of_each_plain listed
function_plain IsIn tree each listed = of_each_plain listed
function_plain ShiftAndFill tree each listed = of_each_plain listed
function_plain (ListGet flag) tree each listed = of_each_plain listed
function_plain (FieldByName name) tree each listed = of_each_plain listed

-- what it feeds to a hasher beside its operands
pub function_writes_so : (function : FunctionExpr) → source_op_writes (function_source function) ≡ fed.u8 24 ++ function_writes function
function_writes_so (FieldByIndex place) = refl
function_writes_so _ = refl

-- no marker is one
pub function_marks : (function : FunctionExpr) → is_marker (function_source function) ≡ false
function_marks (FieldByIndex place) = refl
function_marks _ = refl

-- a window's list: what orders its groups, if anything does, and its keys
pub window_listed : (value : Expr) (function : Box Expr) (keys : Exprs) (order : Option (Box Expr × SortOptions)) (options : WindowType) → value ≡ Window function keys order options
    → IsListed (tree_of value) (Plain (WindowOp (way_of order))) (tree_of function.value) (order_trees order ++ trees_of keys)
window_listed value function keys None options is = row_listed value (Plain (WindowOp None)) (tree_of function.value) (row_of (Window function keys None options)) keys.items.items (ap tree_of is) (items_hidden-the_row-Expr-0 keys.items)
window_listed value function keys (Some order) options is =
    let row = row_of (Window function keys (Some order) options) in
    record {
      is = ap tree_of is ∙ ap (λ rest. node (Plain (WindowOp (Some order.1))) (more (tree_of function.value) (more (tree_of order.0.value) rest)))
          (row_children row.0 row.1 ∙ ap (λ items. children_from (map tree_of items)) (items_hidden-the_row-Expr-0 keys.items));
    }

-- compared
moved : (way first order keys : Bool) → (way && (first && (order && keys))) ≡ ((way && (order && true)) && (first && keys))
moved false first order keys = refl
moved true true true keys = refl
moved true true false keys = refl
moved true false true keys = refl
moved true false false keys = refl

abbrev orders_compared : Option (Box Expr × SortOptions) → Option (Box Expr × SortOptions) → Bool
orders_compared order own = same_order (way_of order) (way_of own) && same_trees same_source_op (children_from (order_trees order)) (children_from (order_trees own))

pub windows_compared : (order own : Option (Box Expr × SortOptions)) (keys others : List Source) {a b first other : Source}
    → IsListed a (Plain (WindowOp (way_of order))) first (order_trees order ++ keys) → IsListed b (Plain (WindowOp (way_of own))) other (order_trees own ++ others)
    → same_source a b ≡ (orders_compared order own && (same_source first other && same_trees same_source_op (children_from keys) (children_from others)))
windows_compared None None keys others left right = λ i. same_source (left.is i) (right.is i)
windows_compared None (Some own) keys others left right = λ i. same_source (left.is i) (right.is i)
windows_compared (Some order) None keys others left right = λ i. same_source (left.is i) (right.is i)
windows_compared (Some order) (Some own) keys others {a} {b} {first} {other} left right =
    (λ i. same_source (left.is i) (right.is i)) ∙ moved (same_sort order.1 own.1) (same_source first other) (same_source (tree_of order.0.value) (tree_of own.0.value)) (same_trees same_source_op (children_from keys) (children_from others))

-- fed to a hasher
trees_written : (first rest : List Source) → trees_writes source_op_writes (children_from (first ++ rest)) ≡ trees_writes source_op_writes (children_from first) ++ trees_writes source_op_writes (children_from rest)
trees_written [] rest = refl
trees_written (tree ∷ first) rest = ap (λ x. source_writes tree ++ x) (trees_written first rest) ∙ sym (append_assoc (source_writes tree) (trees_writes source_op_writes (children_from first)) (trees_writes source_op_writes (children_from rest)))

pub joined_fed : {S : Type 0} (write : S → List ℕ → S) (s : S) {t u : S} (first rest : List Source) → t ≡ fold write s (trees_writes source_op_writes (children_from first)) → u ≡ fold write t (trees_writes source_op_writes (children_from rest))
    → u ≡ fold write s (trees_writes source_op_writes (children_from (first ++ rest)))
joined_fed write s {t} {u} first rest own others =
    fed_then write s t u (trees_writes source_op_writes (children_from first)) (trees_writes source_op_writes (children_from rest)) own others ∙ ap (fold write s) (sym (trees_written first rest))

-- ---- markers that hold lists

pub types_compared : {a b : Expr} (types own : Vec DataType) {result : Bool} → a ≡ DtypeColumn types → b ≡ DtypeColumn own → result ≡ pointwise (λ x y. same_type (ty x) (ty y)) types.items own.items → result ≡ same_source (tree_of a) (tree_of b)
types_compared types own left right compared =
    compared ∙ sym (pointwise-map ty same_type types.items own.items) ∙ sym (and-true (pointwise same_type (map ty types.items) (map ty own.items))) ∙ sym (λ i. same_source (tree_of (left i)) (tree_of (right i)))

same_excludes : (marker other : Box Expr) (excluded own : Vec Excluded) → same_source (tree_of (Exclude marker excluded)) (tree_of (Exclude other own)) ≡ (pointwise (λ x y. same_excluded (excluded_of x) (excluded_of y)) excluded.items own.items && same_source (tree_of marker.value) (tree_of other.value))
same_excludes marker other excluded own = λ i. pointwise-map excluded_of same_excluded excluded.items own.items i && and-true (same_source (tree_of marker.value) (tree_of other.value)) i

pub excludes_compared : {a b : Expr} (marker other : Box Expr) (excluded own : Vec Excluded) {result : Bool} → a ≡ Exclude marker excluded → b ≡ Exclude other own → true ≡ pointwise (λ x y. same_excluded (excluded_of x) (excluded_of y)) excluded.items own.items → result ≡ same_source (tree_of marker.value) (tree_of other.value) → result ≡ same_source (tree_of a) (tree_of b)
excludes_compared marker other excluded own left right lists markers =
    (λ i. lists i && markers i) ∙ sym (same_excludes marker other excluded own) ∙ sym (λ i. same_source (tree_of (left i)) (tree_of (right i)))

pub excludes_apart : {a b : Expr} (marker other : Box Expr) (excluded own : Vec Excluded) → a ≡ Exclude marker excluded → b ≡ Exclude other own → false ≡ pointwise (λ x y. same_excluded (excluded_of x) (excluded_of y)) excluded.items own.items → false ≡ same_source (tree_of a) (tree_of b)
excludes_apart marker other excluded own left right lists =
    (λ i. lists i && same_source (tree_of marker.value) (tree_of other.value)) ∙ sym (same_excludes marker other excluded own) ∙ sym (λ i. same_source (tree_of (left i)) (tree_of (right i)))

pub exclude_fed : {S : Type 0} (write : S → List ℕ → S) (s : S) {t u : S} {expr : Expr} (marker : Box Expr) (excluded : Vec Excluded) → expr ≡ Exclude marker excluded
    → t ≡ fold write s (fed.u8 16) → u ≡ fold write t (fed.slice (λ x. excluded_writes (excluded_of x)) excluded.items) → u ≡ fold write s (source_op_writes (top_op (tree_of expr)))
exclude_fed write s {t} {u} marker excluded is own each =
    fed_then write s t u (fed.u8 16) (fed.slice (λ x. excluded_writes (excluded_of x)) excluded.items) own each
    ∙ ap (λ x. fold write s (fed.u8 16 ++ x)) (sym (items_map excluded_of excluded_writes excluded.items)) ∙ sym (ap (λ x. fold write s (source_op_writes (top_op (tree_of x)))) is)

-- ---- copies with a column in place of markers, or without

own_each : (children : Trees SourceOp) → all_put None children ≡ children
own_each no_more = refl
own_each (more child rest) = ap (more child) (own_each rest)

own_below : (b : Bool) (op : SourceOp) (children : Trees SourceOp) → node op (cond b children (all_put None children)) ≡ node op children
own_below true op children = refl
own_below false op children = ap (node op) (own_each children)

pub put_own : (source : Source) → put_below None source ≡ put None source
put_own (node op children) = own_below (is_marker op) op children

each_put : (name : Name) (children : Trees SourceOp) → all_put (Some name) children ≡ all_with_column_put name children
each_put name no_more = refl
each_put name (more child rest) = ap (more (with_column_put name child)) (each_put name rest)

-- a marker
pub column_put : (name : Name) (source : Source) → true ≡ is_marker (top_op source) → node (Plain (ColumnOp name)) no_more ≡ put (Some name) source
column_put name (node op children) marks = ap (λ b. cond b (node (Plain (ColumnOp name)) no_more) (node op (all_with_column_put name children))) marks

-- what is none
pub below_put : (name : Name) (source : Source) → false ≡ is_marker (top_op source) → put_below (Some name) source ≡ put (Some name) source
below_put name (node op children) marks =
    sym (ap (λ b. node op (cond b children (all_put (Some name) children))) marks) ∙ ap (node op) (each_put name children) ∙ ap (λ b. cond b (node (Plain (ColumnOp name)) no_more) (node op (all_with_column_put name children))) marks

-- of a list
row_put : (column : Option Name) (sources : List Source) → children_from (map (put column) sources) ≡ all_put column (children_from sources)
row_put column [] = refl
row_put column (source ∷ sources) = ap (more (put column source)) (row_put column sources)

pub listed_copied : {tree copy : Source} {op : Op} {own : SourceOp} {first other : Source} {rest others : List Source} (column : Option Name) → IsListed tree (Plain op) first rest → IsListed copy own other others → own ≡ Plain op → other ≡ put column first → others ≡ map (put column) rest → copy ≡ put_below column tree
listed_copied {rest = rest} column listed copied ops firsts rests =
    copied.is ∙ (λ i. node (ops i) (more (firsts i) ((ap children_from rests ∙ row_put column rest) i))) ∙ sym (ap (put_below column) listed.is)

pub each_copied : {tree copy : Source} {op own : SourceOp} {each others : List Source} (column : Option Name) → IsOfEach tree op each → IsOfEach copy own others → is_marker op ≡ false → own ≡ op → others ≡ map (put column) each → copy ≡ put_below column tree
each_copied {op = op} {each = each} column listed copied marks ops rests =
    copied.is ∙ (λ i. node (ops i) ((ap children_from rests ∙ row_put column each) i))
    ∙ ap (λ b. node op (cond b (children_from each) (all_put column (children_from each)))) (sym marks)
    ∙ sym (ap (put_below column) listed.is)

pub own_list : (sources : List Source) → map (put None) sources ≡ sources
own_list [] = refl
own_list (source ∷ sources) = ap (λ rest. source ∷ rest) (own_list sources)

-- what orders a window's groups, in front of its keys
pub put_behind : (column : Option Name) (orders keys : List Source) {own others : List Source} → own ≡ map (put column) orders → others ≡ map (put column) keys → own ++ others ≡ map (put column) (orders ++ keys)
put_behind column orders keys made rest = (λ i. made i ++ rest i) ∙ sym (map-append (put column) orders keys)

-- a copy of a node, from that of what stands below it
pub copied_alone : {T : Type 0} {copy : Source} {column : Option T} (tree : Source) (name_of : T → Name) → column ≡ None → copy ≡ put_below (option_map name_of column) tree → copy ≡ put (option_map name_of column) tree
copied_alone tree name_of is made =
    made ∙ ap (λ x. put_below (option_map name_of x) tree) is ∙ put_own tree ∙ sym (ap (λ x. put (option_map name_of x) tree) is)

pub copied_below : {T : Type 0} {copy : Source} {column : Option T} (tree : Source) (name_of : T → Name) (name : T) → column ≡ Some name → false ≡ is_marker (top_op tree) → copy ≡ put_below (option_map name_of column) tree → copy ≡ put (option_map name_of column) tree
copied_below tree name_of name is marks made =
    made ∙ ap (λ x. put_below (option_map name_of x) tree) is ∙ below_put (name_of name) tree marks ∙ sym (ap (λ x. put (option_map name_of x) tree) is)

-- ---- answers

-- what an answer says of a value says it of what the value is
pub if_same : {T E A : Type 0} (r : Result T E) (f : T → A) {x y : A} → x ≡ y → IfOk r (λ t. f t ≡ x) → IfOk r (λ t. f t ≡ y)
if_same (Ok t) f same h = h ∙ same
if_same (Err e) f same h = tt
