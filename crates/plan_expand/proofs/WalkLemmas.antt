-- Walks over operands, one by one.
use Rattle.std.proofs.Common.{◌≡◌, ◌<◌, ◌≤◌, ◌+◌, ◌-◌, ℕ, suc, zero, List, [], ◌∷◌, ◌++◌, map, drop, length, slice_get, Bor, Option, Some, None, Bool, true, false, cond, ◌&&◌, refl, sym, ap, ◌∙◌, arith}
use Rattle.std.specs.List.{flat_map, list_all}
use Rattle.std.specs.Option.{option_map, option_or}
use Rattle.std.proofs.Math.ListN.{drop_of_length-le}
use Rattle.std.proofs.lemmas.List.Folds.{list_all-append}
use Rattle.std.specs.Slice.{IsItemAt}
use Rattle.std.proofs.lemmas.Option.{get_or_from_slice_get, slice_get-get_or, slice_get-map, slice_get_past, slice_get_within}
use Rattle.plan_types.proofs.ListLemmas.{item_left}
use Rattle.plan_types.specs.Schemas.{Name}
use Rattle.plan_types.specs.declared.text.PlSmallStr.{PlSmallStr}
use Rattle.plan_dsl.specs.Expansion.{is_marker, markers_in, all_markers_in, first_root, root_name, root_of_node}
use Rattle.plan_dsl.specs.Expressions.{function_source, plain_tree, tree_of}
use Rattle.plan_dsl.specs.Functions.{is_expanded_function}
use Rattle.plan_dsl.specs.Ops.{Op, LenOp}
use Rattle.plan_dsl.specs.Sources.{Source, SourceOp, Plain, unwritten, all_unwritten}
use Rattle.plan_dsl.specs.Trees.{Trees, node, no_more, more, children_from, fold_all, top_op, tree_depth, trees_depth}
use Rattle.plan_dsl.specs.declared.expr.Expr.{Expr, Column}
use Rattle.plan_dsl.specs.declared.expr.Expr.TheVariants.{Exclude', Function', KeepName', RenameAlias', Selector}
use Rattle.plan_dsl.specs.declared.function_expr.FunctionExpr.{FunctionExpr}
use Rattle.plan_dsl.specs.declared.function_expr.FunctionExpr.TheVariants.{FieldByIndex}
use Rattle.plan_dsl.proofs.ExprLemmas.{IsListed, IsOfEach}
use Rattle.plan_expand.specs.Walks.{children_of, is_of_plans, operands_in, first_of, first_marker, first_marker_of, first_root_of, plan_operands_in}

-- ---- operands

children_listed : (sources : List Source) → children_of (children_from sources) ≡ sources
children_listed [] = refl
children_listed (source ∷ sources) = ap (λ l. source ∷ l) (children_listed sources)

-- of a kind with a list
pub operands_listed : {tree : Source} {op : Op} {first : Source} {rest : List Source} → IsListed tree (Plain op) first rest → Some (first ∷ rest) ≡ operands_in tree
operands_listed {tree} {op} {first} {rest} listed = sym (ap operands_in listed.is ∙ ap (λ l. Some (first ∷ l)) (children_listed rest))

-- of a kind with a list alone
pub operands_of_each : {tree : Source} {op : SourceOp} {each : List Source} → IsOfEach tree op each → is_marker op ≡ false → Some each ≡ operands_in tree
operands_of_each {tree} {op} {each} listed marks =
    sym (ap operands_in listed.is ∙ ap (λ b. cond b None (Some (children_of (children_from each)))) marks ∙ ap Some (children_listed each))

-- those of what has an op of plans
pub plan_operands_are : (source : Source) (trees : List Source) → Some trees ≡ plan_operands_in source → Some trees ≡ operands_in source
plan_operands_are (node (Plain op) children) trees are = are
plan_operands_are (node op children) trees are = absurd cc

children_unwritten : (children : Trees SourceOp) → all_unwritten children ≡ children_from (map unwritten (children_of children))
children_unwritten no_more = refl
children_unwritten (more child rest) = ap (more (unwritten child)) (children_unwritten rest)

-- such a one is its op over them in a plan, and any other is none
pub over_operands : (source : Source) (trees : List Source) → Some trees ≡ plan_operands_in source → unwritten source ≡ node (top_op (unwritten source)) (children_from (map unwritten trees))
over_operands (node (Plain op) children) trees are =
    let same : children_of children ≡ trees = cc in
    ap (node op) (children_unwritten children ∙ ap (λ l. children_from (map unwritten l)) same)
over_operands (node op children) trees are = absurd cc

pub none_of_plans : (source : Source) → None ≡ plan_operands_in source → unwritten source ≡ node LenOp no_more
none_of_plans (node (Plain op) children) none = absurd cc
none_of_plans (node op children) none = refl

-- what a list lends at a place
pub lent_at : {X A : Type 0} (view : X → A) (items : List X) (place : ℕ) (lent : Option (Bor X)) → IsItemAt items place lent → option_map (λ item. view item.now) lent ≡ slice_get (map view items) place
lent_at view items place None h = sym (slice_get-map view items place ∙ ap (option_map view) (slice_get_past items place h.3))
lent_at view items place (Some item) h =
    sym (slice_get-map view items place ∙ ap (option_map view) (slice_get-get_or items place item.now h.3.0 ∙ ap Some (sym h.1)))

-- past a first one a list goes on
pub behind_first : {A : Type 0} (first : A) (items : List A) (place : ℕ) → 0 < place → slice_get (first ∷ items) place ≡ slice_get items (place - 1)
behind_first first items zero far = absurd (omega (arith, far))
behind_first first items (suc place) far = let left : place ≡ suc place - 1 = omega arith in ap (slice_get items) left

-- the operand at a place, in front of those behind it
pub at_place : {A : Type 0} (items : List A) (place : ℕ) (item : A) → Some item ≡ slice_get items place → drop place items ≡ item ∷ drop (place + 1) items
at_place items place item is =
    let at = sym is in
    item_left items place item item (slice_get_within items place item at) (sym (get_or_from_slice_get items place item item at))

pub not_past : {A : Type 0} (items : List A) (place count : ℕ) → count ≡ length items → place < count → None ≡ slice_get items place → ⊥
not_past [] place count is within none = omega (arith, is)
not_past (item ∷ items) place count is within none =
    let found = slice_get-get_or (item ∷ items) place item (omega (arith, is)) in cc

pub none_left : {A : Type 0} (items : List A) (place count : ℕ) → count ≡ length items → count ≤ place → drop place items ≡ []
none_left items place count is past = drop_of_length-le items (omega (arith, is))

-- an operand is less deep
child_below : (children : Trees SourceOp) (place : ℕ) (tree : Source) → Some tree ≡ slice_get (children_of children) place → tree_depth tree ≤ trees_depth children
child_below no_more place tree is = absurd cc
child_below (more child rest) zero tree is = let same : tree ≡ child = cc in let deep : tree_depth tree ≡ tree_depth child = ap tree_depth same in omega (arith, deep)
child_below (more child rest) (suc place) tree is = let deep = child_below rest place tree is in omega (arith, deep)

pub operand_below : (source : Source) (trees : List Source) (place : ℕ) (tree : Source) → Some trees ≡ operands_in source → Some tree ≡ slice_get trees place → tree_depth tree < tree_depth source
operand_below (node op children) trees place tree are is =
    elim (is_marker op) as (λ b. Some trees ≡ cond b None (Some (children_of children)) → tree_depth tree < 1 + trees_depth children) [ true ↦ λ e. absurd cc | false ↦ λ e. below e ] are
  where
    below : Some trees ≡ Some (children_of children) → tree_depth tree < 1 + trees_depth children
    below e = let same : trees ≡ children_of children = cc in let deep = child_below children place tree (is ∙ ap (λ l. slice_get l place) same) in omega (arith, deep)

-- ---- markers

markers_listed : (children : Trees SourceOp) → all_markers_in children ≡ flat_map markers_in (children_of children)
markers_listed no_more = refl
markers_listed (more child rest) = ap (λ l. markers_in child ++ l) (markers_listed rest)

pub markers_of_operands : (source : Source) (trees : List Source) → Some trees ≡ operands_in source → markers_in source ≡ flat_map markers_in trees
markers_of_operands (node op children) trees are =
    elim (is_marker op) as (λ b. Some trees ≡ cond b None (Some (children_of children)) → cond b (node op children ∷ []) (all_markers_in children) ≡ flat_map markers_in trees) [ true ↦ λ e. absurd cc | false ↦ λ e. listed e ] are
  where
    listed : Some trees ≡ Some (children_of children) → all_markers_in children ≡ flat_map markers_in trees
    listed e = let same : trees ≡ children_of children = cc in markers_listed children ∙ ap (flat_map markers_in) (sym same)

pub marker_alone : (source : Source) → None ≡ operands_in source → markers_in source ≡ source ∷ []
marker_alone (node op children) none =
    elim (is_marker op) as (λ b. None ≡ cond b None (Some (children_of children)) → cond b (node op children ∷ []) (all_markers_in children) ≡ node op children ∷ []) [ true ↦ λ e. refl | false ↦ λ e. absurd cc ] none

found_in : {A : Type 0} (items others : List A) (item : A) → Some item ≡ first_of items → Some item ≡ first_of (items ++ others)
found_in [] others item is = absurd cc
found_in (own ∷ items) others item is = is

past_none : {A : Type 0} (items others : List A) → None ≡ first_of items → first_of (items ++ others) ≡ first_of others
past_none [] others none = refl
past_none (item ∷ items) others none = absurd cc

module _ (trees : List Source) (place : ℕ) (tree : Source) (is : Some tree ≡ slice_get trees place) where
  pub first_found : (marker : Source) → Some marker ≡ first_marker tree → Some marker ≡ first_marker_of (drop place trees)
  first_found marker found =
      found_in (markers_in tree) (flat_map markers_in (drop (place + 1) trees)) marker found ∙ ap first_marker_of (sym (at_place trees place tree is))

  pub first_behind : None ≡ first_marker tree → first_marker_of (drop place trees) ≡ first_marker_of (drop (place + 1) trees)
  first_behind none =
      ap first_marker_of (at_place trees place tree is) ∙ past_none (markers_in tree) (flat_map markers_in (drop (place + 1) trees)) none

  all_at : (same : Source → Bool) → list_all same (flat_map markers_in (drop place trees)) ≡ (list_all same (markers_in tree) && list_all same (flat_map markers_in (drop (place + 1) trees)))
  all_at same = ap (λ l. list_all same (flat_map markers_in l)) (at_place trees place tree is) ∙ list_all-append same (markers_in tree) (flat_map markers_in (drop (place + 1) trees))

  pub other_found : (same : Source → Bool) → false ≡ list_all same (markers_in tree) → false ≡ list_all same (flat_map markers_in (drop place trees))
  other_found same other = sym (all_at same ∙ ap (λ b. b && list_all same (flat_map markers_in (drop (place + 1) trees))) (sym other))

  pub only_behind : (same : Source → Bool) → true ≡ list_all same (markers_in tree) → list_all same (flat_map markers_in (drop place trees)) ≡ list_all same (flat_map markers_in (drop (place + 1) trees))
  only_behind same only = all_at same ∙ ap (λ b. b && list_all same (flat_map markers_in (drop (place + 1) trees))) (sym only)

  -- ---- the first column

  pub root_found : (name : Name) → Some name ≡ root_name (unwritten tree) → Some name ≡ first_root_of (drop place trees)
  root_found name found =
      ap (λ r. option_or r (first_root_of (drop (place + 1) trees))) found ∙ ap first_root_of (sym (at_place trees place tree is))

  pub root_behind : None ≡ root_name (unwritten tree) → first_root_of (drop place trees) ≡ first_root_of (drop (place + 1) trees)
  root_behind none =
      ap first_root_of (at_place trees place tree is) ∙ ap (λ r. option_or r (first_root_of (drop (place + 1) trees))) (sym none)

roots_listed : (children : Trees SourceOp) → first_root (fold_all root_of_node (all_unwritten children)) ≡ first_root_of (children_of children)
roots_listed no_more = refl
roots_listed (more child rest) = ap (option_or (root_name (unwritten child))) (roots_listed rest)

abbrev under : Source → Trees SourceOp
under (node op children) = children

same_children : (source : Source) (trees : List Source) → Some trees ≡ operands_in source → trees ≡ children_of (under source)
same_children (node op children) trees are =
    elim (is_marker op) as (λ b. Some trees ≡ cond b None (Some (children_of children)) → trees ≡ children_of children) [ true ↦ λ e. absurd cc | false ↦ λ e. cc ] are

-- a function's op is one of plans' where expansion leaves it
pub function_of_plans : (function : FunctionExpr) → is_expanded_function function ≡ is_of_plans (function_source function)
function_of_plans (FieldByIndex place) = refl
function_of_plans _ = refl

-- of what is an op of plans over operands
pub root_of_operands : (expr : Expr) (trees : List Source) → Some trees ≡ plan_operands_in (tree_of expr) → ((name : PlSmallStr) → expr ≡ Column name → ⊥) → first_root_of trees ≡ root_name (plain_tree expr)
root_of_operands (Column name) trees are column = absurd (column name refl)
root_of_operands (KeepName' p inner) trees are column = absurd cc
root_of_operands (RenameAlias' function p inner) trees are column = absurd cc
root_of_operands (Exclude' p marker own) trees are column = absurd cc
root_of_operands (Selector own) trees are column = absurd cc
root_of_operands (Function' shape input (FieldByIndex place)) trees are column = absurd cc
root_of_operands expr trees are column =
    ap first_root_of (same_children (tree_of expr) trees (plan_operands_are (tree_of expr) trees are)) ∙ sym (roots_listed (under (tree_of expr)))
