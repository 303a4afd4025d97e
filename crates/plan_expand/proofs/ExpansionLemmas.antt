-- Expressions that are expanded, as the code does it.
use Rattle.std.proofs.Common.{◌≡◌, ◌<◌, ◌+◌, ℕ, List, [], ◌∷◌, ◌++◌, map, drop, length, get_or, Option, Some, None, Bool, true, false, cond, ◌&&◌, Result, Ok, Err, refl, sym, ap, ◌∙◌}
use Rattle.std.proofs.Math.Bool.{and-true}
use Rattle.std.specs.Global.{Box}
use Rattle.std.specs.List.{list_all}
use Rattle.std.specs.Result.{IfOk, IfErr}
use Rattle.std.proofs.lemmas.Bool.{and_from, and_parts}
use Rattle.std.proofs.lemmas.List.{map-append}
use Rattle.std.proofs.lemmas.List.Folds.{list_all-append}
use Rattle.indexmap.specs.IndexSet.{insert_all}
use Rattle.plan_types.proofs.ListLemmas.{item_left}
use Rattle.plan_types.specs.Errors.{at_top, IsRefusal, no_room, broken}
use Rattle.plan_types.specs.Schemas.{Name, Columns, same_name, names_of}
use Rattle.plan_types.specs.declared.error.ErrorKind.{ErrorKind}
use Rattle.plan_types.specs.declared.error.ErrorKind.TheVariants.{InvalidOperation}
use Rattle.plan_types.specs.declared.error.PlanError.{PlanError}
use Rattle.plan_dsl.specs.Expansion.{all_in_place, as_expression, expanded_alone, in_place, is_marker, over_inputs, spread, spreads, markers_in, with_column_put, repeated_for, plain, root_name, name_given, under_alias, aliased, key_name, key_names, expansion, expansions, only_one, predicate_expansion}
use Rattle.plan_dsl.specs.Expressions.{tree_of, plain_tree, renaming_of}
use Rattle.plan_dsl.specs.Markers.{once, names_of_types, without_excluded, set_of, marker_names, selector_names}
use Rattle.plan_dsl.specs.Ops.{ColumnOp, AliasOp, Expression}
use Rattle.plan_dsl.specs.Refusals.{then_ok, each_ok, joined, with_kinds}
use Rattle.plan_dsl.specs.SourceLaws.{same_source_decides}
use Rattle.plan_dsl.specs.Sources.{Renaming, KeepRoot, Plain, WildcardOp, ColumnsOp, DtypeColumnOp, IndexColumnOp, NthOp, ExcludeOp, SelectorOp, RootOp, SetOp, Source, SourceOp, is_plain, same_source, unwritten, written}
use Rattle.plan_dsl.specs.Trees.{Trees, children_from, node, no_more, more}
use Rattle.plan_dsl.specs.declared.expr.Expr.{Expr, Column, KeepName, RenameAlias}
use Rattle.plan_dsl.specs.declared.expr.Expr.TheVariants.{Function', KeepName', RenameAlias'}
use Rattle.plan_dsl.specs.declared.function_expr.FunctionExpr.TheVariants.{FieldByIndex}
use Rattle.plan_dsl.specs.declared.marker.RenameAliasFn.{RenameAliasFn}
use Rattle.plan_dsl.specs.declared.marker.RenameAliasFn.TheVariants.{Prefix, Suffix}
use Rattle.plan_dsl.proofs.ExpansionLemmas.{plain_found, plain_is_written, written_is_expanded, others_are_refused}
use Rattle.plan_types.specs.declared.text.PlSmallStr.{PlSmallStr}
use Rattle.plan_expand.specs.Refusals.{IsUnexpanded, no_room as no_memory_left, unexpanded}
use Rattle.plan_expand.specs.Walks.{first_of, first_marker}
use Rattle.plan_expand.proofs.NameLemmas.{put_apart}
use Rattle.plan_expand.proofs.OnceLemmas.{without_once}

-- ---- names of keys

pub no_key : (expr : Expr) → ((name : PlSmallStr) → expr ≡ Column name → ⊥) → key_name (tree_of expr) ≡ []
no_key (Column name) other = absurd (other name refl)
no_key (Function' shape input (FieldByIndex place)) other = refl
no_key _ other = refl

-- one more key
pub key_more : (names grown : List Name) (keys : List Expr) (i : ℕ) (key : Expr) (answer : List Name) → i < length keys → key ≡ get_or keys i key → grown ≡ insert_all same_name names (key_name (tree_of key)) → insert_all same_name names (key_names (map tree_of (drop i keys))) ≡ answer → insert_all same_name grown (key_names (map tree_of (drop (i + 1) keys))) ≡ answer
key_more names grown keys i key answer within is put before =
    let rest = key_names (map tree_of (drop (i + 1) keys)) in
    ap (λ l. insert_all same_name l rest) put ∙ sym (put_apart names (key_name (tree_of key)) rest) ∙ sym (ap (λ l. insert_all same_name names (key_names (map tree_of l))) (item_left keys i key key within is)) ∙ before

-- keys leave out the same columns as their names, each once
mutual
  marker_once : (keys : List Name) (schema : Columns) (tree : Source) → marker_names (once keys) schema tree ≡ marker_names keys schema tree
  marker_once keys schema (node WildcardOp no_more) = ap Ok (without_once keys (names_of schema))
  marker_once keys schema (node (ColumnsOp names) no_more) = refl
  marker_once keys schema (node (IndexColumnOp places) no_more) = refl
  marker_once keys schema (node (NthOp place) no_more) = refl
  marker_once keys schema (node (DtypeColumnOp types) no_more) = ap Ok (without_once keys (names_of_types schema types))
  marker_once keys schema (node (ExcludeOp excluded) (more marker no_more)) =
      λ i. then_ok (marker_once keys schema marker i) (λ names. Ok (without_once keys (without_excluded schema excluded names) i))
  marker_once keys schema (node SelectorOp (more selector no_more)) =
      λ i. then_ok (selector_once keys schema selector i) (λ names. Ok (once (without_once keys names i)))
  marker_once keys schema tree = refl

  selector_once : (keys : List Name) (schema : Columns) (tree : Source) → selector_names (once keys) schema tree ≡ selector_names keys schema tree
  selector_once keys schema (node RootOp (more (node (Plain (ColumnOp name)) no_more) no_more)) = refl
  selector_once keys schema (node RootOp (more marker no_more)) = marker_once keys schema marker
  selector_once keys schema (node (SetOp rule) (more first (more second no_more))) =
      λ i. then_ok (selector_once keys schema first i) (λ names. then_ok (selector_once keys schema second i) (λ others. Ok (set_of rule names others)))
  selector_once keys schema tree = refl

repeated_once : (keys : List Name) (schema : Columns) (source : Source) (markers : List Source) → repeated_for (once keys) schema source markers ≡ repeated_for keys schema source markers
repeated_once keys schema source [] = refl
repeated_once keys schema source (marker ∷ others) =
    λ i. cond (list_all (same_source marker) others) (then_ok (marker_once keys schema marker i) (λ names. Ok (map (λ name. with_column_put name source) names))) (Err InvalidOperation)

alone_once : (keys : List Name) (schema : Columns) (source : Source) → expanded_alone (once keys) schema source ≡ expanded_alone keys schema source
alone_once keys schema source = ap (λ r. then_ok r (each_ok (as_expression schema))) (repeated_once keys schema source (markers_in source))

spread_once : (keys : List Name) (schema : Columns) (sources : Trees SourceOp) → spread (once keys) schema sources ≡ spread keys schema sources
spread_once keys schema no_more = refl
spread_once keys schema (more source rest) =
    λ i. then_ok (alone_once keys schema source i) (λ first. then_ok (spread_once keys schema rest i) (λ others. Ok (first ++ others)))

over_once : (keys : List Name) (schema : Columns) (op : SourceOp) (sources : Trees SourceOp) → over_inputs (once keys) schema op sources ≡ over_inputs keys schema op sources
over_once keys schema op sources =
    ap (λ r. cond (spreads op) (then_ok r (λ inputs. Ok (node op (children_from (map written inputs))))) (Ok (node op sources))) (spread_once keys schema sources)

-- what follows is the same, whatever comes first
then_same : {A B : Type 0} (first : Result A ErrorKind) (next other : A → Result B ErrorKind) → ((found : A) → next found ≡ other found) → then_ok first next ≡ then_ok first other
then_same (Ok found) next other same = same found
then_same (Err kind) next other same = refl

mutual
  in_place_once : (keys : List Name) (schema : Columns) (source : Source) → in_place (once keys) schema source ≡ in_place keys schema source
  in_place_once keys schema (node op children) =
      ap (λ r. cond (is_marker op) (Ok (node op children)) (then_ok r (over_inputs (once keys) schema op))) (all_in_place_once keys schema children)
      ∙ ap (cond (is_marker op) (Ok (node op children))) (then_same (all_in_place keys schema children) (over_inputs (once keys) schema op) (over_inputs keys schema op) (over_once keys schema op))

  all_in_place_once : (keys : List Name) (schema : Columns) (sources : Trees SourceOp) → all_in_place (once keys) schema sources ≡ all_in_place keys schema sources
  all_in_place_once keys schema no_more = refl
  all_in_place_once keys schema (more source rest) =
      λ i. then_ok (in_place_once keys schema source i) (λ first. then_ok (all_in_place_once keys schema rest i) (λ others. Ok (more first others)))

expansion_once : (keys : List Name) (schema : Columns) (source : Source) → expansion (once keys) schema source ≡ expansion keys schema source
expansion_once keys schema source =
    ap (λ r. then_ok r (expanded_alone (once keys) schema)) (in_place_once keys schema source) ∙ then_same (in_place keys schema source) (expanded_alone (once keys) schema) (expanded_alone keys schema) (alone_once keys schema)

expansions_once : (keys : List Name) (schema : Columns) (sources : List Source) → expansions (once keys) schema sources ≡ expansions keys schema sources
expansions_once keys schema [] = refl
expansions_once keys schema (source ∷ sources) = λ i. joined (with_kinds (expansion_once keys schema source i)) (expansions_once keys schema sources i)

-- a set of the keys' names
pub by_set : (set keys : List Name) (schema : Columns) (sources : List Source) → set ≡ once keys → expansions keys schema sources ≡ expansions set schema sources
by_set set keys schema sources is = sym (ap (λ l. expansions l schema sources) is ∙ expansions_once keys schema sources)

-- ---- a name in place of a renaming form

pub unrenamed : (expr : Expr) → ((inner : Box Expr) → expr ≡ KeepName inner → ⊥) → ((function : RenameAliasFn) (inner : Box Expr) → expr ≡ RenameAlias function inner → ⊥) → aliased (tree_of expr) ≡ plain (tree_of expr)
unrenamed (KeepName' p inner) kept renamed = absurd (kept (record { ptr = p.ptr; alloc = p.alloc; value = inner }) refl)
unrenamed (RenameAlias' function p inner) kept renamed = absurd (renamed function (record { ptr = p.ptr; alloc = p.alloc; value = inner }) refl)
unrenamed (Function' shape input (FieldByIndex place)) kept renamed = refl
unrenamed _ kept renamed = refl

-- a name that is made of that of a first column which isn't there
module _ (function : RenameAliasFn) (text : PlSmallStr) (root : Option Name) (error : PlanError) where
  pub prefix_refused : function ≡ Prefix text → (error ≡ at_top InvalidOperation) × (root ≡ None) → IsRefusal (name_given (renaming_of function) root) error
  prefix_refused is (told, none) = broken InvalidOperation told (λ i. name_given (renaming_of (is i)) (none i))

  pub suffix_refused : function ≡ Suffix text → (error ≡ at_top InvalidOperation) × (root ≡ None) → IsRefusal (name_given (renaming_of function) root) error
  suffix_refused is (told, none) = broken InvalidOperation told (λ i. name_given (renaming_of (is i)) (none i))

pub root_refused : (root : Option Name) (error : PlanError) → (error ≡ at_top InvalidOperation) × (root ≡ None) → IsRefusal (name_given KeepRoot root) error
root_refused root error (told, none) = broken InvalidOperation told (ap (name_given KeepRoot) none)

module _ (source : Source) where
  pub plain_refused : {A : Type 0} (error : PlanError) (next : Expression → Result A ErrorKind) → (error ≡ at_top InvalidOperation) × (is_plain source ≡ false) → IsRefusal (then_ok (plain source) next) error
  plain_refused error next (told, other) = broken InvalidOperation told (ap (λ r. then_ok r next) (others_are_refused source other))

  pub alias_made : (renaming : Renaming) (name : Name) → is_plain source ≡ true → name_given renaming (root_name (unwritten source)) ≡ Ok name → then_ok (plain source) (under_alias renaming) ≡ Ok (node (AliasOp name) (more (unwritten source) no_more))
  alias_made renaming name is given =
      ap (λ r. then_ok r (under_alias renaming)) (plain_found source is) ∙ ap (λ r. then_ok r (λ name. Ok (node (AliasOp name) (more (unwritten source) no_more)))) given

  pub alias_refused : (renaming : Renaming) (error : PlanError) → is_plain source ≡ true → IsRefusal (name_given renaming (root_name (unwritten source))) error → IsRefusal (then_ok (plain source) (under_alias renaming)) error
  alias_refused renaming error is (no_room e) = no_room e
  alias_refused renaming error is (broken kind told by) =
      broken kind told (ap (λ r. then_ok r (under_alias renaming)) (plain_found source is) ∙ ap (λ r. then_ok r (λ name. Ok (node (AliasOp name) (more (unwritten source) no_more)))) by)

-- ---- what is plain

pub plain_alone : (keys : List Name) (schema : Columns) (source : Source) → is_plain source ≡ true → expansion keys schema source ≡ Ok (unwritten source ∷ [])
plain_alone keys schema source is = ap (expansion keys schema) (sym (plain_is_written source is)) ∙ written_is_expanded keys schema (unwritten source)

pub all_plain_alone : (keys : List Name) (schema : Columns) (exprs : List Expr) → list_all is_plain (map tree_of exprs) ≡ true → expansions keys schema (map tree_of exprs) ≡ Ok (map plain_tree exprs)
all_plain_alone keys schema [] are = refl
all_plain_alone keys schema (expr ∷ exprs) are =
    let parts = and_parts (is_plain (tree_of expr)) (list_all is_plain (map tree_of exprs)) are in
    λ i. joined (with_kinds (plain_alone keys schema (tree_of expr) parts.0 i)) (all_plain_alone keys schema exprs parts.1 i)

pub plain_predicate : (schema : Columns) (source : Source) → is_plain source ≡ true → predicate_expansion schema source ≡ Ok (unwritten source)
plain_predicate schema source is = ap (λ r. then_ok r only_one) (plain_alone [] schema source is)

-- ---- markers

pub no_first : (markers : List Source) → None ≡ first_of markers → markers ≡ []
no_first [] none = refl
no_first (marker ∷ others) none = absurd cc

-- an expression without markers is repeated once
pub unrepeated : (keys : List Name) (schema : Columns) (source : Source) → None ≡ first_marker source → expanded_alone keys schema source ≡ each_ok (as_expression schema) (source ∷ [])
unrepeated keys schema source none =
    ap (λ markers. then_ok (repeated_for keys schema source markers) (each_ok (as_expression schema))) (no_first (markers_in source) none)

pub only_refused : (schema : Columns) (source : Source) (error : PlanError) → IsRefusal (as_expression schema source) error → IsRefusal (each_ok (as_expression schema) (source ∷ [])) error
only_refused schema source error (no_room e) = no_room e
only_refused schema source error (broken kind told by) = broken kind told (ap (λ r. then_ok r (λ found. Ok (found ∷ []))) by)

-- what each of the markers is
module _ (keys : List Name) (schema : Columns) (source marker : Source) where
  own_same : same_source marker marker ≡ true
  own_same = (same_source_decides marker marker).1 refl

  some_first : (markers : List Source) → Some marker ≡ first_of markers → (others : List Source) × (markers ≡ marker ∷ others)
  some_first [] some = absurd cc
  some_first (first ∷ others) some = let same : first ≡ marker = cc in (others, ap (λ m. m ∷ others) same)

  tested : (markers others : List Source) (answer : Bool) → markers ≡ marker ∷ others → answer ≡ list_all (same_source marker) markers → list_all (same_source marker) others ≡ answer
  tested markers others answer are is = sym (is ∙ ap (list_all (same_source marker)) are ∙ ap (λ b. b && list_all (same_source marker) others) own_same)

  pub other_marker : Some marker ≡ first_marker source → false ≡ list_all (same_source marker) (markers_in source) → expanded_alone keys schema source ≡ Err InvalidOperation
  other_marker some is =
      let split = some_first (markers_in source) some in
      ap (λ markers. then_ok (repeated_for keys schema source markers) (each_ok (as_expression schema))) split.1
      ∙ ap (λ b. then_ok (cond b (then_ok (marker_names keys schema marker) (λ names. Ok (map (λ name. with_column_put name source) names))) (Err InvalidOperation)) (each_ok (as_expression schema))) (tested (markers_in source) split.0 false split.1 is)

  pub one_marker : Some marker ≡ first_marker source → true ≡ list_all (same_source marker) (markers_in source) → expanded_alone keys schema source ≡ then_ok (then_ok (marker_names keys schema marker) (λ names. Ok (map (λ name. with_column_put name source) names))) (each_ok (as_expression schema))
  one_marker some is =
      let split = some_first (markers_in source) some in
      ap (λ markers. then_ok (repeated_for keys schema source markers) (each_ok (as_expression schema))) split.1
      ∙ ap (λ b. then_ok (cond b (then_ok (marker_names keys schema marker) (λ names. Ok (map (λ name. with_column_put name source) names))) (Err InvalidOperation)) (each_ok (as_expression schema))) (tested (markers_in source) split.0 true split.1 is)

  pub unnamed_marker : (error : PlanError) → Some marker ≡ first_marker source → true ≡ list_all (same_source marker) (markers_in source) → IsRefusal (marker_names keys schema marker) error → IsRefusal (expanded_alone keys schema source) error
  unnamed_marker error some is (no_room e) = no_room e
  unnamed_marker error some is (broken kind told by) =
      broken kind told (one_marker some is ∙ ap (λ r. then_ok (then_ok r (λ names. Ok (map (λ name. with_column_put name source) names))) (each_ok (as_expression schema))) by)

  pub named_marker : (names : List Name) → Some marker ≡ first_marker source → true ≡ list_all (same_source marker) (markers_in source) → marker_names keys schema marker ≡ Ok names → expanded_alone keys schema source ≡ each_ok (as_expression schema) (map (λ name. with_column_put name source) names)
  named_marker names some is found =
      one_marker some is ∙ ap (λ r. then_ok (then_ok r (λ names. Ok (map (λ name. with_column_put name source) names))) (each_ok (as_expression schema))) found

-- a refusal of what is the same
pub refused_as : {A : Type 0} (answer other : Result A ErrorKind) (error : PlanError) → answer ≡ other → IsRefusal other error → IsRefusal answer error
refused_as answer other error same (no_room e) = no_room e
refused_as answer other error same (broken kind told by) = broken kind told (same ∙ by)

-- what was found, or why it is refused, where the answer is the same
pub found_as : {A T E : Type 0} (view : T → A) (found : Result T E) (answer other : Result A ErrorKind) → answer ≡ other → IfOk found (λ made. other ≡ Ok (view made)) → IfOk found (λ made. answer ≡ Ok (view made))
found_as view (Ok made) answer other same is = same ∙ is
found_as view (Err error) answer other same is = tt

pub refused_of : {A T : Type 0} (found : Result T PlanError) (answer other : Result A ErrorKind) → answer ≡ other → IfErr found (IsRefusal other) → IfErr found (IsRefusal answer)
refused_of (Ok made) answer other same is = tt
refused_of (Err error) answer other same is = refused_as answer other error same is

pub unexpanded_as : {A : Type 0} (answer other : Result A (List ErrorKind)) (error : PlanError) → answer ≡ other → IsUnexpanded other error → IsUnexpanded answer error
unexpanded_as answer other error same (no_memory_left e) = no_memory_left e
unexpanded_as answer other error same (unexpanded kinds kind told by among) = unexpanded kinds kind told (same ∙ by) among

-- ---- the expressions that are made

pub all_plain : (done added grown : List Expr) → grown ≡ done ++ added → list_all is_plain (map tree_of done) ≡ true → list_all is_plain (map tree_of added) ≡ true → list_all is_plain (map tree_of grown) ≡ true
all_plain done added grown put before also =
    ap (λ l. list_all is_plain (map tree_of l)) put ∙ ap (list_all is_plain) (map-append tree_of done added) ∙ list_all-append is_plain (map tree_of done) (map tree_of added) ∙ and_from _ _ before also

pub one_plain : (expr : Expr) → is_plain (tree_of expr) ≡ true → list_all is_plain (map tree_of (expr ∷ [])) ≡ true
one_plain expr is = and_from (is_plain (tree_of expr)) true is refl

-- what stands behind others
pub made_behind : (done added grown : List Expr) (answer : Result (List Expression) ErrorKind) → answer ≡ Ok (map plain_tree added) → grown ≡ done ++ added → joined (Ok (map plain_tree done)) (with_kinds answer) ≡ Ok (map plain_tree grown)
made_behind done added grown answer made put =
    ap (λ r. joined (Ok (map plain_tree done)) (with_kinds r)) made ∙ ap Ok (sym (ap (map plain_tree) put ∙ map-append plain_tree done added))

pub added_plain : (done added grown : List Expr) → grown ≡ done ++ added → list_all is_plain (map tree_of added) ≡ true → list_all is_plain (map tree_of grown) ≡ list_all is_plain (map tree_of done)
added_plain done added grown put also =
    ap (λ l. list_all is_plain (map tree_of l)) put ∙ ap (list_all is_plain) (map-append tree_of done added) ∙ list_all-append is_plain (map tree_of done) (map tree_of added)
    ∙ ap (λ b. list_all is_plain (map tree_of done) && b) also ∙ and-true (list_all is_plain (map tree_of done))

-- one more that is plain
pub plain_more : (done grown : List Expr) (expr : Expr) → grown ≡ done ++ expr ∷ [] → list_all is_plain (map tree_of done) ≡ true → is_plain (tree_of expr) ≡ true → list_all is_plain (map tree_of grown) ≡ true
plain_more done grown expr put before is = all_plain done (expr ∷ []) grown put before (and_from (is_plain (tree_of expr)) true is refl)

-- the expression with the columns of names in place of its markers, name by name
module _ (source : Source) where
  abbrev pub put_in : Name → Source
  put_in name = with_column_put name source

  pub name_left : (names : List Name) (i : ℕ) (name : Name) → i < length names → name ≡ get_or names i name → map put_in (drop i names) ≡ put_in name ∷ map put_in (drop (i + 1) names)
  name_left names i name within is = ap (map put_in) (item_left names i name name within is)

-- ---- predicates

pub predicate_refused : (schema : Columns) (source : Source) (error : PlanError) → IsRefusal (expansion [] schema source) error → IsRefusal (predicate_expansion schema source) error
predicate_refused schema source error (no_room e) = no_room e
predicate_refused schema source error (broken kind told by) = broken kind told (ap (λ r. then_ok r only_one) by)
