-- The names of markers and of selectors, as the code makes them.
use Rattle.std.proofs.Common.{◌≡◌, ◌+◌, ℕ, ℤ, List, [], ◌∷◌, ◌++◌, map, drop, slice_get, Some, None, Bool, true, false, cond, not, ◌&&◌, ◌||◌, Result, Ok, Err, refl, sym, ap, ◌∙◌, append_assoc}
use Rattle.std.specs.Global.{Box, Vec}
use Rattle.std.specs.List.{filter, flat_map, list_any}
use Rattle.std.specs.Option.{option_map_or}
use Rattle.std.proofs.lemmas.Bool.{cond-true}
use Rattle.std.proofs.lemmas.List.Elements.{filter_agree}
use Rattle.std.proofs.lemmas.Option.{slice_get_within, get_or_from_slice_get}
use Rattle.plan_types.proofs.ListLemmas.{item_left}
use Rattle.plan_types.specs.Errors.{IsRefusal, no_room, broken}
use Rattle.plan_types.specs.Schemas.{Name, Columns, same_name, is_among, names_of, type_at}
use Rattle.plan_types.specs.TypeLaws.{same_type_is_equivalence}
use Rattle.plan_types.specs.Types.{Ty, same_type, ty}
use Rattle.plan_types.specs.declared.dtype.DataType.{DataType}
use Rattle.plan_types.specs.declared.error.ErrorKind.{ErrorKind}
use Rattle.plan_types.specs.declared.error.ErrorKind.TheVariants.{InvalidOperation}
use Rattle.plan_types.specs.declared.error.PlanError.{PlanError}
use Rattle.plan_dsl.specs.Expressions.{tree_of, selector_tree}
use Rattle.plan_dsl.specs.Markers.{without, once, names_of_types, excludes, without_excluded, set_of, marker_names, selector_names}
use Rattle.plan_dsl.specs.Refusals.{then_ok}
use Rattle.plan_dsl.specs.Sources.{Excluded, ExcludedName, ExcludedType, SetRule, Source, RootOp, of_two}
use Rattle.plan_dsl.specs.Trees.{node, no_more, more}
use Rattle.plan_dsl.specs.declared.expr.Expr.{Expr, Exclude, Column, Columns as Named, DtypeColumn, IndexColumn, Nth, Wildcard, Selector}
use Rattle.plan_dsl.specs.declared.expr.Expr.TheVariants.{Exclude', Function'}
use Rattle.plan_dsl.specs.declared.function_expr.FunctionExpr.TheVariants.{FieldByIndex}
use Rattle.plan_types.specs.declared.text.PlSmallStr.{PlSmallStr}
use Rattle.plan_dsl.specs.declared.marker.Excluded.{Excluded as ExcludedValue}
use Rattle.plan_dsl.specs.declared.selector.Selector.{Selector as SelectorValue}
use Rattle.plan_expand.specs.Names.{selected, excluded_name, excluded_type, is_of_type}
use Rattle.plan_expand.proofs.NameLemmas.{both_tests}
use Rattle.plan_expand.proofs.OnceLemmas.{among_once, once_filtered, set_once}

-- ---- columns of some types

pub any_flipped : (dtype : DataType) (types : List DataType) → list_any (λ own. same_type (ty own) (ty dtype)) types ≡ list_any (same_type (ty dtype)) (map ty types)
any_flipped dtype [] = refl
any_flipped dtype (own ∷ types) = λ i. same_type_is_equivalence.symm own dtype i || any_flipped dtype types i

wanted_first : (keys : List Name) (types : List Ty) (done new : List Name) (column : Name × Ty) (rest : Columns) → new ≡ cond (list_any (same_type column.1) types && not (is_among column.0 keys)) (done ++ column.0 ∷ []) done
    → done ++ without keys (names_of_types (column ∷ rest) types) ≡ new ++ without keys (names_of_types rest types)
wanted_first keys types done new column rest is =
    let later = without keys (names_of_types rest types) in
    elim (list_any (same_type column.1) types) as (λ b. done ++ without keys (names_of (cond b (column ∷ filter (λ c. list_any (same_type c.1) types) rest) (filter (λ c. list_any (same_type c.1) types) rest))) ≡ cond (b && not (is_among column.0 keys)) (done ++ column.0 ∷ []) done ++ later) [ true ↦ kept later | false ↦ refl ]
    ∙ ap (λ l. l ++ later) (sym is)
  where
    kept : (later : List Name) → done ++ cond (not (is_among column.0 keys)) (column.0 ∷ later) later ≡ cond (not (is_among column.0 keys)) (done ++ column.0 ∷ []) done ++ later
    kept later = elim (not (is_among column.0 keys)) as (λ b. done ++ cond b (column.0 ∷ later) later ≡ cond b (done ++ column.0 ∷ []) done ++ later) [ true ↦ sym (append_assoc done (column.0 ∷ []) later) | false ↦ refl ]

-- one more column
pub wanted_at : (keys : List Name) (types : List Ty) (done new : List Name) (whole : Columns) (i : ℕ) (column : Name × Ty) (answer : List Name) → slice_get whole i ≡ Some column → new ≡ cond (list_any (same_type column.1) types && not (is_among column.0 keys)) (done ++ column.0 ∷ []) done
    → done ++ without keys (names_of_types (drop i whole) types) ≡ answer → new ++ without keys (names_of_types (drop (i + 1) whole) types) ≡ answer
wanted_at keys types done new whole i column answer at is before =
    sym (wanted_first keys types done new column (drop (i + 1) whole) is)
    ∙ sym (ap (λ l. done ++ without keys (names_of_types l types)) (item_left whole i column column (slice_get_within whole i column at) (sym (get_or_from_slice_get whole i column column at)))) ∙ before

-- ---- what is excluded

excluded_apart : (schema : Columns) (name : Name) (excluded : List Excluded) → list_any (excludes schema name) excluded ≡ (is_among name (flat_map excluded_name excluded) || list_any (is_of_type schema name) (flat_map excluded_type excluded))
excluded_apart schema name [] = refl
excluded_apart schema name (ExcludedName other ∷ excluded) =
    let types = list_any (is_of_type schema name) (flat_map excluded_type excluded) in
    ap (λ b. same_name name other || b) (excluded_apart schema name excluded) ∙ elim (same_name name other) as (λ b. (b || (is_among name (flat_map excluded_name excluded) || types)) ≡ ((b || is_among name (flat_map excluded_name excluded)) || types)) [ true ↦ refl | false ↦ refl ]
excluded_apart schema name (ExcludedType type ∷ excluded) =
    let types = list_any (is_of_type schema name) (flat_map excluded_type excluded) in
    let own = is_of_type schema name type in
    ap (λ b. own || b) (excluded_apart schema name excluded) ∙ elim own as (λ b. (b || (is_among name (flat_map excluded_name excluded) || types)) ≡ (is_among name (flat_map excluded_name excluded) || (b || types))) [ true ↦ elim (is_among name (flat_map excluded_name excluded)) as (λ b. true ≡ (b || true)) [ true ↦ refl | false ↦ refl ] | false ↦ refl ]

abbrev pub is_kept : List Name → List Name → List Ty → Columns → Name → Bool
is_kept keys left_out types schema name = (not (is_among name left_out) && not (list_any (is_of_type schema name) types)) && not (is_among name keys)

neither : (a b : Bool) → not (a || b) ≡ (not a && not b)
neither true b = refl
neither false b = refl

pub not_excluded : (keys left_out : List Name) (types : List Ty) (schema : Columns) (excluded : List Excluded) (names : List Name) → left_out ≡ once (flat_map excluded_name excluded) → types ≡ flat_map excluded_type excluded → filter (is_kept keys left_out types schema) names ≡ without keys (without_excluded schema excluded names)
not_excluded keys left_out types schema excluded names is are =
    filter_agree _ _ (λ name. ap (λ b. b && not (is_among name keys)) (same name)) names ∙ sym (both_tests (λ name. not (is_among name keys)) (λ name. not (list_any (excludes schema name) excluded)) names)
  where
    same : (name : Name) → (not (is_among name left_out) && not (list_any (is_of_type schema name) types)) ≡ not (list_any (excludes schema name) excluded)
    same name =
        (λ i. not (is_among name (is i)) && not (list_any (is_of_type schema name) (are i)))
        ∙ ap (λ b. not b && not (list_any (is_of_type schema name) (flat_map excluded_type excluded))) (among_once name (flat_map excluded_name excluded))
        ∙ sym (ap not (excluded_apart schema name excluded) ∙ neither (is_among name (flat_map excluded_name excluded)) (list_any (is_of_type schema name) (flat_map excluded_type excluded)))

-- a name that no column has is of no type
pub no_type : (schema : Columns) (name : Name) (types : List Ty) → None ≡ type_at schema name → false ≡ list_any (is_of_type schema name) types
no_type schema name [] none = refl
no_type schema name (type ∷ types) none =
    no_type schema name types none ∙ ap (λ t. option_map_or (same_type type) t false || list_any (is_of_type schema name) types) none

-- ---- markers

module _ (keys : List Name) (schema : Columns) where
  pub no_marker : (expr : Expr) → ((names : Vec PlSmallStr) → expr ≡ Named names → ⊥) → ((types : Vec DataType) → expr ≡ DtypeColumn types → ⊥) → ((places : Vec ℤ) → expr ≡ IndexColumn places → ⊥) → ((place : ℤ) → expr ≡ Nth place → ⊥) → (expr ≡ Wildcard → ⊥)
      → ((marker : Box Expr) (excluded : Vec ExcludedValue) → expr ≡ Exclude marker excluded → ⊥) → ((selector : SelectorValue) → expr ≡ Selector selector → ⊥) → marker_names keys schema (tree_of expr) ≡ Err InvalidOperation
  no_marker (Named names) columns types places place all excluded selector = absurd (columns names refl)
  no_marker (DtypeColumn own) columns types places place all excluded selector = absurd (types own refl)
  no_marker (IndexColumn own) columns types places place all excluded selector = absurd (places own refl)
  no_marker (Nth own) columns types places place all excluded selector = absurd (place own refl)
  no_marker Wildcard columns types places place all excluded selector = absurd (all refl)
  no_marker (Exclude' p marker own) columns types places place all excluded selector = absurd (excluded (record { ptr = p.ptr; alloc = p.alloc; value = marker }) own refl)
  no_marker (Selector own) columns types places place all excluded selector = absurd (selector own refl)
  no_marker (Function' shape input (FieldByIndex own)) columns types places place all excluded selector = refl
  no_marker _ columns types places place all excluded selector = refl

  pub selector_listed : (expr : Expr) (selector : SelectorValue) (names lacked list : List Name) → expr ≡ Selector selector → selected keys schema (selector_tree selector) ≡ Ok names → lacked ≡ without keys names → list ≡ lacked → marker_names keys schema (tree_of expr) ≡ Ok list
  selector_listed expr selector names lacked list is found less listed =
      ap (λ e. marker_names keys schema (tree_of e)) is ∙ made (selector_names keys schema (selector_tree selector)) found ∙ ap Ok (sym (listed ∙ less))
    where
      made : (r : Result (List Name) ErrorKind) → then_ok r (λ all. Ok (once all)) ≡ Ok names → then_ok r (λ all. Ok (once (without keys all))) ≡ Ok (without keys names)
      made (Ok all) e = let same : once all ≡ names = cc in ap Ok (once_filtered (λ name. not (is_among name keys)) all ∙ ap (without keys) same)
      made (Err kind) e = absurd cc

  -- ---- selectors

  -- a root over what is no column is one over a marker
  pub root_is_marker : (expr : Expr) → ((name : Name) → expr ≡ Column name → ⊥) → selector_names keys schema (node RootOp (more (tree_of expr) no_more)) ≡ marker_names keys schema (tree_of expr)
  root_is_marker (Column name) other = absurd (other name refl)
  root_is_marker (Function' shape input (FieldByIndex place)) other = refl
  root_is_marker _ other = refl

  pub rooted : (expr : Expr) (listed names : List Name) → ((name : Name) → expr ≡ Column name → ⊥) → marker_names keys schema (tree_of expr) ≡ Ok listed → names ≡ once listed → selected keys schema (node RootOp (more (tree_of expr) no_more)) ≡ Ok names
  rooted expr listed names other found is =
      ap (λ r. then_ok r (λ all. Ok (once all))) (root_is_marker expr other ∙ found) ∙ ap Ok (sym is)

  pub root_refused : (expr : Expr) (error : PlanError) → ((name : Name) → expr ≡ Column name → ⊥) → IsRefusal (marker_names keys schema (tree_of expr)) error → IsRefusal (selector_names keys schema (node RootOp (more (tree_of expr) no_more))) error
  root_refused expr error other (no_room e) = no_room e
  root_refused expr error other (broken kind told by) = broken kind told (root_is_marker expr other ∙ by)

  -- two selectors
  pub two_selected : (rule : SetRule) (first second : Source) (names others both : List Name) → selected keys schema first ≡ Ok names → selected keys schema second ≡ Ok others → both ≡ set_of rule names others → selected keys schema (of_two rule first second) ≡ Ok both
  two_selected rule first second names others both one other is =
      made (selector_names keys schema first) (selector_names keys schema second) one other ∙ ap Ok (sym is)
    where
      made : (r s : Result (List Name) ErrorKind) → then_ok r (λ all. Ok (once all)) ≡ Ok names → then_ok s (λ all. Ok (once all)) ≡ Ok others → then_ok (then_ok r (λ all. then_ok s (λ added. Ok (set_of rule all added)))) (λ all. Ok (once all)) ≡ Ok (set_of rule names others)
      made (Ok all) (Ok added) e f = let same : once all ≡ names = cc in let also : once added ≡ others = cc in ap Ok (set_once rule all added ∙ (λ i. set_of rule (same i) (also i)))
      made (Err kind) s e f = absurd cc
      made (Ok all) (Err kind) e f = absurd cc

  pub first_refused : (rule : SetRule) (first second : Source) (error : PlanError) → IsRefusal (selector_names keys schema first) error → IsRefusal (selector_names keys schema (of_two rule first second)) error
  first_refused rule first second error (no_room e) = no_room e
  first_refused rule first second error (broken kind told by) =
      broken kind told (ap (λ r. then_ok r (λ names. then_ok (selector_names keys schema second) (λ others. Ok (set_of rule names others)))) by)

  pub second_refused : (rule : SetRule) (first second : Source) (names : List Name) (error : PlanError) → selected keys schema first ≡ Ok names → IsRefusal (selector_names keys schema second) error → IsRefusal (selector_names keys schema (of_two rule first second)) error
  second_refused rule first second names error one (no_room e) = no_room e
  second_refused rule first second names error one (broken kind told by) = broken kind told (made (selector_names keys schema first) one)
    where
      made : (r : Result (List Name) ErrorKind) → then_ok r (λ all. Ok (once all)) ≡ Ok names → then_ok r (λ all. then_ok (selector_names keys schema second) (λ added. Ok (set_of rule all added))) ≡ Err kind
      made (Ok all) e = ap (λ s. then_ok s (λ added. Ok (set_of rule all added))) by
      made (Err other) e = absurd cc
