-- What drops leave as lists that are made one by one, and simple projections of it over what was built.
use Rattle.std.proofs.Common.{◌≡◌, ◌<◌, ◌+◌, ℕ, List, [], ◌∷◌, ◌++◌, drop, map, slice_get, length, Bool, true, false, cond, not, ◌&&◌, Some, None, Ok, Err, refl, sym, ap, ◌∙◌, arith}
use Rattle.std.proofs.lemmas.List.Elements.{Contains-push}
use Rattle.std.proofs.lemmas.Option.{slice_get_within, get_or_from_slice_get}
use Rattle.plan_types.specs.Types.{Ty}
use Rattle.plan_types.proofs.ListLemmas.{item_left}
use Rattle.plan_types.specs.Schemas.{Name, Columns, with_column, is_among, HasDistinctNames}
use Rattle.plan_types.specs.Errors.{at_top}
use Rattle.plan_types.specs.declared.error.ErrorKind.TheVariants.{ColumnNotFound}
use Rattle.plan_types.specs.declared.error.PlanError.{PlanError}
use Rattle.plan_types.proofs.SchemaLemmas.{copied_more, test_from_distinct, distinct_from_test}
use Rattle.plan_dsl.specs.Registry.{Registry}
use Rattle.plan_dsl.specs.Plans.{DropWork, SimpleProjectionWork, simple_projection_op}
use Rattle.plan_dsl.specs.PlanKernels.{gives_nothing}
use Rattle.plan_dsl.specs.PlanRules.{plan_rule, projection_kinds}
use Rattle.plan_dsl.specs.Refusals.{then_ok}
use Rattle.plan_dsl.specs.Resolving.{over_expanded, over_named, resolved_kind}
use Rattle.plan_dsl.specs.Sources.{Source}
use Rattle.plan_dsl.specs.Markers.{names_of_selectors}
use Rattle.plan_dsl.specs.Drops.{have_names, columns_but, left_but, drop_leaves}
use Rattle.plan_dsl.proofs.DropLemmas.{drops_have_schemas}
use Rattle.plan_dsl.proofs.MarkerLemmas.{distinct_kept}
use Rattle.plan_dsl.proofs.RuleLemmas.{unbroken_kinds}
use Rattle.plan_expand.specs.Refusals.{IsUnexpanded, unexpanded}
use Rattle.plan_arena.specs.declared.aexpr.AExpr.{AExpr}
use Rattle.plan_arena.specs.declared.ir.IR.{IR}
use Rattle.plan_arena.specs.Items.{plan_layer}
use Rattle.plan_arena.specs.Layers.{layer}
use Rattle.plan_lower.specs.Lowering.{IsEmptyTableAt}
use Rattle.plan_lower.specs.Works.{IsWorkAt, IsWorkRefusal, unresolved}
use Rattle.plan_lower.proofs.BuiltLemmas.{unexpanded_then}

-- ---- columns one by one

-- one column more was looked at
pub kept_more : (names : List Name) (own new : Columns) (column : Name × Ty) (rest whole : Columns) → HasDistinctNames whole → own ++ columns_but names (column ∷ rest) ≡ columns_but names whole → new ≡ cond (is_among column.0 names) own (with_column own column.0 column.1) → new ++ columns_but names rest ≡ columns_but names whole
kept_more names own new column rest whole distinct so_far next =
    let kept = distinct_from_test (columns_but names whole) (distinct_kept (λ (c : Name × Ty). c.0) (λ c. not (is_among c.0 names)) whole (test_from_distinct whole distinct)) in
    elim (is_among column.0 names) as (λ b. own ++ cond (not b) (column ∷ columns_but names rest) (columns_but names rest) ≡ columns_but names whole → new ≡ cond b own (with_column own column.0 column.1) → new ++ columns_but names rest ≡ columns_but names whole) [ true ↦ λ s n. ap (λ l. l ++ columns_but names rest) n ∙ s | false ↦ λ s n. ap (λ l. l ++ columns_but names rest) n ∙ copied_more own column (columns_but names rest) (columns_but names whole) kept s ] so_far next

-- what is kept of columns, by the column of a number
pub kept_at : (names : List Name) (own new whole : Columns) (i : ℕ) (column : Name × Ty) → HasDistinctNames whole → slice_get whole i ≡ Some column → own ++ columns_but names (drop i whole) ≡ columns_but names whole → new ≡ cond (is_among column.0 names) own (with_column own column.0 column.1) → new ++ columns_but names (drop (i + 1) whole) ≡ columns_but names whole
kept_at names own new whole i column distinct at so_far next =
    let left = item_left whole i column column (slice_get_within whole i column at) (sym (get_or_from_slice_get whole i column column at)) in
    kept_more names own new column (drop (i + 1) whole) whole distinct (ap (λ l. own ++ columns_but names l) (sym left) ∙ so_far) next

-- ---- what is left, and why nothing is

pub left_found : (schema : Columns) (selectors : List Source) (strict lacks : Bool) (names : List Name) (own : Columns) → names_of_selectors schema selectors ≡ Ok names → lacks ≡ (strict && not (have_names schema names)) → lacks ≡ false → own ≡ columns_but names schema → drop_leaves schema selectors strict ≡ Ok own
left_found schema selectors strict lacks names own found is none left =
    ap (λ r. then_ok r (left_but strict schema)) found ∙ ap (λ b. cond b (Err (ColumnNotFound ∷ [])) (Ok (columns_but names schema))) (sym is ∙ none) ∙ ap Ok (sym left)

pub left_lacking : (schema : Columns) (selectors : List Source) (strict lacks : Bool) (names : List Name) (error : PlanError) → names_of_selectors schema selectors ≡ Ok names → lacks ≡ (strict && not (have_names schema names)) → lacks ≡ true → error ≡ at_top ColumnNotFound → IsUnexpanded (drop_leaves schema selectors strict) error
left_lacking schema selectors strict lacks names error found is some told =
    unexpanded (ColumnNotFound ∷ []) ColumnNotFound told (ap (λ r. then_ok r (left_but strict schema)) found ∙ ap (λ b. cond b (Err (ColumnNotFound ∷ [])) (Ok (columns_but names schema))) (sym is ∙ some)) (Contains-push [] ColumnNotFound)

-- ---- what is built

module _ (registry : Registry) where
  drop_rule : (selectors : List Source) (strict : Bool) (schema own : Columns) → HasDistinctNames schema → drop_leaves schema selectors strict ≡ Ok own → plan_rule registry (simple_projection_op own None) (Some schema ∷ []) ≡ Some own
  drop_rule selectors strict schema own distinct left =
      sym (ap (λ r. plan_rule registry (record { kind = resolved_kind (over_expanded (then_ok r (λ columns. Ok (SimpleProjectionWork columns))) []); recorded = None }) (Some schema ∷ [])) left)
      ∙ drops_have_schemas registry selectors strict schema own distinct left

  -- a simple projection gives nothing where it has no columns
  no_columns : (own : Columns) → gives_nothing (SimpleProjectionWork own) [] ≡ true → length own ≡ 0
  no_columns [] e = refl
  no_columns (column ∷ columns) e = absurd cc

  some_columns : (own : Columns) → gives_nothing (SimpleProjectionWork own) [] ≡ false → 0 < length own
  some_columns [] e = absurd cc
  some_columns (column ∷ columns) e = omega arith

  -- a simple projection of what a drop leaves is a node over one input, and so is the refusal of a drop
  pub drop_work : (items : List AExpr) (plans : List IR) (n input below : ℕ) (schema own : Columns) (selectors : List Source) (strict : Bool) → HasDistinctNames schema → drop_leaves schema selectors strict ≡ Ok own → (length own ≡ 0 → IsEmptyTableAt plans below) → (0 < length own → below ≡ input) → slice_get (map plan_layer plans) n ≡ Some (layer (simple_projection_op own (Some own)) (below ∷ [])) → IsWorkAt registry schema items plans n input (DropWork strict) (selectors ∷ []) own
  drop_work items plans n input below schema own selectors strict distinct left nothing something item =
      record {
        trees = [];
        expanded = refl;
        own = SimpleProjectionWork own;
        resolved = ap (λ r. then_ok r (λ columns. Ok (SimpleProjectionWork columns))) left;
        outputs = [];
        trees_are = refl;
        unbroken = record { each = tt; types = refl; kinds = unbroken_kinds (projection_kinds schema own) (Some own) own (drop_rule selectors strict schema own distinct left) };
        whole = tt;
        columns_are = refl;
        nodes = [];
        denote = tt;
        below = below;
        nothing = λ e. nothing (no_columns own e);
        something = λ e. something (some_columns own e);
        item = item;
      }

  pub drop_refusal : (schema : Columns) (selectors : List Source) (strict : Bool) (error : PlanError) → IsUnexpanded (drop_leaves schema selectors strict) error → IsWorkRefusal registry schema (DropWork strict) (selectors ∷ []) error
  drop_refusal schema selectors strict error refused =
      unresolved (unexpanded_then (then_ok (drop_leaves schema selectors strict) (λ own. Ok (SimpleProjectionWork own))) (λ own. Ok (over_named [] own)) error (unexpanded_then (drop_leaves schema selectors strict) (λ own. Ok (SimpleProjectionWork own)) error refused))
