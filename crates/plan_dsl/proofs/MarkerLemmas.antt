-- Markers: no name stands twice among those for which one stands, but where they are listed.
use Rattle.std.proofs.Common.{◌≡◌, List, [], ◌∷◌, map, Bool, true, false, cond, not, ◌||◌, Result, Ok, Err, refl, sym, ap, ◌∙◌, subst}
use Rattle.std.specs.List.{filter, list_any}
use Rattle.std.proofs.lemmas.Bool.{or_parts, or_from}
use Rattle.std.proofs.lemmas.Cmp.{nat_list_eq_equiv}
use Rattle.std.proofs.lemmas.List.{map-id}
use Rattle.plan_types.specs.Types.{Ty, same_type}
use Rattle.plan_types.specs.Schemas.{Name, Columns, same_name, is_among, repeats, names_of}
use Rattle.plan_types.specs.declared.error.ErrorKind.{ErrorKind}
use Rattle.plan_dsl.specs.Trees.{node, no_more, more}
use Rattle.plan_dsl.specs.Refusals.{then_ok, lists_joined}
use Rattle.plan_dsl.specs.Sources.{Excluded, WildcardOp, DtypeColumnOp, NthOp, ExcludeOp, SelectorOp}
use Rattle.plan_dsl.specs.Markers.{without, once, names_of_types, name_at, excludes, without_excluded, marker_names, selector_names}
use Rattle.plan_dsl.specs.Laws.{MarkersNameOnce, SelectorsNameOnce}

-- ---- lists of names

module _ {A : Type 0} (f : A → Name) (p : A → Bool) where
  pub absent_kept : (name : Name) (items : List A) → is_among name (map f items) ≡ false → is_among name (map f (filter p items)) ≡ false
  absent_kept name [] none = refl
  absent_kept name (item ∷ items) none =
      let parts = or_parts (same_name name (f item)) _ none in
      let later = absent_kept name items parts.1 in
      elim (p item) as (λ b. is_among name (map f (cond b (item ∷ filter p items) (filter p items))) ≡ false) [ true ↦ or_from (same_name name (f item)) _ parts.0 later | false ↦ later ]

  -- what is kept of things with distinct names has distinct names
  pub distinct_kept : (items : List A) → repeats (map f items) ≡ false → repeats (map f (filter p items)) ≡ false
  distinct_kept [] none = refl
  distinct_kept (item ∷ items) none =
      let parts = or_parts (is_among (f item) (map f items)) _ none in
      let later = distinct_kept items parts.1 in
      elim (p item) as (λ b. repeats (map f (cond b (item ∷ filter p items) (filter p items))) ≡ false) [ true ↦ or_from (is_among (f item) (map f (filter p items))) _ (absent_kept (f item) items parts.0) later | false ↦ later ]

-- of distinct names, those that are kept are distinct
names_kept : (p : Name → Bool) (names : List Name) → repeats names ≡ false → repeats (filter p names) ≡ false
names_kept p names none =
    let whole : repeats (map (λ name. name) names) ≡ false = ap repeats (map-id names) ∙ none in
    let kept = distinct_kept (λ name. name) p names whole in
    ap repeats (sym (map-id (filter p names))) ∙ kept

without_distinct : (others names : List Name) → repeats names ≡ false → repeats (without others names) ≡ false
without_distinct others names none = names_kept (λ name. not (is_among name others)) names none

types_distinct : (schema : Columns) (types : List Ty) → repeats (names_of schema) ≡ false → repeats (names_of_types schema types) ≡ false
types_distinct schema types none = distinct_kept (λ (column : Name × Ty). column.0) (λ column. list_any (same_type column.1) types) schema none

excluded_distinct : (schema : Columns) (excluded : List Excluded) (names : List Name) → repeats names ≡ false → repeats (without_excluded schema excluded names) ≡ false
excluded_distinct schema excluded names none = names_kept (λ name. not (list_any (excludes schema name) excluded)) names none

left_out : (name : Name) (names : List Name) → is_among name (without (name ∷ []) names) ≡ false
left_out name [] = refl
left_out name (other ∷ names) =
    let later = left_out name names in
    elim (same_name other name) as (λ b. same_name other name ≡ b → is_among name (cond (not (b || false)) (other ∷ without (name ∷ []) names) (without (name ∷ []) names)) ≡ false) [ true ↦ λ e. later | false ↦ λ e. or_from (same_name name other) _ (nat_list_eq_equiv.symm name other ∙ e) later ] refl

once_distinct : (names : List Name) → repeats (once names) ≡ false
once_distinct [] = refl
once_distinct (name ∷ names) =
    or_from (is_among name (without (name ∷ []) (once names))) _ (left_out name (once names)) (without_distinct (name ∷ []) (once names) (once_distinct names))

-- ---- markers

-- what was found, and changed, repeats no name where no change of it does
found_once : {A K : Type 0} (r : Result A K) (change : A → List Name) (names : List Name) → ((found : A) → r ≡ Ok found → repeats (change found) ≡ false) → then_ok r (λ found. Ok (change found)) ≡ Ok names → repeats names ≡ false
found_once (Ok found) change names each h = let same : change found ≡ names = cc in subst (λ l. repeats l ≡ false) same (each found refl)
found_once (Err kind) change names each h = absurd cc

abbrev found_names : List Name → Result (List Name) ErrorKind
found_names names = Ok names

given_once : (given names : List Name) → repeats given ≡ false → found_names given ≡ Ok names → repeats names ≡ false
given_once given names none h = let same : given ≡ names = cc in subst (λ l. repeats l ≡ false) same none

pub markers_name_once : MarkersNameOnce
markers_name_once keys schema (node WildcardOp no_more) names distinct listed h =
    given_once (without keys (names_of schema)) names (without_distinct keys (names_of schema) distinct) h
markers_name_once keys schema (node (DtypeColumnOp types) no_more) names distinct listed h =
    given_once (without keys (names_of_types schema types)) names (without_distinct keys (names_of_types schema types) (types_distinct schema types distinct)) h
markers_name_once keys schema (node (NthOp place) no_more) names distinct listed h =
    found_once (name_at (names_of schema) place) (λ name. name ∷ []) names (λ found there. refl) h
markers_name_once keys schema (node (ExcludeOp excluded) (more marker no_more)) names distinct listed h =
    let below : (found : List Name) → marker_names keys schema marker ≡ Ok found → repeats (without keys (without_excluded schema excluded found)) ≡ false =
    λ found there. without_distinct keys (without_excluded schema excluded found) (excluded_distinct schema excluded found (markers_name_once keys schema marker found distinct listed there)) in
    found_once (marker_names keys schema marker) (λ found. without keys (without_excluded schema excluded found)) names below h
markers_name_once keys schema (node SelectorOp (more selector no_more)) names distinct listed h =
    found_once (selector_names keys schema selector) (λ found. once (without keys found)) names (λ found there. once_distinct (without keys found)) h
markers_name_once keys schema tree names distinct listed h = absurd cc

pub selectors_name_once : SelectorsNameOnce
selectors_name_once schema selectors names h = found_once (lists_joined (selector_names [] schema) selectors) once names (λ found there. once_distinct found) h
