-- Lists of names that are put into sets one by one, and selectors whose names are gathered.
use Rattle.std.proofs.Common.{◌≡◌, List, [], ◌∷◌, ◌++◌, Bool, true, false, cond, not, ◌&&◌, ◌||◌, Result, Ok, Err, refl, sym, ap, ◌∙◌, append_assoc, append-nil, subst}
use Rattle.std.proofs.Math.Bool.{and-true, and-false}
use Rattle.std.specs.List.{AllByRecursion, IsDistinct, filter}
use Rattle.std.proofs.lemmas.Bool.{or_parts, or_from}
use Rattle.std.proofs.lemmas.Cmp.{nat_list_eq_equiv}
use Rattle.std.proofs.lemmas.List.Elements.{filter_agree, Contains-append_left, Contains-push}
use Rattle.std.proofs.lemmas.Slice.Eq.{bytes_eq-Decides}
use Rattle.indexmap.specs.IndexSet.{insert_all}
use Rattle.plan_types.specs.Errors.{at_top, IsRefusal, no_room as refused_memory, broken}
use Rattle.plan_types.specs.Schemas.{Name, Columns, same_name, is_among, repeats}
use Rattle.plan_types.specs.declared.error.ErrorKind.{ErrorKind}
use Rattle.plan_types.specs.declared.error.PlanError.{PlanError}
use Rattle.plan_types.proofs.NameLemmas.{repeats-push}
use Rattle.plan_dsl.specs.Markers.{without, once, selector_names, names_of_selectors}
use Rattle.plan_dsl.specs.Refusals.{then_ok, with_kinds, joined, lists_joined}
use Rattle.plan_dsl.specs.Sources.{Source}
use Rattle.plan_expand.specs.Names.{selected}
use Rattle.plan_expand.specs.Refusals.{IsUnexpanded, no_room, unexpanded}

-- ---- names in sets

pub both_tests : (p q : Name → Bool) (names : List Name) → filter p (filter q names) ≡ filter (λ name. q name && p name) names
both_tests p q [] = refl
both_tests p q (name ∷ names) =
    let later = both_tests p q names in
    elim (q name) as (λ b. filter p (cond b (name ∷ filter q names) (filter q names)) ≡ cond (b && p name) (name ∷ filter (λ other. q other && p other) names) (filter (λ other. q other && p other) names)) [ true ↦ λ i. cond (p name) (name ∷ later i) (later i) | false ↦ later ]

not_among_pushed : (name last : Name) (names : List Name) → not (is_among name (names ++ last ∷ [])) ≡ (not (is_among name (last ∷ [])) && not (is_among name names))
not_among_pushed name last [] = sym (and-true (not (is_among name (last ∷ []))))
not_among_pushed name last (other ∷ names) =
    let apart = not (is_among name (last ∷ [])) in
    elim (same_name name other) as (λ b. not (b || is_among name (names ++ last ∷ [])) ≡ (apart && not (b || is_among name names))) [ true ↦ sym (and-false apart) | false ↦ not_among_pushed name last names ]

-- a list that grows by a name leaves out that name too
without_pushed : (left_out : List Name) (last : Name) (names : List Name) → without (left_out ++ last ∷ []) names ≡ without left_out (without (last ∷ []) names)
without_pushed left_out last names =
    filter_agree _ _ (λ name. not_among_pushed name last left_out) names ∙ sym (both_tests (λ name. not (is_among name left_out)) (λ name. not (is_among name (last ∷ []))) names)

not_among_there : (there : Name) (left_out : List Name) (name : Name) → is_among there left_out ≡ true → not (is_among name left_out) ≡ (not (is_among name (there ∷ [])) && not (is_among name left_out))
not_among_there there left_out name h =
    elim (same_name name there) as (λ b. same_name name there ≡ b → not (is_among name left_out) ≡ (not (b || false) && not (is_among name left_out))) [ true ↦ λ e. ap (λ n. not (is_among n left_out)) ((bytes_eq-Decides name there).0 e) ∙ ap not h | false ↦ λ e. refl ] refl

-- a name that is left out already needn't be left out again
without_again : (left_out : List Name) (there : Name) (names : List Name) → is_among there left_out ≡ true → without left_out names ≡ without left_out (without (there ∷ []) names)
without_again left_out there names h =
    filter_agree _ _ (λ name. not_among_there there left_out name h) names ∙ sym (both_tests (λ name. not (is_among name left_out)) (λ name. not (is_among name (there ∷ []))) names)

-- what is put into a set stands behind what was there, each once
pub put_behind : (names : List Name) (added : List Name) → insert_all same_name names added ≡ names ++ without names (once added)
put_behind names [] = sym (append-nil names)
put_behind names (name ∷ added) =
    let later = without names (without (name ∷ []) (once added)) in
    elim (is_among name names) as (λ b. is_among name names ≡ b → insert_all same_name (cond b names (names ++ name ∷ [])) added ≡ names ++ cond (not b) (name ∷ later) later) [ true ↦ λ e. put_behind names added ∙ ap (λ l. names ++ l) (without_again names name (once added) e) | false ↦ λ e. put_behind (names ++ name ∷ []) added ∙ append_assoc names (name ∷ []) _ ∙ ap (λ l. names ++ name ∷ l) (without_pushed names name (once added)) ] refl

without_none : (names : List Name) → without [] names ≡ names
without_none [] = refl
without_none (name ∷ names) = ap (λ l. name ∷ l) (without_none names)

absent_stays : (absent : Name) (names : List Name) → is_among absent names ≡ false → without (absent ∷ []) names ≡ names
absent_stays absent [] none = refl
absent_stays absent (name ∷ names) none =
    let parts = or_parts (same_name absent name) _ none in
    let later = without (absent ∷ []) names in
    ap (λ b. cond (not (b || false)) (name ∷ later) later) (nat_list_eq_equiv.symm name absent ∙ parts.0) ∙ ap (λ l. name ∷ l) (absent_stays absent names parts.1)

distinct_once : (names : List Name) → repeats names ≡ false → once names ≡ names
distinct_once [] none = refl
distinct_once (name ∷ names) none =
    let parts = or_parts (is_among name names) _ none in
    ap (λ l. name ∷ without (name ∷ []) l) (distinct_once names parts.1) ∙ ap (λ l. name ∷ l) (absent_stays name names parts.0)

-- a set of some names is these, each once
pub put_once : (names : List Name) → insert_all same_name [] names ≡ once names
put_once names = put_behind [] names ∙ without_none (once names)

-- a set to which distinct names are added
pub put_new : (names added : List Name) → repeats added ≡ false → insert_all same_name names added ≡ names ++ without names added
put_new names added none = put_behind names added ∙ ap (λ l. names ++ without names l) (distinct_once added none)

pub put_distinct : (names : List Name) → repeats names ≡ false → insert_all same_name [] names ≡ names
put_distinct names none = put_once names ∙ distinct_once names none

-- and whose own names are distinct has distinct names
pub put_keeps : (names added : List Name) → repeats names ≡ false → repeats (insert_all same_name names added) ≡ false
put_keeps names [] none = none
put_keeps names (name ∷ added) none =
    put_keeps (cond (is_among name names) names (names ++ name ∷ [])) added (elim (is_among name names) as (λ b. is_among name names ≡ b → repeats (cond b names (names ++ name ∷ [])) ≡ false) [ true ↦ λ e. none | false ↦ λ e. repeats-push names name none e ] refl)

pub put_apart : (names added others : List Name) → insert_all same_name names (added ++ others) ≡ insert_all same_name (insert_all same_name names added) others
put_apart names [] others = refl
put_apart names (name ∷ added) others = put_apart (cond (is_among name names) names (names ++ name ∷ [])) added others

-- each name once is a list of distinct names
pub once_distinct : (names : List Name) → repeats (once names) ≡ false
once_distinct names = subst (λ l. repeats l ≡ false) (put_once names) (put_keeps [] names refl)

-- names that are put into a set once are put there
put_again : (names added : List Name) → insert_all same_name names added ≡ insert_all same_name names (once added)
put_again names added =
    put_behind names added ∙ ap (λ l. names ++ without names l) (sym (distinct_once (once added) (once_distinct added))) ∙ sym (put_behind names (once added))

none_among : (name : Name) (names : List Name) → AllByRecursion (λ other. same_name name other ≡ false) names → is_among name names ≡ false
none_among name [] h = refl
none_among name (other ∷ names) h = or_from (same_name name other) _ h.0 (none_among name names h.1)

-- the names of a set are distinct
pub set_distinct : (names : List Name) → IsDistinct same_name names → repeats names ≡ false
unfolding IsDistinct
set_distinct [] h = refl
set_distinct (name ∷ names) h = or_from (is_among name names) _ (none_among name names h.0) (set_distinct names h.1)

-- ---- selectors

-- the names so far, and then those of the selectors that are left
abbrev pub gathered : Columns → List Name → List Source → Result (List Name) (List ErrorKind)
gathered schema names rest = then_ok (lists_joined (selector_names [] schema) rest) (λ added. Ok (insert_all same_name names added))

pub gathered_start : (schema : Columns) (selectors : List Source) → names_of_selectors schema selectors ≡ gathered schema [] selectors
gathered_start schema selectors = elim (lists_joined (selector_names [] schema) selectors) as (λ r. then_ok r (λ names. Ok (once names)) ≡ then_ok r (λ added. Ok (insert_all same_name [] added))) [ Ok names ↦ ap Ok (sym (put_once names)) | Err kinds ↦ refl ]

pub gathered_step : (schema : Columns) (names : List Name) (selector : Source) (rest : List Source) (found : List Name) → selected [] schema selector ≡ Ok found → gathered schema names (selector ∷ rest) ≡ gathered schema (insert_all same_name names found) rest
gathered_step schema names selector rest found h = one (selector_names [] schema selector) h
  where
    both : (all others : List Name) → once all ≡ found → insert_all same_name names (all ++ others) ≡ insert_all same_name (insert_all same_name names found) others
    both all others same = put_apart names all others ∙ ap (λ l. insert_all same_name l others) (put_again names all ∙ ap (insert_all same_name names) same)

    one : (r : Result (List Name) ErrorKind) → then_ok r (λ all. Ok (once all)) ≡ Ok found → then_ok (joined (with_kinds r) (lists_joined (selector_names [] schema) rest)) (λ added. Ok (insert_all same_name names added)) ≡ gathered schema (insert_all same_name names found) rest
    one (Ok all) e =
        let same : once all ≡ found = cc in
        elim (lists_joined (selector_names [] schema) rest) as (λ r. then_ok (joined (Ok all) r) (λ added. Ok (insert_all same_name names added)) ≡ then_ok r (λ added. Ok (insert_all same_name (insert_all same_name names found) added))) [ Ok others ↦ ap Ok (both all others same) | Err kinds ↦ refl ]
    one (Err kind) e = absurd cc

first_told : (kind : ErrorKind) (names : List Name) (error : PlanError) (answer : Result (List Name) (List ErrorKind)) (rest : Result (List Name) (List ErrorKind)) → error ≡ at_top kind
    → answer ≡ then_ok (joined (Err (kind ∷ [])) rest) (λ added. Ok (insert_all same_name names added)) → IsUnexpanded answer error
first_told kind names error answer (Ok found) told is = unexpanded (kind ∷ []) kind told is (Contains-push [] kind)
first_told kind names error answer (Err kinds) told is = unexpanded (kind ∷ kinds) kind told is (Contains-append_left (kind ∷ []) kinds kind (Contains-push [] kind))

-- a selector that is refused refuses all
pub gathered_refused : (schema : Columns) (names : List Name) (selector : Source) (rest : List Source) (error : PlanError) (answer : Result (List Name) (List ErrorKind)) → answer ≡ gathered schema names (selector ∷ rest)
    → IsRefusal (selector_names [] schema selector) error → IsUnexpanded answer error
gathered_refused schema names selector rest error answer is (refused_memory e) = no_room e
gathered_refused schema names selector rest error answer is (broken kind told by) =
    first_told kind names error answer (lists_joined (selector_names [] schema) rest) told (is ∙ ap (λ r. then_ok (joined (with_kinds r) (lists_joined (selector_names [] schema) rest)) (λ added. Ok (insert_all same_name names added))) by)

-- names that were put into an empty set one by one, of which none are left
pub all_put : (names kept left : List Name) → IsDistinct same_name names → insert_all same_name kept left ≡ once names → left ≡ [] → kept ≡ names
all_put names kept left distinct is none = ap (insert_all same_name kept) (sym none) ∙ is ∙ distinct_once names (set_distinct names distinct)
