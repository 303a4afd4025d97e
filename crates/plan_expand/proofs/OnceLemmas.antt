-- Lists of names, each once: what is left of them, and what selectors' rules make of them.
use Rattle.std.proofs.Common.{◌≡◌, List, [], ◌∷◌, ◌++◌, Bool, true, false, cond, not, ◌&&◌, ◌||◌, refl, sym, ap, ◌∙◌}
use Rattle.std.proofs.Math.Bool.{and_comm}
use Rattle.std.specs.List.{filter}
use Rattle.std.proofs.lemmas.List.Elements.{filter_agree}
use Rattle.std.proofs.lemmas.Slice.Eq.{bytes_eq-Decides}
use Rattle.indexmap.specs.IndexSet.{insert_all}
use Rattle.plan_types.specs.Schemas.{Name, same_name, is_among}
use Rattle.plan_dsl.specs.Markers.{without, once, set_of}
use Rattle.plan_dsl.specs.Sources.{SetRule, Add, Sub, Intersect, ExclusiveOr}
use Rattle.plan_expand.proofs.NameLemmas.{both_tests, put_apart, put_behind, put_once}

-- ---- names that pass a test

filters_either_way : (p q : Name → Bool) (names : List Name) → filter p (filter q names) ≡ filter q (filter p names)
filters_either_way p q names =
    both_tests p q names ∙ filter_agree _ _ (λ name. and_comm (q name) (p name)) names ∙ sym (both_tests q p names)

-- a name that fails the test may be taken out before
fails_already : (p : Name → Bool) (absent name : Name) → p absent ≡ false → (not (same_name name absent || false) && p name) ≡ p name
fails_already p absent name fails =
    elim (same_name name absent) as (λ b. same_name name absent ≡ b → (not (b || false) && p name) ≡ p name) [ true ↦ λ e. sym (ap p ((bytes_eq-Decides name absent).0 e) ∙ fails) | false ↦ λ e. refl ] refl

taken_out : (p : Name → Bool) (absent : Name) (names : List Name) → p absent ≡ false → filter p (without (absent ∷ []) names) ≡ filter p names
taken_out p absent names fails =
    both_tests p (λ name. not (is_among name (absent ∷ []))) names ∙ filter_agree _ _ (λ name. fails_already p absent name fails) names

-- names that pass a test, each once
pub once_filtered : (p : Name → Bool) (names : List Name) → once (filter p names) ≡ filter p (once names)
once_filtered p [] = refl
once_filtered p (name ∷ names) =
    let later = once_filtered p names in
    let apart = filters_either_way p (λ other. not (is_among other (name ∷ []))) (once names) in
    elim (p name) as (λ b. p name ≡ b → once (cond b (name ∷ filter p names) (filter p names)) ≡ cond b (name ∷ filter p (without (name ∷ []) (once names))) (filter p (without (name ∷ []) (once names)))) [ true ↦ λ e. ap (λ l. name ∷ without (name ∷ []) l) later ∙ ap (λ l. name ∷ l) (sym apart) | false ↦ λ e. later ∙ sym (taken_out p name (once names) e) ] refl

found_kept : (p : Name → Bool) (name other : Name) (found : Bool) → same_name name other ≡ true → p other ≡ false → (p name && found) ≡ false
found_kept p name other found same fails = ap (λ b. b && found) (ap p ((bytes_eq-Decides name other).0 same) ∙ fails)

-- a name is among those that pass a test where it passes, and is among all
pub among_filtered : (p : Name → Bool) (name : Name) (names : List Name) → is_among name (filter p names) ≡ (p name && is_among name names)
among_filtered p name [] = sym (and_comm (p name) false)
among_filtered p name (other ∷ names) =
    let later = among_filtered p name names in
    elim (p other) as (λ b. p other ≡ b → is_among name (cond b (other ∷ filter p names) (filter p names)) ≡ (p name && (same_name name other || is_among name names))) [ true ↦ λ e. kept e later | false ↦ λ e. lost e later ] refl
  where
    kept : p other ≡ true → is_among name (filter p names) ≡ (p name && is_among name names) → (same_name name other || is_among name (filter p names)) ≡ (p name && (same_name name other || is_among name names))
    kept e later = elim (same_name name other) as (λ b. same_name name other ≡ b → (b || is_among name (filter p names)) ≡ (p name && (b || is_among name names))) [ true ↦ λ same. sym (ap (λ b. b && true) (ap p ((bytes_eq-Decides name other).0 same) ∙ e)) | false ↦ λ same. later ] refl

    lost : p other ≡ false → is_among name (filter p names) ≡ (p name && is_among name names) → is_among name (filter p names) ≡ (p name && (same_name name other || is_among name names))
    lost e later = elim (same_name name other) as (λ b. same_name name other ≡ b → is_among name (filter p names) ≡ (p name && (b || is_among name names))) [ true ↦ λ same. later ∙ found_kept p name other (is_among name names) same e ∙ sym (found_kept p name other true same e) | false ↦ λ same. later ] refl

-- ---- each once

pub among_once : (name : Name) (names : List Name) → is_among name (once names) ≡ is_among name names
among_once name [] = refl
among_once name (other ∷ names) =
    let later = among_filtered (λ n. not (is_among n (other ∷ []))) name (once names) ∙ ap (λ b. not (is_among name (other ∷ [])) && b) (among_once name names) in
    ap (λ b. same_name name other || b) later ∙ elim (same_name name other) as (λ b. (b || (not (b || false) && is_among name names)) ≡ (b || is_among name names)) [ true ↦ refl | false ↦ refl ]

-- names are left out by a list as by its names, each once
pub without_once : (left_out names : List Name) → without (once left_out) names ≡ without left_out names
without_once left_out names = filter_agree _ _ (λ name. ap not (among_once name left_out)) names

once_appended : (names others : List Name) → once (names ++ others) ≡ once names ++ without (once names) (once others)
once_appended names others =
    sym (put_once (names ++ others)) ∙ put_apart [] names others ∙ ap (λ l. insert_all same_name l others) (put_once names) ∙ put_behind (once names) others

-- ---- by selectors' rules

again : (b : Bool) → (b && b) ≡ b
again true = refl
again false = refl

without_twice : (left_out names : List Name) → without left_out (without left_out names) ≡ without left_out names
without_twice left_out names =
    both_tests (λ name. not (is_among name left_out)) (λ name. not (is_among name left_out)) names ∙ filter_agree _ _ (λ name. again (not (is_among name left_out))) names

once_lacking : (names others : List Name) → once (without others names) ≡ without (once others) (once names)
once_lacking names others = once_filtered (λ name. not (is_among name others)) names ∙ sym (without_once others (once names))

-- what the first lacks is in no part of it
part_apart : (p : Name → Bool) (first second : List Name) → without (filter p first) (without first second) ≡ without first second
part_apart p first second =
    both_tests (λ name. not (is_among name (filter p first))) (λ name. not (is_among name first)) second ∙ filter_agree _ _ (λ name. apart name) second
  where
    apart : (name : Name) → (not (is_among name first) && not (is_among name (filter p first))) ≡ not (is_among name first)
    apart name =
        ap (λ b. not (is_among name first) && not b) (among_filtered p name first ∙ and_comm (p name) (is_among name first))
        ∙ elim (is_among name first) as (λ b. (not b && not (b && p name)) ≡ not b) [ true ↦ refl | false ↦ refl ]

-- a rule makes the same of two lists, each name once, as of their names, each once
pub set_once : (rule : SetRule) (names others : List Name) → once (set_of rule names others) ≡ set_of rule (once names) (once others)
set_once Add names others =
    once_appended names (without names others) ∙ ap (λ l. once names ++ without (once names) l) (once_lacking others names) ∙ ap (λ l. once names ++ l) (without_twice (once names) (once others))
set_once Sub names others = once_lacking names others
set_once Intersect names others =
    once_filtered (λ name. is_among name others) names ∙ filter_agree _ _ (λ name. sym (among_once name others)) (once names)
set_once ExclusiveOr names others =
    once_appended (without others names) (without names others)
    ∙ (λ i. once_lacking names others i ++ without (once_lacking names others i) (once_lacking others names i))
    ∙ ap (λ l. without (once others) (once names) ++ l) (part_apart (λ name. not (is_among name (once others))) (once names) (once others))
