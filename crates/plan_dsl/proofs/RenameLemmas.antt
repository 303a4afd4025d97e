-- New names of columns: which stay, and that a rename the other way round undoes one.
use Rattle.std.proofs.Common.{◌≡◌, List, [], ◌∷◌, length, map, Option, Some, None, true, false, ◌||◌, ◌==◌, cond, is_some, unwrap_or, refl, sym, ap, ◌∙◌, arith, subst}
use Rattle.std.proofs.lemmas.Bool.{and_parts, or_left, or_parts, or_right}
use Rattle.std.proofs.lemmas.Cmp.{nat_list_eq_equiv}
use Rattle.std.proofs.lemmas.Slice.Eq.{bytes_eq-Decides}
use Rattle.plan_types.specs.Schemas.{Name, Columns, same_name, is_among, repeats, names_of}
use Rattle.plan_types.specs.declared.error.ErrorKind.TheVariants.{Duplicate}
use Rattle.plan_dsl.specs.Drops.{have_names}
use Rattle.plan_dsl.specs.TableRules.{distinct_kinds, later_name, new_name, renamed_columns}
use Rattle.plan_dsl.specs.TableLaws.{OtherNamesStay, RenamesCanBeUndone, TheLastNameCounts}
use Rattle.plan_dsl.proofs.RuleLemmas.{not_repeated}
use Rattle.plan_dsl.proofs.TableLemmas.{as_many}

-- ---- names that stay, and those that count

pub other_names_stay : OtherNamesStay
other_names_stay [] new name h = refl
other_names_stay (old ∷ existing) [] name h = refl
other_names_stay (old ∷ existing) (own ∷ new) name h =
    let parts = or_parts (same_name name old) _ h in
    ap (later_name (cond (same_name name old) (Some own) None)) (other_names_stay existing new name parts.1) ∙ ap (λ b. cond b (Some own) None) parts.0

pub the_last_name_counts : TheLastNameCounts
the_last_name_counts [] [] old own h = ap (λ b. cond b (Some own) None) (nat_list_eq_equiv.refl old)
the_last_name_counts [] (x ∷ new) old own h = absurd (omega (arith, h))
the_last_name_counts (x ∷ existing) [] old own h = absurd (omega (arith, h))
the_last_name_counts (x ∷ existing) (y ∷ new) old own h =
    ap (later_name (cond (same_name old x) (Some y) None)) (the_last_name_counts existing new old own (omega (arith, h)))

-- ---- names among others

-- a name among some that stand stands
one_stands : (schema : Columns) (names : List Name) (name : Name) → have_names schema names ≡ true → is_among name names ≡ true → is_among name (names_of schema) ≡ true
one_stands schema [] name h k = absurd cc
one_stands schema (x ∷ names) name h k =
    let parts = and_parts (is_among x (names_of schema)) (have_names schema names) h in
    elim (same_name name x) as (λ b. same_name name x ≡ b → (b || is_among name names) ≡ true → is_among name (names_of schema) ≡ true) [ true ↦ λ e t. ap (λ n. is_among n (names_of schema)) ((bytes_eq-Decides name x).0 e) ∙ parts.0 | false ↦ λ e t. one_stands schema names name parts.1 t ] refl k

-- where no two of some names become one, names that become one are one
module _ (f : Name → Name) where
  mapped_among : (names : List Name) (name : Name) → is_among name names ≡ true → is_among (f name) (map f names) ≡ true
  mapped_among [] name h = absurd cc
  mapped_among (x ∷ names) name h =
      elim (same_name name x) as (λ b. same_name name x ≡ b → (b || is_among name names) ≡ true → (same_name (f name) (f x) || is_among (f name) (map f names)) ≡ true) [
        | true ↦ λ e t. or_left (same_name (f name) (f x)) _ ((bytes_eq-Decides (f name) (f x)).1 (ap f ((bytes_eq-Decides name x).0 e)))
        | false ↦ λ e t. or_right (same_name (f name) (f x)) _ (mapped_among names name t)
      ] refl h

  not_again : (names : List Name) (first other : Name) → is_among (f first) (map f names) ≡ false → is_among other names ≡ true → f other ≡ f first → ⊥
  not_again names first other none there same = let both : true ≡ false = sym (mapped_among names other there) ∙ ap (λ n. is_among n (map f names)) same ∙ none in absurd cc

  one_name : (names : List Name) (a b : Name) → repeats (map f names) ≡ false → is_among a names ≡ true → is_among b names ≡ true → f a ≡ f b → a ≡ b
  one_name [] a b apart g h same = absurd cc
  one_name (x ∷ names) a b apart g h same =
      let parts = or_parts (is_among (f x) (map f names)) (repeats (map f names)) apart in
      elim (same_name a x) as (λ c. same_name a x ≡ c → (c || is_among a names) ≡ true → a ≡ b) [
        | true ↦ λ e t.
            let first = (bytes_eq-Decides a x).0 e in
            elim (same_name b x) as (λ c. same_name b x ≡ c → (c || is_among b names) ≡ true → a ≡ b) [ true ↦ λ d u. first ∙ sym ((bytes_eq-Decides b x).0 d) | false ↦ λ d u. absurd (not_again names x b parts.0 u (sym same ∙ ap f first)) ] refl h
        | false ↦ λ e t. elim (same_name b x) as (λ c. same_name b x ≡ c → (c || is_among b names) ≡ true → a ≡ b) [ true ↦ λ d u. absurd (not_again names x a parts.0 t (same ∙ ap f ((bytes_eq-Decides b x).0 d))) | false ↦ λ d u. one_name names a b parts.1 t u same ] refl h
      ] refl g

-- ---- renames the other way round

some_later : (earlier later : Option Name) → is_some later ≡ true → is_some (later_name earlier later) ≡ true
some_later earlier None h = absurd cc
some_later earlier (Some name) h = refl

some_earlier : (earlier later : Option Name) → is_some earlier ≡ true → is_some (later_name earlier later) ≡ true
some_earlier earlier None h = h
some_earlier earlier (Some name) h = refl

-- a name that is given is renamed back, to one that it is given for
given_back : (existing new : List Name) (name own : Name) → new_name existing new name ≡ Some own → is_some (new_name new existing own) ≡ true
given_back [] new name own h = absurd cc
given_back (x ∷ existing) [] name own h = absurd cc
given_back (x ∷ existing) (y ∷ new) name own h =
    let rest = new_name existing new name in
    let later = new_name new existing own in
    elim rest as (λ o. rest ≡ o → later_name (cond (same_name name x) (Some y) None) o ≡ Some own → is_some (later_name (cond (same_name own y) (Some x) None) later) ≡ true) [
      | Some found ↦ λ e h. some_later _ later (given_back existing new name own (e ∙ h))
      | None ↦ λ e h. some_earlier _ later (
          elim (same_name name x) as (λ b. cond b (Some y) None ≡ Some own → is_some (cond (same_name own y) (Some x) None) ≡ true) [ true ↦ λ h. let same : own ≡ y = cc in ap (λ b. is_some (cond b (Some x) None)) ((bytes_eq-Decides own y).1 same) | false ↦ λ h. absurd cc ] h)
    ] refl h

-- a name is given for another where that one is found back
abbrev IsGivenFor : List Name → List Name → Name → Name → Type 0
IsGivenFor existing new name own = (new_name existing new name ≡ Some own) × (is_among name existing ≡ true)

first_back : (existing new : List Name) (x y name own : Name) → is_among x existing ≡ false → cond (same_name own y) (Some x) None ≡ Some name → IsGivenFor (x ∷ existing) (y ∷ new) name own
first_back existing new x y name own none h =
    elim (same_name own y) as (λ b. same_name own y ≡ b → cond b (Some x) None ≡ Some name → IsGivenFor (x ∷ existing) (y ∷ new) name own) [
      | true ↦ λ e h.
          let same : x ≡ name = cc in
          let given = ap (later_name (cond (same_name x x) (Some y) None)) (other_names_stay existing new x none) ∙ ap (λ b. cond b (Some y) None) (nat_list_eq_equiv.refl x) ∙ ap Some (sym ((bytes_eq-Decides own y).0 e)) in
          subst (λ n. IsGivenFor (x ∷ existing) (y ∷ new) n own) same (given, or_left (same_name x x) _ (nat_list_eq_equiv.refl x))
      | false ↦ λ e h. absurd cc
    ] refl h

found_back : (existing new : List Name) (name own : Name) → repeats existing ≡ false → new_name new existing own ≡ Some name → IsGivenFor existing new name own
found_back existing [] name own apart h = absurd cc
found_back [] (y ∷ new) name own apart h = absurd cc
found_back (x ∷ existing) (y ∷ new) name own apart h =
    let parts = or_parts (is_among x existing) (repeats existing) apart in
    let rest = new_name new existing own in
    elim rest as (λ o. rest ≡ o → later_name (cond (same_name own y) (Some x) None) o ≡ Some name → IsGivenFor (x ∷ existing) (y ∷ new) name own) [
      | Some found ↦ λ e h.
          let later = found_back existing new name own parts.1 (e ∙ h) in
          (ap (later_name (cond (same_name name x) (Some y) None)) later.0, or_right (same_name name x) _ later.1)
      | None ↦ λ e h. first_back existing new x y name own parts.0 h
    ] refl h

module _ (existing new : List Name) where
  abbrev given : Name → Name
  given name = unwrap_or (new_name existing new name) name

  abbrev back : Name → Name
  back name = unwrap_or (new_name new existing name) name

  given_names : (columns : Columns) → names_of (renamed_columns existing new columns) ≡ map given (names_of columns)
  given_names [] = refl
  given_names (column ∷ columns) = ap (λ names. given column.0 ∷ names) (given_names columns)

  -- what isn't renamed back wasn't renamed
  none_given : (name : Name) → new_name new existing (given name) ≡ None → given name ≡ name
  none_given name h =
      elim (new_name existing new name) as (λ o. new_name existing new name ≡ o → new_name new existing (unwrap_or o name) ≡ None → unwrap_or o name ≡ name) [ Some own ↦ λ e h. let both : true ≡ false = sym (given_back existing new name own e) ∙ ap is_some h in absurd cc | None ↦ λ e h. refl ] refl h

  name_undone : (schema : Columns) (name : Name) → have_names schema existing ≡ true → repeats existing ≡ false → repeats (map given (names_of schema)) ≡ false → is_among name (names_of schema) ≡ true → back (given name) ≡ name
  name_undone schema name stand apart distinct there =
      elim (new_name new existing (given name)) as (λ o. new_name new existing (given name) ≡ o → unwrap_or o (given name) ≡ name) [
        | Some old ↦ λ e.
            let found = found_back existing new old (given name) apart e in
            one_name given (names_of schema) old name distinct (one_stands schema existing old stand found.1) there (ap (λ o. unwrap_or o old) found.0)
        | None ↦ λ e. none_given name e
      ] refl

  all_undone : (columns : Columns) → ((name : Name) → is_among name (names_of columns) ≡ true → back (given name) ≡ name) → renamed_columns new existing (renamed_columns existing new columns) ≡ columns
  all_undone [] each = refl
  all_undone (column ∷ columns) each =
      let first = each column.0 (or_left (same_name column.0 column.0) _ (nat_list_eq_equiv.refl column.0)) in
      let later = all_undone columns (λ name there. each name (or_right (same_name name column.0) _ there)) in
      λ i. (first i, column.1) ∷ later i

pub renames_can_be_undone : RenamesCanBeUndone
renames_can_be_undone schema existing new stand apart none =
    let own = names_of (renamed_columns existing new schema) in
    let distinct = not_repeated (repeats own) Duplicate (as_many (length existing == length new) (distinct_kinds own) none) in
    all_undone existing new schema (λ name there. name_undone existing new schema name stand apart (sym (ap repeats (given_names existing new schema)) ∙ distinct) there)
