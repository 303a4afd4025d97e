-- Lists of which each item comes to something, one by one.
use Rattle.std.proofs.Common.{◌≡◌, ◌<◌, ◌+◌, ℕ, List, [], ◌∷◌, ◌++◌, length, drop, get_or, Result, Ok, Err, refl, sym, ap, ◌∙◌, append_assoc, append-nil}
use Rattle.std.proofs.lemmas.List.{drop_more}
use Rattle.std.proofs.lemmas.List.Elements.{Contains-append_left, Contains-push}
use Rattle.std.specs.Result.{IfOk, IsErr}
use Rattle.plan_types.specs.Errors.{at_top, IsRefusal, no_room, broken}
use Rattle.plan_types.specs.declared.error.ErrorKind.{ErrorKind}
use Rattle.plan_types.specs.declared.error.PlanError.{PlanError}
use Rattle.plan_dsl.specs.Refusals.{then_ok, each_ok, with_kinds, joined, lists_joined}
use Rattle.plan_expand.specs.Refusals.{IsUnexpanded, no_room as no_memory_left, unexpanded}

-- what was found, and behind it what the rest comes to
abbrev pub behind : {B : Type 0} → List B → Result (List B) ErrorKind → Result (List B) ErrorKind
behind found rest = then_ok rest (λ others. Ok (found ++ others))

module _ {A B : Type 0} (definition : A → Result B ErrorKind) where
  pub each_start : (items : List A) → each_ok definition items ≡ behind [] (each_ok definition items)
  each_start items = elim (each_ok definition items) as (λ r. r ≡ then_ok r (λ others. Ok others)) [ Ok others ↦ refl | Err kind ↦ refl ]

  -- one more that came to something
  pub each_step : (found grown : List B) (item : A) (rest : List A) (made : B) → definition item ≡ Ok made → grown ≡ found ++ made ∷ [] → behind found (each_ok definition (item ∷ rest)) ≡ behind grown (each_ok definition rest)
  each_step found grown item rest made h more =
      ap (λ r. behind found (then_ok r (λ first. then_ok (each_ok definition rest) (λ others. Ok (first ∷ others))))) h
      ∙ elim (each_ok definition rest) as (λ r. behind found (then_ok r (λ others. Ok (made ∷ others))) ≡ behind (found ++ made ∷ []) r) [ Ok others ↦ ap Ok (sym (append_assoc found (made ∷ []) others)) | Err kind ↦ refl ]
      ∙ ap (λ l. behind l (each_ok definition rest)) (sym more)

  -- one that is refused refuses all
  pub each_refused : (found : List B) (item : A) (rest : List A) (error : PlanError) (answer : Result (List B) ErrorKind) → answer ≡ behind found (each_ok definition (item ∷ rest)) → IsRefusal (definition item) error → IsRefusal answer error
  each_refused found item rest error answer is (no_room e) = no_room e
  each_refused found item rest error answer is (broken kind told by) =
      broken kind told (is ∙ ap (λ r. behind found (then_ok r (λ first. then_ok (each_ok definition rest) (λ others. Ok (first ∷ others))))) by)

  -- lists that are made item by item, by the item at a place
  pub each_more : (found grown : List B) (items : List A) (i : ℕ) (d : A) (made : B) (answer : Result (List B) ErrorKind) → i < length items → definition (get_or items i d) ≡ Ok made → grown ≡ found ++ made ∷ [] → answer ≡ behind found (each_ok definition (drop i items)) → answer ≡ behind grown (each_ok definition (drop (i + 1) items))
  each_more found grown items i d made answer within h more before =
      before ∙ ap (λ l. behind found (each_ok definition l)) (drop_more items i d within) ∙ each_step found grown (get_or items i d) (drop (i + 1) items) made h more

  pub each_refused_at : (found : List B) (items : List A) (i : ℕ) (d : A) (error : PlanError) (answer : Result (List B) ErrorKind) → i < length items → answer ≡ behind found (each_ok definition (drop i items)) → IsRefusal (definition (get_or items i d)) error → IsRefusal answer error
  each_refused_at found items i d error answer within before refused =
      each_refused found (get_or items i d) (drop (i + 1) items) error answer (before ∙ ap (λ l. behind found (each_ok definition l)) (drop_more items i d within)) refused

  pub each_end : (found : List B) (rest : List A) → rest ≡ [] → behind found (each_ok definition rest) ≡ Ok found
  each_end found rest none = ap (λ l. behind found (each_ok definition l)) none ∙ ap Ok (append-nil found)

-- ---- lists that are made one by one, and joined

module _ {A B : Type 0} (definition : A → Result (List B) ErrorKind) where
  pub lists_start : (items : List A) (made : List B) → made ≡ [] → lists_joined definition items ≡ joined (Ok made) (lists_joined definition items)
  lists_start items made none = elim (lists_joined definition items) as (λ r. r ≡ joined (Ok []) r) [ Ok others ↦ refl | Err kinds ↦ refl ] ∙ ap (λ l. joined (Ok l) (lists_joined definition items)) (sym none)

  -- one more that stands behind what was made
  pub lists_more : (made grown : List B) (item : A) (rest : List A) → joined (Ok made) (with_kinds (definition item)) ≡ Ok grown → joined (Ok made) (lists_joined definition (item ∷ rest)) ≡ joined (Ok grown) (lists_joined definition rest)
  lists_more made grown item rest h = more (definition item) h
    where
      more : (r : Result (List B) ErrorKind) → joined (Ok made) (with_kinds r) ≡ Ok grown → joined (Ok made) (joined (with_kinds r) (lists_joined definition rest)) ≡ joined (Ok grown) (lists_joined definition rest)
      more (Ok found) e =
          let same : made ++ found ≡ grown = cc in
          elim (lists_joined definition rest) as (λ r. joined (Ok made) (joined (Ok found) r) ≡ joined (Ok (made ++ found)) r) [ Ok others ↦ ap Ok (sym (append_assoc made found others)) | Err kinds ↦ refl ]
          ∙ ap (λ l. joined (Ok l) (lists_joined definition rest)) same
      more (Err kind) e = absurd cc

  first_told : (made : List B) (kind : ErrorKind) (error : PlanError) (answer rest : Result (List B) (List ErrorKind)) → error ≡ at_top kind → answer ≡ joined (Ok made) (joined (Err (kind ∷ [])) rest) → IsUnexpanded answer error
  first_told made kind error answer (Ok others) told is = unexpanded (kind ∷ []) kind told is (Contains-push [] kind)
  first_told made kind error answer (Err kinds) told is = unexpanded (kind ∷ kinds) kind told is (Contains-append_left (kind ∷ []) kinds kind (Contains-push [] kind))

  -- one that is refused refuses all
  pub lists_refused : (made : List B) (item : A) (rest : List A) (error : PlanError) (answer : Result (List B) (List ErrorKind)) → answer ≡ joined (Ok made) (lists_joined definition (item ∷ rest)) → IsRefusal (definition item) error → IsUnexpanded answer error
  lists_refused made item rest error answer is (no_room e) = no_memory_left e
  lists_refused made item rest error answer is (broken kind told by) =
      first_told made kind error answer (lists_joined definition rest) told (is ∙ ap (λ r. joined (Ok made) (joined (with_kinds r) (lists_joined definition rest))) by)

  pub lists_end : (made : List B) (rest : List A) → rest ≡ [] → joined (Ok made) (lists_joined definition rest) ≡ Ok made
  lists_end made rest none = ap (λ l. joined (Ok made) (lists_joined definition l)) none ∙ ap Ok (append-nil made)

-- what says nothing of a refusal
pub nothing_found : {T E : Type 0} (r : Result T E) (P : T → Type 0) → IsErr r → IfOk r P
nothing_found (Ok x) P h = absurd cc
nothing_found (Err e) P h = tt
