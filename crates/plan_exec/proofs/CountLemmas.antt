-- How many rows columns make, column by column.
use Rattle.std.proofs.Common.{◌≡◌, ◌∙◌, ◌+◌, ◌<◌, ℕ, List, [], ◌∷◌, ◌++◌, drop, get_or, length, map, take, Bool, true, false, ◌||◌, Option, Some, None, option_map, refl, sym, ap, subst}
use Rattle.std.specs.List.{AllByRecursion}
use Rattle.std.proofs.lemmas.Bool.{or_parts}
use Rattle.std.proofs.lemmas.List.{drop_more, map-append, take-append-drop, take_more}
use Rattle.std.proofs.lemmas.List.Folds.{list_any-append}
use Rattle.plan_types.specs.Schemas.{Name}
use Rattle.plan_types.specs.FrameFaults.{shown}
use Rattle.plan_types.specs.declared.column.Column.{Column}
use Rattle.plan_exec.specs.ColumnFunctions.{AllMake, Disagree, counts_in, some_listed}
use Rattle.plan_exec.specs.LaidFrames.{Shown}

-- what is known of columns that were counted: none is exploded, or those that are make so many rows
abbrev pub Counted : (Name → Bool) → Option (List ℕ) → List Shown → Type 0
Counted test None columns = some_listed test columns ≡ false
Counted test (Some counts) columns = (some_listed test columns ≡ true) × AllMake test counts columns

pub both_are : {A : Type 0} (P : A → Type 0) (front back : List A) → AllByRecursion P front → AllByRecursion P back → AllByRecursion P (front ++ back)
both_are P [] back h k = k
both_are P (item ∷ front) back h k = (h.0, both_are P front back h.1 k)

-- what is none of the others is none
pub none_found : {A B : Type 0} (f : A → B) (found : Option A) → ((item : A) → found ≡ Some item → ⊥) → option_map f found ≡ None
none_found f None none = refl
none_found f (Some item) none = absurd (none item refl)

either-none : (b : Bool) → (b || false) ≡ b
either-none true = refl
either-none false = refl

none_make : (test : Name → Bool) (counts : List ℕ) (columns : List Shown) → some_listed test columns ≡ false → AllMake test counts columns
none_make test counts [] none = tt
none_make test counts (c ∷ cs) none =
    let parts = or_parts (test c.0.0) (some_listed test cs) none in
    ((λ t. let apart : true ≡ false = sym t ∙ parts.0 in cc), none_make test counts cs parts.1)

module _ (test : Name → Bool) (columns : List Shown) (own : Shown) where
  some_more : (b : Bool) → some_listed test columns ≡ b → some_listed test (columns ++ own ∷ []) ≡ (b || test own.0.0)
  some_more b is = list_any-append (λ column. test column.0.0) columns (own ∷ []) ∙ ap (λ first. first || (test own.0.0 || false)) is ∙ ap (λ last. b || last) (either-none (test own.0.0))

  all_more : (counts : List ℕ) → AllMake test counts columns → (test own.0.0 ≡ true → counts_in own.1 ≡ counts) → AllMake test counts (columns ++ own ∷ [])
  all_more counts all makes = both_are (λ (column : Shown). test column.0.0 ≡ true → counts_in column.1 ≡ counts) columns (own ∷ []) all (makes, tt)

  -- the first column that is exploded
  counted_first : (counts : List ℕ) → test own.0.0 ≡ true → counts ≡ counts_in own.1 → Counted test None columns → Counted test (Some counts) (columns ++ own ∷ [])
  counted_first counts is makes none = (some_more false none ∙ is, all_more counts (none_make test counts columns none) (λ t. sym makes))

  -- a further one, which makes as many
  counted_too : (counts : List ℕ) → test own.0.0 ≡ true → counts_in own.1 ≡ counts → Counted test (Some counts) columns → Counted test (Some counts) (columns ++ own ∷ [])
  counted_too counts is makes so_far = (some_more true so_far.0, all_more counts so_far.1 (λ t. makes))

  counted_beside : (found : Option (List ℕ)) → test own.0.0 ≡ false → Counted test found columns → Counted test found (columns ++ own ∷ [])
  counted_beside None isnt none = some_more false none ∙ isnt
  counted_beside (Some counts) isnt so_far = (some_more true so_far.0, all_more counts so_far.1 (λ t. let apart : true ≡ false = sym t ∙ isnt in cc))

-- ---- by numbers

next_shown : (columns : List Column) (index : ℕ) (column : Column) → index < length columns → column ≡ get_or columns index column → map shown (take (index + 1) columns) ≡ map shown (take index columns) ++ shown column ∷ []
next_shown columns index column within at =
    ap (map shown) (take_more columns index column within) ∙ ap (λ c. map shown (take index columns ++ c ∷ [])) (sym at) ∙ map-append shown (take index columns) (column ∷ [])

module _ (test : Name → Bool) (columns : List Column) (index : ℕ) (column : Column) (within : index < length columns) (at : column ≡ get_or columns index column) where
  pub first_at : (found new : Option (List ℕ)) (counts : List ℕ) → found ≡ None → new ≡ Some counts → test column.name ≡ true → counts ≡ counts_in (shown column).1 → Counted test found (map shown (take index columns)) → Counted test new (map shown (take (index + 1) columns))
  first_at found new counts none some is makes so_far =
      let before = subst (λ found. Counted test found (map shown (take index columns))) none so_far in
      let more = counted_first test (map shown (take index columns)) (shown column) counts is makes before in
      let next = sym (next_shown columns index column within at) in
      subst (λ found. Counted test found (map shown (take (index + 1) columns))) (sym some) (subst (Counted test (Some counts)) next more)

  pub too_at : (found : Option (List ℕ)) (counts : List ℕ) → found ≡ Some counts → test column.name ≡ true → counts_in (shown column).1 ≡ counts → Counted test found (map shown (take index columns)) → Counted test found (map shown (take (index + 1) columns))
  too_at found counts some is makes so_far =
      let before = subst (λ found. Counted test found (map shown (take index columns))) some so_far in
      let more = counted_too test (map shown (take index columns)) (shown column) counts is makes before in
      let next = sym (next_shown columns index column within at) in
      subst (λ found. Counted test found (map shown (take (index + 1) columns))) (sym some) (subst (Counted test (Some counts)) next more)

  pub beside_at : (found : Option (List ℕ)) → test column.name ≡ false → Counted test found (map shown (take index columns)) → Counted test found (map shown (take (index + 1) columns))
  beside_at found isnt so_far = subst (Counted test found) (sym (next_shown columns index column within at)) (counted_beside test (map shown (take index columns)) (shown column) found isnt so_far)

  -- one that makes other numbers of rows disagrees
  pub disagrees : (found : Option (List ℕ)) (counts : List ℕ) → found ≡ Some counts → test column.name ≡ true → ¬ (counts_in (shown column).1 ≡ counts) → Counted test found (map shown (take index columns)) → Disagree test (map shown columns)
  disagrees found counts some is differs so_far =
      let before = subst (λ found. Counted test found (map shown (take index columns))) some so_far in
      let left : column ∷ drop (index + 1) columns ≡ drop index columns = ap (λ c. c ∷ drop (index + 1) columns) at ∙ sym (drop_more columns index column within) in
      let whole : columns ≡ take index columns ++ column ∷ drop (index + 1) columns = sym (take-append-drop index columns) ∙ ap (λ l. take index columns ++ l) (sym left) in
      record {
        counts = counts;
        front = map shown (take index columns);
        other = shown column;
        back = map shown (drop (index + 1) columns);
        whole = ap (map shown) whole ∙ map-append shown (take index columns) (column ∷ drop (index + 1) columns);
        made = before.1;
        some = before.0;
        listed = is;
        differs = differs;
      }
