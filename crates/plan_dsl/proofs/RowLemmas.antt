-- Rows of columns that fit, and what a function gives row by row.
use Rattle.std.proofs.Common.{◌≡◌, ◌∙◌, ℕ, zero, suc, true, false, cond, List, [], ◌∷◌, length, map, replicate, Option, Some, None, IsTrue, refl, sym}
use Rattle.std.specs.Prelude.{◌==◌, ◌||◌}
use Rattle.std.specs.List.{AllByRecursion}
use Rattle.std.proofs.lemmas.Bool.{and_parts, or_parts}
use Rattle.plan_types.specs.Types.{Ty}
use Rattle.plan_types.specs.Values.{Val, fits, all_fit}
use Rattle.plan_types.specs.Casts.{Converted}
use Rattle.plan_types.specs.Frames.{Row}
use Rattle.plan_types.specs.Outcomes.{Outcome, Done, Fault, Stuck, Meets, then_do}
use Rattle.plan_types.proofs.ValueLemmas.{ConvertedFits, meets_as, meets_then}
use Rattle.plan_dsl.specs.Typing.{Typed, some_many}
use Rattle.plan_dsl.specs.Rows.{by_row, each_row, for_rows, in_front, key_rows, length_beside, length_of_all, rows_of, stretched}
use Rattle.plan_dsl.specs.Laws.{AreOf}
use Rattle.plan_dsl.proofs.ColumnLemmas.{AreAllOf, AreSoMany, before_fits, stretched_fits}
use Rattle.plan_dsl.proofs.SortLemmas.{key_rows_many}

-- each value of a row fits the type of its place
abbrev pub RowIs : List Typed → Row → Type 0
RowIs [] [] = Unit {0}
RowIs (t ∷ ts) (value ∷ row) = IsTrue (fits value t.type) × RowIs ts row
RowIs [] (value ∷ row) = ⊥
RowIs (t ∷ ts) [] = ⊥

empty_rows : (count : ℕ) → AllByRecursion (RowIs []) (replicate count [])
empty_rows zero = tt
empty_rows (suc count) = (tt, empty_rows count)

front_is : (t : Typed) (ts : List Typed) (values : List Val) (rows : List Row) → IsTrue (all_fit values t.type) → AllByRecursion (RowIs ts) rows → AllByRecursion (RowIs (t ∷ ts)) (in_front values rows)
front_is t ts [] rows h k = tt
front_is t ts (value ∷ values) [] h k = tt
front_is t ts (value ∷ values) (row ∷ rows) h k =
    let parts = and_parts (fits value t.type) (all_fit values t.type) h in ((parts.0, k.0), front_is t ts values rows parts.1 k.1)

column_is : (count : ℕ) (values : List Val) (type : Ty) → IsTrue (all_fit values type) → Meets (λ column. IsTrue (all_fit column type)) (for_rows count values)
column_is count values type h =
    elim (length values == count || length values == 1) as (λ b. Meets (λ column. IsTrue (all_fit column type)) (cond b (Done (stretched count values)) Fault)) [ true ↦ stretched_fits count values type h | false ↦ tt ]

rows_are : (count : ℕ) (typed : List Typed) (columns : List (List Val)) → AreAllOf typed columns → Meets (AllByRecursion (RowIs typed)) (key_rows count columns)
rows_are count [] [] of = empty_rows count
rows_are count [] (column ∷ columns) of = absurd of
rows_are count (t ∷ ts) [] of = absurd of
rows_are count (t ∷ ts) (column ∷ columns) of =
    let Next = AllByRecursion (RowIs (t ∷ ts)) in
    meets_then (λ values. IsTrue (all_fit values t.type)) Next (for_rows count column) (λ values. then_do (key_rows count columns) (λ rows. Done (in_front values rows))) (column_is count column t.type of.0.fitting) (λ values fit.
    meets_then (AllByRecursion (RowIs ts)) Next (key_rows count columns) (λ rows. Done (in_front values rows)) (rows_are count ts columns of.1) (λ rows each. front_is t ts values rows fit each))

both_meet : {A : Type 0} (P Q : A → Type 0) (o : Outcome A) → Meets P o → Meets Q o → Meets (λ x. P x × Q x) o
both_meet P Q (Done x) p q = (p, q)
both_meet P Q Fault p q = tt
both_meet P Q Stuck p q = p

-- what a function gives of such rows
each_row_fits : (typed : List Typed) (own : Ty) (f : Row → Converted) → ((row : Row) → RowIs typed row → ConvertedFits own (f row)) → (rows : List Row) → AllByRecursion (RowIs typed) rows → Meets (AreSoMany own (length rows)) (each_row f rows)
each_row_fits typed own f gives [] each = record { fitting = refl; as_many = refl }
each_row_fits typed own f gives (row ∷ rows) each =
    before_fits own (length rows) (f row) (each_row f rows) (gives row each.0) (each_row_fits typed own f gives rows each.1)

-- columns of one value are brought to one
one_beside : (count : ℕ) (other : Option ℕ) → count ≡ 1 → other ≡ Some 1 → length_beside count other ≡ Some 1
one_beside count other h k = λ i. length_beside (h i) (k i)

one_of_all : (typed : List Typed) (columns : List (List Val)) → AreAllOf typed columns → some_many typed ≡ false → length_of_all (map length columns) ≡ Some 1
one_of_all [] [] of single = refl
one_of_all [] (column ∷ columns) of single = absurd of
one_of_all (t ∷ ts) [] of single = absurd of
one_of_all (t ∷ ts) (column ∷ columns) of single =
    let parts = or_parts t.many (some_many ts) single in
    one_beside (length column) (length_of_all (map length columns)) (of.0.single parts.0) (one_of_all ts columns of.1 parts.1)

some_is : (a b : ℕ) → Some a ≡ Some b → a ≡ b
some_is a b e = cc

-- a function of the values side by side gives a column of its type, where it gives a value of it or a fault of each row
pub by_row_fits : (typed : List Typed) (own : Ty) (f : Row → Converted) → ((row : Row) → RowIs typed row → ConvertedFits own (f row)) → (columns : List (List Val)) → AreAllOf typed columns → Meets (AreOf (record { type = own; many = some_many typed })) (by_row f columns)
by_row_fits typed own f gives columns of =
    let Own = AreOf (record { type = own; many = some_many typed }) in
    elim (length_of_all (map length columns)) as (λ o. length_of_all (map length columns) ≡ o → Meets Own (then_do (rows_of o columns) (each_row f))) [
      | None ↦ λ e. tt
      | Some count ↦ λ e.
          let Rows : List Row → Type 0 = λ rows. (length rows ≡ count) × AllByRecursion (RowIs typed) rows in
          meets_then Rows Own (key_rows count columns) (each_row f) (both_meet (λ rows. length rows ≡ count) (AllByRecursion (RowIs typed)) (key_rows count columns) (key_rows_many count columns) (rows_are count typed columns of)) (λ rows have.
          meets_as (AreSoMany own (length rows)) Own (each_row f rows) (each_row_fits typed own f gives rows have.1) (λ values made.
          record { fitting = made.fitting; single = λ one. made.as_many ∙ have.0 ∙ some_is count 1 (sym e ∙ one_of_all typed columns of one) }))
    ] refl
