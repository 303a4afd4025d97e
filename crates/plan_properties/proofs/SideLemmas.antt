-- Columns side by side, of which each has a value for each row, or one: what a function gives row by row.
use Rattle.std.proofs.Common.{◌≡◌, ◌⊎◌, inl, inr, ℕ, zero, suc, ◌+◌, Bool, true, false, cond, ◌==◌, ◌||◌, List, [], ◌∷◌, ◌++◌, length, map, replicate, Some, None, refl, sym, ap, ◌∙◌, subst, arith}
use Rattle.std.proofs.lemmas.Bool.Decides.{Decides-eqb}
use Rattle.std.proofs.lemmas.List.{length-append, length-replicate}
use Rattle.std.specs.List.{AllByRecursion}
use Rattle.plan_types.specs.Casts.{Converted, Gives, Fails}
use Rattle.plan_types.specs.Frames.{Row}
use Rattle.plan_types.specs.Outcomes.{Outcome, Done, Fault, Stuck, Meets, then_do}
use Rattle.plan_types.specs.Values.{Val}
use Rattle.plan_dsl.specs.Kernels.{Meaning, given}
use Rattle.plan_dsl.specs.Rows.{by_row, common_length, each_row, in_front, key_rows, length_beside, length_of_all, rows_of, stretched, value_before}
use Rattle.plan_dsl.specs.Typing.{Typed, some_many}
use Rattle.plan_dsl.proofs.SortLemmas.{key_rows_many}
use Rattle.plan_properties.specs.Laws.{HasValuesOr, joined, row_count}

-- ---- the length to which columns are brought

pub own_equal : (n : ℕ) → (n == n) ≡ true
own_equal n = (Decides-eqb n n).1 refl

-- of two columns, each of which has so many values or one
pub common : (n : ℕ) (l r : Bool) → common_length (row_count l n) (row_count r n) ≡ Some (row_count (l || (r || false)) n)
common n true true = ap (λ b. cond b (Some n) (cond (n == 1) (Some n) (cond (n == 1) (Some n) None))) (own_equal n)
common n true false = elim (n == 1) as (λ b. cond b (Some n) (cond b (Some 1) (Some n)) ≡ Some n) [ true ↦ refl | false ↦ refl ]
common n false true =
    elim (1 == n) as (λ b. (1 == n) ≡ b → cond b (Some 1) (Some n) ≡ Some n) [ true ↦ λ e. ap Some ((Decides-eqb 1 n).0 e) | false ↦ λ e. refl ] refl
common n false false = refl

beside_others : (n : ℕ) (l r : Bool) → common_length (row_count l n) (row_count r n) ≡ Some (row_count (l || r) n)
beside_others n true r = elim r as (λ r. common_length n (row_count r n) ≡ Some n) [ true ↦ common n true true | false ↦ common n true false ]
beside_others n false true = common n false true
beside_others n false false = refl

-- of all: each has so many values, or one
abbrev pub AreLong : ℕ → List Typed → List (List Val) → Type 0
AreLong n [] [] = Unit {0}
AreLong n (t ∷ ts) (column ∷ columns) = (length column ≡ row_count t.many n) × AreLong n ts columns
AreLong n [] (column ∷ columns) = ⊥
AreLong n (t ∷ ts) [] = ⊥

together : (n : ℕ) (typed : List Typed) (columns : List (List Val)) → AreLong n typed columns → length_of_all (map length columns) ≡ Some (row_count (some_many typed) n)
together n [] [] long = refl
together n [] (column ∷ columns) long = absurd long
together n (t ∷ ts) [] long = absurd long
together n (t ∷ ts) (column ∷ columns) long = (λ i. length_beside (long.0 i) (together n ts columns long.1 i)) ∙ beside_others n t.many (some_many ts)

as_many_columns : (n : ℕ) (typed : List Typed) (columns : List (List Val)) → AreLong n typed columns → length columns ≡ length typed
as_many_columns n [] [] long = refl
as_many_columns n [] (column ∷ columns) long = absurd long
as_many_columns n (t ∷ ts) [] long = absurd long
as_many_columns n (t ∷ ts) (column ∷ columns) long = ap suc (as_many_columns n ts columns long.1)

-- ---- rows

-- columns of that length, or of one value, row by row
abbrev pub AreFor : ℕ → List (List Val) → Type 0
AreFor count columns = AllByRecursion (λ column. (length column ≡ count) ⊎ (length column ≡ 1)) columns

abbrev pub side : ℕ → List (List Val) → List Row
side count [] = replicate count []
side count (column ∷ columns) = in_front (stretched count column) (side count columns)

one_or_many : (n k : ℕ) (many some : Bool) → (many ≡ true → some ≡ true) → k ≡ row_count many n → (k ≡ row_count some n) ⊎ (k ≡ 1)
one_or_many n k true some tells is = inl (is ∙ ap (λ b. row_count b n) (sym (tells refl)))
one_or_many n k false some tells is = inr is

or_second : (a b : Bool) → b ≡ true → (a || b) ≡ true
or_second true b e = refl
or_second false b e = e

pub are_for : (n : ℕ) (some : Bool) (typed : List Typed) (columns : List (List Val)) → (some_many typed ≡ true → some ≡ true) → AreLong n typed columns → AreFor (row_count some n) columns
are_for n some [] [] tells long = tt
are_for n some [] (column ∷ columns) tells long = absurd long
are_for n some (t ∷ ts) [] tells long = absurd long
are_for n some (t ∷ ts) (column ∷ columns) tells long =
    (one_or_many n (length column) t.many some (λ e. tells (ap (λ b. b || some_many ts) e)) long.0, are_for n some ts columns (λ e. tells (or_second t.many (some_many ts) e)) long.1)

is_for : (count k : ℕ) → (k ≡ count) ⊎ (k ≡ 1) → (k == count || k == 1) ≡ true
is_for count k (inl e) = ap (λ b. b || k == 1) ((Decides-eqb k count).1 e)
is_for count k (inr e) = or_second (k == count) (k == 1) ((Decides-eqb k 1).1 e)

rows_are : (count : ℕ) (columns : List (List Val)) → AreFor count columns → key_rows count columns ≡ Done (side count columns)
rows_are count [] all = refl
rows_are count (column ∷ columns) all = λ i.
    then_do (cond (is_for count (length column) all.0 i) (Done (stretched count column)) Fault) (λ values. then_do (rows_are count columns all.1 i) (λ rows. Done (in_front values rows)))

as_many_rows : (count : ℕ) (columns : List (List Val)) → AreFor count columns → length (side count columns) ≡ count
as_many_rows count columns all = subst (Meets (λ rows. length rows ≡ count)) (rows_are count columns all) (key_rows_many count columns)

-- each has a value of each column
empty_rows : (count : ℕ) → AllByRecursion (λ (row : Row). length row ≡ 0) (replicate count [])
empty_rows zero = tt
empty_rows (suc count) = (refl, empty_rows count)

longer_rows : (k : ℕ) (values : List Val) (rows : List Row) → AllByRecursion (λ (row : Row). length row ≡ k) rows → AllByRecursion (λ (row : Row). length row ≡ suc k) (in_front values rows)
longer_rows k [] rows all = tt
longer_rows k (value ∷ values) [] all = tt
longer_rows k (value ∷ values) (row ∷ rows) all = (ap suc all.0, longer_rows k values rows all.1)

whole_rows : (count : ℕ) (columns : List (List Val)) → AllByRecursion (λ (row : Row). length row ≡ length columns) (side count columns)
whole_rows count [] = empty_rows count
whole_rows count (column ∷ columns) = longer_rows (length columns) (stretched count column) (side count columns) (whole_rows count columns)

pub stretched_length : (count : ℕ) (values : List Val) → (length values ≡ count) ⊎ (length values ≡ 1) → length (stretched count values) ≡ count
stretched_length count [] (inl e) = e
stretched_length count [] (inr e) = cc
stretched_length count (value ∷ []) e = length-replicate count value
stretched_length count (first ∷ second ∷ rest) (inl e) = e
stretched_length count (first ∷ second ∷ rest) (inr e) = cc

-- ---- what a function gives of each

pub one_in_front : (F : Type 0) (value : Val) (o : Outcome (List Val)) (count : ℕ) → HasValuesOr F count o → HasValuesOr F (suc count) (then_do o (λ values. Done (value ∷ values)))
one_in_front F value (Done values) count h = ap suc h
one_in_front F value Fault count h = h
one_in_front F value Stuck count h = absurd h

module _ (f : Row → Converted) where
  -- the rows to which columns are brought
  pub made_of_rows : (count : ℕ) (columns : List (List Val)) → length_of_all (map length columns) ≡ Some count → AreFor count columns → by_row f columns ≡ each_row f (side count columns)
  made_of_rows count columns found all =
      ap (λ o. then_do (rows_of o columns) (each_row f)) found ∙ ap (λ o. then_do o (each_row f)) (rows_are count columns all)

  pub by_row_is : (n : ℕ) (typed : List Typed) (columns : List (List Val)) → AreLong n typed columns → by_row f columns ≡ each_row f (side (row_count (some_many typed) n) columns)
  by_row_is n typed columns long = made_of_rows (row_count (some_many typed) n) columns (together n typed columns long) (are_for n (some_many typed) typed columns (λ e. e) long)

  -- where it gives a value of each row, or a fault if there may be one
  module _ (F : Type 0) where
    each_row_has : (k : ℕ) → ((row : Row) → length row ≡ k → f row ≡ Fails → F) → (rows : List Row) → AllByRecursion (λ (row : Row). length row ≡ k) rows → HasValuesOr F (length rows) (each_row f rows)
    each_row_has k faults [] all = refl
    each_row_has k faults (row ∷ rows) all =
        elim (f row) as (λ c. f row ≡ c → HasValuesOr F (suc (length rows)) (value_before c (each_row f rows))) [
          | Gives made ↦ λ e. one_in_front F made (each_row f rows) (length rows) (each_row_has k faults rows all.1)
          | Fails ↦ λ e. faults row all.0 e
        ] refl

    pub by_row_has : (n : ℕ) (typed : List Typed) → ((row : Row) → length row ≡ length typed → f row ≡ Fails → F) → (columns : List (List Val)) → AreLong n typed columns → HasValuesOr F (row_count (some_many typed) n) (by_row f columns)
    by_row_has n typed faults columns long =
        let count = row_count (some_many typed) n in
        let all = are_for n (some_many typed) typed columns (λ e. e) long in
        let many = as_many_columns n typed columns long in
        subst (HasValuesOr F count) (sym (by_row_is n typed columns long))
        (subst (λ k. HasValuesOr F k (each_row f (side count columns))) (as_many_rows count columns all)
        (each_row_has (length columns) (λ row e. faults row (e ∙ many)) (side count columns) (whole_rows count columns)))

-- ---- operands that have so many values, or one, if there is no fault

abbrev pub AllHave : Type 0 → ℕ → List ℕ → List Typed → List Meaning → Type 0
AllHave F n rows [] [] = Unit {0}
AllHave F n rows (t ∷ ts) (m ∷ ms) = HasValuesOr F (row_count t.many n) (m rows) × AllHave F n rows ts ms
AllHave F n rows [] (m ∷ ms) = ⊥
AllHave F n rows (t ∷ ts) [] = ⊥

-- what is made of a column in front of others
abbrev pub front : Outcome (List Val) → Outcome (List (List Val)) → (List (List Val) → Outcome (List Val)) → Outcome (List Val)
front o others next = then_do (then_do o (λ column. then_do others (λ columns. Done (column ∷ columns)))) next

pub front_next : (column : List Val) (others : Outcome (List (List Val))) (next : List (List Val) → Outcome (List Val)) → front (Done column) others next ≡ then_do others (λ columns. next (column ∷ columns))
front_next column (Done columns) next = refl
front_next column Fault next = refl
front_next column Stuck next = refl

front_has : (F : Type 0) (count k : ℕ) (o : Outcome (List Val)) (others : Outcome (List (List Val))) (next : List (List Val) → Outcome (List Val)) → HasValuesOr F count o
    → ((column : List Val) → length column ≡ count → HasValuesOr F k (then_do others (λ columns. next (column ∷ columns)))) → HasValuesOr F k (front o others next)
front_has F count k (Done column) others next has each = subst (HasValuesOr F k) (sym (front_next column others next)) (each column has)
front_has F count k Fault others next has each = has
front_has F count k Stuck others next has each = absurd has

pub given_has : (F : Type 0) (n k : ℕ) (rows : List ℕ) (typed : List Typed) (ms : List Meaning) → AllHave F n rows typed ms → (next : List (List Val) → Outcome (List Val)) → ((columns : List (List Val)) → AreLong n typed columns → HasValuesOr F k (next columns)) → HasValuesOr F k (then_do (given ms rows) next)
given_has F n k rows [] [] have next each = each [] tt
given_has F n k rows [] (m ∷ ms) have next each = absurd have
given_has F n k rows (t ∷ ts) [] have next each = absurd have
given_has F n k rows (t ∷ ts) (m ∷ ms) have next each =
    front_has F (row_count t.many n) k (m rows) (given ms rows) next have.0 (λ column long. given_has F n k rows ts ms have.1 (λ columns. next (column ∷ columns)) (λ columns rest. each (column ∷ columns) (long, rest)))

front_agrees : (F : Type 0) (count : ℕ) (o : Outcome (List Val)) (others : Outcome (List (List Val))) (next other : List (List Val) → Outcome (List Val)) → HasValuesOr F count o
    → ((column : List Val) → length column ≡ count → then_do others (λ columns. next (column ∷ columns)) ≡ then_do others (λ columns. other (column ∷ columns))) → front o others next ≡ front o others other
front_agrees F count (Done column) others next other has each = front_next column others next ∙ each column has ∙ sym (front_next column others other)
front_agrees F count Fault others next other has each = refl
front_agrees F count Stuck others next other has each = refl

pub given_agrees : (F : Type 0) (n : ℕ) (rows : List ℕ) (typed : List Typed) (ms : List Meaning) → AllHave F n rows typed ms → (next other : List (List Val) → Outcome (List Val)) → ((columns : List (List Val)) → AreLong n typed columns → next columns ≡ other columns) → then_do (given ms rows) next ≡ then_do (given ms rows) other
given_agrees F n rows [] [] have next other each = each [] tt
given_agrees F n rows [] (m ∷ ms) have next other each = absurd have
given_agrees F n rows (t ∷ ts) [] have next other each = absurd have
given_agrees F n rows (t ∷ ts) (m ∷ ms) have next other each =
    front_agrees F (row_count t.many n) (m rows) (given ms rows) next other have.0 (λ column long. given_agrees F n rows ts ms have.1 (λ columns. next (column ∷ columns)) (λ columns. other (column ∷ columns)) (λ columns rest. each (column ∷ columns) (long, rest)))

-- ---- columns of the first row and of the others, of which there is one

-- the whole is one behind the other, or all three are the same value
abbrev pub ColumnSplits : ℕ → Bool → List Val → List Val → List Val → Type 0
ColumnSplits n true whole first rest = (whole ≡ first ++ rest) × (length first ≡ 1) × (length rest ≡ n)
ColumnSplits n false whole first rest = (length whole ≡ 1) × (first ≡ whole) × (rest ≡ whole)

abbrev pub ColumnsSplit : ℕ → List Typed → List (List Val) → List (List Val) → List (List Val) → Type 0
ColumnsSplit n [] [] [] [] = Unit {0}
ColumnsSplit n (t ∷ ts) (whole ∷ wholes) (first ∷ firsts) (rest ∷ rests) = ColumnSplits n t.many whole first rest × ColumnsSplit n ts wholes firsts rests
ColumnsSplit n typed wholes firsts rests = ⊥

whole_long : (n : ℕ) (many : Bool) (whole first rest : List Val) → ColumnSplits n many whole first rest → length whole ≡ row_count many (suc n)
whole_long n true whole first rest s =
    let both : length first + length rest ≡ suc n = omega (arith, s.1, s.2) in
    ap length s.0 ∙ length-append first rest ∙ both
whole_long n false whole first rest s = s.0

first_long : (n : ℕ) (many : Bool) (whole first rest : List Val) → ColumnSplits n many whole first rest → length first ≡ row_count many 1
first_long n true whole first rest s = s.1
first_long n false whole first rest s = ap length s.1 ∙ s.0

rest_long : (n : ℕ) (many : Bool) (whole first rest : List Val) → ColumnSplits n many whole first rest → length rest ≡ row_count many n
rest_long n true whole first rest s = s.2
rest_long n false whole first rest s = ap length s.2 ∙ s.0

pub stretched_self : (values : List Val) → stretched (length values) values ≡ values
stretched_self [] = refl
stretched_self (value ∷ []) = refl
stretched_self (first ∷ second ∷ rest) = refl

so_long : (n : ℕ) (values : List Val) → length values ≡ n → stretched n values ≡ values
so_long n values h = ap (λ k. stretched k values) (sym h) ∙ stretched_self values

column_splits : (n : ℕ) (many : Bool) (whole first rest : List Val) → ColumnSplits n many whole first rest → stretched (suc n) whole ≡ stretched 1 first ++ stretched n rest
column_splits n true whole [] rest s = cc
column_splits n true whole (value ∷ []) rest s =
    ap (stretched (suc n)) s.0 ∙ so_long (suc n) (value ∷ rest) (ap suc s.2) ∙ ap (λ l. value ∷ l) (sym (so_long n rest s.2))
column_splits n true whole (value ∷ second ∷ first) rest s = cc
column_splits n false [] first rest s = cc
column_splits n false (value ∷ []) first rest s = sym (λ i. stretched 1 (s.1 i) ++ stretched n (s.2 i))
column_splits n false (value ∷ second ∷ whole) first rest s = cc

fronts_joined : (xs ys : List Val) (rs ss : List Row) → length xs ≡ length rs → in_front (xs ++ ys) (rs ++ ss) ≡ in_front xs rs ++ in_front ys ss
fronts_joined [] ys [] ss h = refl
fronts_joined [] ys (r ∷ rs) ss h = cc
fronts_joined (x ∷ xs) ys [] ss h = cc
fronts_joined (x ∷ xs) ys (r ∷ rs) ss h = let left : length xs ≡ length rs = omega (arith, h) in ap (λ l. (x ∷ r) ∷ l) (fronts_joined xs ys rs ss left)

one_row : (many : Bool) → row_count many 1 ≡ 1
one_row true = refl
one_row false = refl

pub all_whole : (n : ℕ) (typed : List Typed) (wholes firsts rests : List (List Val)) → ColumnsSplit n typed wholes firsts rests → AreLong (suc n) typed wholes
all_whole n [] [] [] [] s = tt
all_whole n (t ∷ ts) (whole ∷ wholes) (first ∷ firsts) (rest ∷ rests) s = (whole_long n t.many whole first rest s.0, all_whole n ts wholes firsts rests s.1)
all_whole n _ _ _ _ s = absurd s

pub all_first : (n : ℕ) (typed : List Typed) (wholes firsts rests : List (List Val)) → ColumnsSplit n typed wholes firsts rests → AreLong 1 typed firsts
all_first n [] [] [] [] s = tt
all_first n (t ∷ ts) (whole ∷ wholes) (first ∷ firsts) (rest ∷ rests) s = (first_long n t.many whole first rest s.0, all_first n ts wholes firsts rests s.1)
all_first n _ _ _ _ s = absurd s

pub all_rest : (n : ℕ) (typed : List Typed) (wholes firsts rests : List (List Val)) → ColumnsSplit n typed wholes firsts rests → AreLong n typed rests
all_rest n [] [] [] [] s = tt
all_rest n (t ∷ ts) (whole ∷ wholes) (first ∷ firsts) (rest ∷ rests) s = (rest_long n t.many whole first rest s.0, all_rest n ts wholes firsts rests s.1)
all_rest n _ _ _ _ s = absurd s

rows_split : (n : ℕ) (typed : List Typed) (wholes firsts rests : List (List Val)) → ColumnsSplit n typed wholes firsts rests → side (suc n) wholes ≡ side 1 firsts ++ side n rests
rows_split n [] [] [] [] s = refl
rows_split n (t ∷ ts) (whole ∷ wholes) (first ∷ firsts) (rest ∷ rests) s =
    let as_many = stretched_length 1 first (inr (first_long n t.many whole first rest s.0 ∙ one_row t.many)) ∙ sym (as_many_rows 1 firsts (are_for 1 true ts firsts (λ e. refl) (all_first n ts wholes firsts rests s.1))) in
    (λ i. in_front (column_splits n t.many whole first rest s.0 i) (rows_split n ts wholes firsts rests s.1 i)) ∙ fronts_joined (stretched 1 first) (stretched n rest) (side 1 firsts) (side n rests) as_many
rows_split n _ _ _ _ s = absurd s

pub done_again : (o : Outcome (List Val)) → o ≡ then_do o (λ values. Done values)
done_again (Done values) = refl
done_again Fault = refl
done_again Stuck = refl

pub front_joined : (value : Val) (a b : Outcome (List Val)) → then_do (joined a b) (λ values. Done (value ∷ values)) ≡ joined (then_do a (λ values. Done (value ∷ values))) b
front_joined value (Done xs) (Done ys) = refl
front_joined value (Done xs) Fault = refl
front_joined value (Done xs) Stuck = refl
front_joined value Fault b = refl
front_joined value Stuck b = refl

module _ (f : Row → Converted) where
  each_row_joined : (rs ss : List Row) → each_row f (rs ++ ss) ≡ joined (each_row f rs) (each_row f ss)
  each_row_joined [] ss = done_again (each_row f ss)
  each_row_joined (r ∷ rs) ss =
      elim (f r) as (λ c. value_before c (each_row f (rs ++ ss)) ≡ joined (value_before c (each_row f rs)) (each_row f ss)) [
        | Gives value ↦ ap (λ o. then_do o (λ values. Done (value ∷ values))) (each_row_joined rs ss) ∙ front_joined value (each_row f rs) (each_row f ss)
        | Fails ↦ refl
      ]

  many_rows : (n : ℕ) (typed : List Typed) (columns : List (List Val)) → some_many typed ≡ true → AreLong n typed columns → by_row f columns ≡ each_row f (side n columns)
  many_rows n typed columns some long = by_row_is f n typed columns long ∙ ap (λ b. each_row f (side (row_count b n) columns)) some

  -- the first row and the others
  pub by_row_joins : (n : ℕ) (typed : List Typed) (wholes firsts rests : List (List Val)) → some_many typed ≡ true → ColumnsSplit n typed wholes firsts rests → by_row f wholes ≡ joined (by_row f firsts) (by_row f rests)
  by_row_joins n typed wholes firsts rests some s =
      many_rows (suc n) typed wholes some (all_whole n typed wholes firsts rests s) ∙ ap (each_row f) (rows_split n typed wholes firsts rests s) ∙ each_row_joined (side 1 firsts) (side n rests)
      ∙ sym (λ i. joined (many_rows 1 typed firsts some (all_first n typed wholes firsts rests s) i) (many_rows n typed rests some (all_rest n typed wholes firsts rests s) i))

  pub one_row_has : (typed : List Typed) (columns : List (List Val)) → AreLong 1 typed columns → HasValuesOr (Unit {0}) 1 (by_row f columns)
  one_row_has typed columns long = subst (λ k. HasValuesOr (Unit {0}) k (by_row f columns)) (one_row (some_many typed)) (by_row_has f (Unit {0}) 1 typed (λ row h e. tt) columns long)
