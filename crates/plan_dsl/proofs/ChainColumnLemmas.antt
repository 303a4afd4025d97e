-- Horizontals of columns: the first two columns can be put together beforehand, of one column of truth values it is the
-- column, and of none one value.
use Rattle.std.proofs.Common.{◌≡◌, ◌≢◌, ◌⊎◌, inl, inr, ⊎_elim, ℕ, zero, suc, Bool, true, false, cond, List, [], ◌∷◌, length, map, replicate, Option, Some, None, IsTrue, refl, sym, ap, ◌∙◌, subst, arith}
use Rattle.std.specs.Prelude.{◌==◌, ◌||◌}
use Rattle.std.proofs.lemmas.Bool.{and_parts}
use Rattle.std.proofs.lemmas.Bool.Decides.{Decides-eqb, eqb_tells}
use Rattle.std.proofs.lemmas.List.{length-replicate}
use Rattle.plan_types.specs.Types.{Truth}
use Rattle.plan_types.specs.Values.{Val, NullValue, TruthValue, IntValue, fits, all_fit}
use Rattle.plan_types.specs.Casts.{Gives}
use Rattle.plan_types.specs.Frames.{Row}
use Rattle.plan_types.proofs.SupertypeLemmas.{no_number}
use Rattle.plan_types.specs.Outcomes.{Outcome, Done, Fault, Stuck, then_do}
use Rattle.plan_dsl.specs.FunctionValues.{all_true, any_true}
use Rattle.plan_dsl.specs.Kernels.{at_each}
use Rattle.plan_dsl.specs.Operators.{both_true, either_true}
use Rattle.plan_dsl.specs.Rows.{at_length, by_row, common_length, each_row, for_rows, in_front, key_rows, length_beside, length_of_all, rows_of, stretched}

-- ---- lengths

some_is : (x y : ℕ) → Some x ≡ Some y → x ≡ y
some_is x y e = cc

-- to which length two are brought
data Beside (x y : ℕ) (found : Option ℕ) : Type 0 where
  equal : (same : x ≡ y) (is : found ≡ Some x) → Beside x y found
  left_one : (one : x ≡ 1) (is : found ≡ Some y) → Beside x y found
  right_one : (one : y ≡ 1) (is : found ≡ Some x) → Beside x y found
  apart : (other : x ≢ y) (left : x ≢ 1) (right : y ≢ 1) (is : found ≡ None) → Beside x y found

abbrev Tells : Bool → ℕ → ℕ → Type 0
Tells b x y = ((b ≡ true) × (x ≡ y)) ⊎ ((b ≡ false) × (x ≢ y))

told : (x y : ℕ) → Tells true x y → x ≡ y
told x y t = ⊎_elim (λ e. e.1) (λ e. cc) t

told_apart : (x y : ℕ) → Tells false x y → x ≢ y
told_apart x y t = ⊎_elim (λ e. cc) (λ e. e.1) t

beside_by : (x y : ℕ) (b c d : Bool) → Tells b x y → Tells c x 1 → Tells d y 1 → Beside x y (cond b (Some x) (cond c (Some y) (cond d (Some x) None)))
beside_by x y true c d p q r = equal (told x y p) refl
beside_by x y false true d p q r = left_one (told x 1 q) refl
beside_by x y false false true p q r = right_one (told y 1 r) refl
beside_by x y false false false p q r = apart (told_apart x y p) (told_apart x 1 q) (told_apart y 1 r) refl

beside : (x y : ℕ) → Beside x y (common_length x y)
beside x y = beside_by x y (x == y) (x == 1) (y == 1) (eqb_tells x y) (eqb_tells x 1) (eqb_tells y 1)

same_length : (x : ℕ) → common_length x x ≡ Some x
same_length x = ap (λ b. cond b (Some x) (cond (x == 1) (Some x) (cond (x == 1) (Some x) None))) ((Decides-eqb x x).1 refl)

one_beside : (y : ℕ) → common_length 1 y ≡ Some y
one_beside y = elim (1 == y) as (λ b. (1 == y) ≡ b → cond b (Some 1) (Some y) ≡ Some y) [ true ↦ λ e. ap Some ((Decides-eqb 1 y).0 e) | false ↦ λ e. refl ] refl

beside_one : (x : ℕ) → common_length x 1 ≡ Some x
beside_one x = elim (x == 1) as (λ b. cond b (Some x) (cond b (Some 1) (Some x)) ≡ Some x) [ true ↦ refl | false ↦ refl ]

lengths_apart : (x y : ℕ) → x ≢ y → x ≢ 1 → y ≢ 1 → common_length x y ≡ None
lengths_apart x y other left right =
    elim (beside x y) as (λ _. common_length x y ≡ None) [ equal same is ↦ absurd (other same) | left_one one is ↦ absurd (left one) | right_one one is ↦ absurd (right one) | apart o l r is ↦ is ]

abbrev found_beside : Option ℕ → Option ℕ → Option ℕ
found_beside None other = None
found_beside (Some count) other = length_beside count other

one_first : (other : Option ℕ) → length_beside 1 other ≡ other
one_first None = refl
one_first (Some count) = one_beside count

-- brought to that length again it stays
twice : (x z : ℕ) → length_beside x (common_length x z) ≡ common_length x z
twice x z =
    elim (beside x z) as (λ _. length_beside x (common_length x z) ≡ common_length x z) [
      | equal same is ↦ ap (length_beside x) is ∙ same_length x ∙ sym is
      | left_one one is ↦ ap (λ w. length_beside w (common_length x z)) one ∙ one_first (common_length x z)
      | right_one one is ↦ ap (length_beside x) is ∙ same_length x ∙ sym is
      | apart o l r is ↦ ap (length_beside x) is ∙ sym is
    ]

beside_apart : (x y z : ℕ) → x ≢ y → x ≢ 1 → y ≢ 1 → length_beside x (common_length y z) ≡ None
beside_apart x y z other left right =
    elim (beside y z) as (λ _. length_beside x (common_length y z) ≡ None) [
      | equal same is ↦ ap (length_beside x) is ∙ lengths_apart x y other left right
      | left_one one is ↦ absurd (right one)
      | right_one one is ↦ ap (length_beside x) is ∙ lengths_apart x y other left right
      | apart o l r is ↦ ap (length_beside x) is
    ]

-- the first two can be brought to their length beforehand
two_first : (x y : ℕ) (other : Option ℕ) → length_beside x (length_beside y other) ≡ found_beside (common_length x y) other
two_first x y None = elim (common_length x y) as (λ o. None ≡ found_beside o None) [ None ↦ refl | Some count ↦ refl ]
two_first x y (Some z) =
    elim (beside x y) as (λ _. length_beside x (common_length y z) ≡ found_beside (common_length x y) (Some z)) [
      | equal same is ↦ subst (λ w. length_beside x (common_length w z) ≡ common_length x z) same (twice x z) ∙ sym (ap (λ o. found_beside o (Some z)) is)
      | left_one one is ↦ ap (λ w. length_beside w (common_length y z)) one ∙ one_first (common_length y z) ∙ sym (ap (λ o. found_beside o (Some z)) is)
      | right_one one is ↦ ap (λ w. length_beside x (common_length w z)) one ∙ ap (length_beside x) (one_beside z) ∙ sym (ap (λ o. found_beside o (Some z)) is)
      | apart other left right is ↦ beside_apart x y z other left right ∙ sym (ap (λ o. found_beside o (Some z)) is)
    ]

-- ---- columns at a length

-- a column that can be brought to the length
abbrev Stretches : ℕ → ℕ → Type 0
Stretches many count = (many ≡ count) ⊎ (many ≡ 1)

either_test : (x y : ℕ) → Stretches x y → (x == y || x == 1) ≡ true
either_test x y (inl same) = ap (λ b. b || x == 1) ((Decides-eqb x y).1 same)
either_test x y (inr one) = elim (x == y) as (λ b. (b || x == 1) ≡ true) [ true ↦ refl | false ↦ (Decides-eqb x 1).1 one ]

rows_there : (count : ℕ) (values : List Val) → Stretches (length values) count → for_rows count values ≡ Done (stretched count values)
rows_there count values h = ap (λ b. cond b (Done (stretched count values)) Fault) (either_test (length values) count h)

stretched_own : (count : ℕ) (values : List Val) → length values ≡ count → stretched count values ≡ values
stretched_own count [] h = refl
stretched_own count (value ∷ []) h = ap (λ n. replicate n value) (sym h)
stretched_own count (first ∷ second ∷ rest) h = refl

stretched_many : (count : ℕ) (values : List Val) → Stretches (length values) count → length (stretched count values) ≡ count
stretched_many count [] (inl same) = same
stretched_many count [] (inr one) = cc
stretched_many count (value ∷ []) h = length-replicate count value
stretched_many count (first ∷ second ∷ rest) (inl same) = same
stretched_many count (first ∷ second ∷ rest) (inr one) = absurd (omega (arith, one))

-- both of two columns that have a common length can be brought to it
both_stretch : (x y count : ℕ) → common_length x y ≡ Some count → Stretches x count × Stretches y count
both_stretch x y count h =
    elim (beside x y) as (λ _. Stretches x count × Stretches y count) [
      | equal same is ↦ let e : x ≡ count = some_is x count (sym is ∙ h) in (inl e, inl (sym same ∙ e))
      | left_one one is ↦ (inr one, inl (some_is y count (sym is ∙ h)))
      | right_one one is ↦ (inl (some_is x count (sym is ∙ h)), inr one)
      | apart o l r is ↦ let none : None ≡ Some count = sym is ∙ h in cc
    ]

-- and what can be brought to a length can be brought to one to which that can
then_stretches : (x y count : ℕ) → Stretches x y → Stretches y count → Stretches x count
then_stretches x y count (inl same) h = subst (λ n. Stretches n count) (sym same) h
then_stretches x y count (inr one) h = inr one

beside_stretches : (x count : ℕ) (other : Option ℕ) → length_beside x other ≡ Some count → Stretches x count
beside_stretches x count None h = cc
beside_stretches x count (Some y) h = (both_stretch x y count h).0

each_many : (f : Val → Val → Val) (left right : List Val) → length left ≡ length right → length (at_each f left right) ≡ length left
each_many f [] right h = refl
each_many f (x ∷ left) [] h = cc
each_many f (x ∷ left) (y ∷ right) h = ap suc (each_many f left right (suc_same h)) where
  suc_same : suc (length left) ≡ suc (length right) → length left ≡ length right
  suc_same e = omega (arith, e)

-- what two columns give at their common length
abbrev together : (Val → Val → Val) → ℕ → List Val → List Val → List Val
together f count left right = at_each f (stretched count left) (stretched count right)

together_many : (f : Val → Val → Val) (count : ℕ) (left right : List Val) → Stretches (length left) count → Stretches (length right) count → length (together f count left right) ≡ count
together_many f count left right h k =
    each_many f (stretched count left) (stretched count right) (stretched_many count left h ∙ sym (stretched_many count right k)) ∙ stretched_many count left h

each_replicated : (f : Val → Val → Val) (count : ℕ) (x y : Val) → at_each f (replicate count x) (replicate count y) ≡ replicate count (f x y)
each_replicated f zero x y = refl
each_replicated f (suc count) x y = ap (λ l. f x y ∷ l) (each_replicated f count x y)

one_together : (f : Val → Val → Val) (count : ℕ) (left right : List Val) → length left ≡ 1 → length right ≡ 1 → stretched count (together f 1 left right) ≡ together f count left right
one_together f count (x ∷ []) (y ∷ []) h k = sym (each_replicated f count x y)
one_together f count [] right h k = cc
one_together f count (x ∷ second ∷ left) right h k = absurd (omega (arith, h))
one_together f count (x ∷ []) [] h k = cc
one_together f count (x ∷ []) (y ∷ second ∷ right) h k = absurd (omega (arith, k))

is_one : (x count : ℕ) → count ≡ 1 → Stretches x count → x ≡ 1
is_one x count one (inl same) = same ∙ one
is_one x count one (inr is) = is

-- it doesn't matter whether they are brought to another length before or behind it
stretched_together : (f : Val → Val → Val) (own count : ℕ) (left right : List Val) → Stretches (length left) own → Stretches (length right) own → Stretches own count → stretched count (together f own left right) ≡ together f count left right
stretched_together f own count left right h k (inl same) =
    subst (λ n. stretched n (together f own left right) ≡ together f n left right) same (stretched_own own (together f own left right) (together_many f own left right h k))
stretched_together f own count left right h k (inr one) =
    ap (λ n. stretched count (together f n left right)) one ∙ one_together f count left right (is_one (length left) own one h) (is_one (length right) own one k)

-- ---- row by row

each_given : (value : Row → Val) (rows : List Row) → each_row (λ row. Gives (value row)) rows ≡ Done (map value rows)
each_given value [] = refl
each_given value (row ∷ rows) = ap (λ o. then_do o (λ values. Done (value row ∷ values))) (each_given value rows)

-- a value of a row by an operator between the first and what the others have, of which the first two can be put together
pub record IsFolded (value : Row → Val) (operator : Val → Val → Val) (nothing : Bool) : Type 0 where
  pub none : value [] ≡ TruthValue nothing
  pub some : (x : Val) (row : Row) → value (x ∷ row) ≡ operator x (value row)
  pub together : (x y z : Val) → operator x (operator y z) ≡ operator (operator x y) z
  pub last : (x : Val) → IsTrue (fits x Truth) → operator x (TruthValue nothing) ≡ x

module _ (value : Row → Val) (operator : Val → Val → Val) (nothing : Bool) (folded : IsFolded value operator nothing) where
  abbrev whole : List (List Val) → Outcome (List Val)
  whole columns = by_row (λ row. Gives (value row)) columns

  pub over_nothing : whole [] ≡ Done (TruthValue nothing ∷ [])
  over_nothing = ap (λ v. Done (v ∷ [])) folded.none

  -- two columns in front of rows
  rows_together : (left right : List Val) (rows : List Row) → map value (in_front left (in_front right rows)) ≡ map value (in_front (at_each operator left right) rows)
  rows_together [] right rows = refl
  rows_together (x ∷ left) [] rows = refl
  rows_together (x ∷ left) (y ∷ right) [] = refl
  rows_together (x ∷ left) (y ∷ right) (row ∷ rows) = λ i. first i ∷ rows_together left right rows i where
    first : value (x ∷ y ∷ row) ≡ value (operator x y ∷ row)
    first = folded.some x (y ∷ row) ∙ ap (operator x) (folded.some y row) ∙ folded.together x y (value row) ∙ sym (folded.some (operator x y) row)

  beside_rows : (left right : List Val) (o : Outcome (List Row)) → then_do (then_do (then_do o (λ rows. Done (in_front right rows))) (λ rows. Done (in_front left rows))) (each_row (λ row. Gives (value row))) ≡ then_do (then_do o (λ rows. Done (in_front (at_each operator left right) rows))) (each_row (λ row. Gives (value row)))
  beside_rows left right (Done rows) =
      each_given value (in_front left (in_front right rows)) ∙ ap Done (rows_together left right rows) ∙ sym (each_given value (in_front (at_each operator left right) rows))
  beside_rows left right Fault = refl
  beside_rows left right Stuck = refl

  abbrev at_rows : Option ℕ → List (List Val) → Outcome (List Val)
  at_rows count columns = then_do (rows_of count columns) (each_row (λ row. Gives (value row)))

  at_count : (count own : ℕ) (left right : List Val) (columns : List (List Val)) → Stretches (length left) own → Stretches (length right) own → Stretches own count → at_rows (Some count) (left ∷ right ∷ columns) ≡ at_rows (Some count) (together operator own left right ∷ columns)
  at_count count own left right columns h k s =
      let made = together operator own left right in
      let many : Stretches (length made) count = then_stretches (length made) own count (inl (together_many operator own left right h k)) s in
      let rest = key_rows count columns in
      let next : Outcome (List Val) → Outcome (List Val) → Outcome (List Val) = λ first second.
      then_do (then_do first (λ column. then_do (then_do second (λ values. then_do rest (λ rows. Done (in_front values rows)))) (λ rows. Done (in_front column rows)))) (each_row (λ row. Gives (value row))) in
      (λ i. next (rows_there count left (then_stretches (length left) own count h s) i) (rows_there count right (then_stretches (length right) own count k s) i))
      ∙ beside_rows (stretched count left) (stretched count right) rest
      ∙ ap (λ column. then_do (then_do rest (λ rows. Done (in_front column rows))) (each_row (λ row. Gives (value row)))) (sym (stretched_together operator own count left right h k s))
      ∙ sym (ap (λ o. then_do (then_do o (λ column. then_do rest (λ rows. Done (in_front column rows)))) (each_row (λ row. Gives (value row)))) (rows_there count made many))

  at_found : (found : Option ℕ) (own : ℕ) (left right : List Val) (columns : List (List Val)) → Stretches (length left) own → Stretches (length right) own → length_beside own (length_of_all (map length columns)) ≡ found → at_rows found (left ∷ right ∷ columns) ≡ at_rows found (together operator own left right ∷ columns)
  at_found None own left right columns h k is = refl
  at_found (Some count) own left right columns h k is = at_count count own left right columns h k (beside_stretches own count (length_of_all (map length columns)) is)

  by_common : (common : Option ℕ) (left right : List Val) (columns : List (List Val)) → common_length (length left) (length right) ≡ common → at_rows (found_beside common (length_of_all (map length columns))) (left ∷ right ∷ columns) ≡ then_do (at_length common (λ count. together operator count left right)) (λ column. whole (column ∷ columns))
  by_common None left right columns is = refl
  by_common (Some own) left right columns is =
      let both = both_stretch (length left) (length right) own is in
      let others = length_of_all (map length columns) in
      at_found (length_beside own others) own left right columns both.0 both.1 refl
      ∙ ap (λ n. at_rows (length_beside n others) (together operator own left right ∷ columns)) (sym (together_many operator own left right both.0 both.1))

  -- the first two columns can be put together beforehand
  pub over_two : (left right : List Val) (columns : List (List Val)) → whole (left ∷ right ∷ columns) ≡ then_do (at_length (common_length (length left) (length right)) (λ count. together operator count left right)) (λ column. whole (column ∷ columns))
  over_two left right columns =
      ap (λ o. at_rows o (left ∷ right ∷ columns)) (two_first (length left) (length right) (length_of_all (map length columns)))
      ∙ by_common (common_length (length left) (length right)) left right columns refl

  -- over one column of truth values it is that
  alone : (column : List Val) → IsTrue (all_fit column Truth) → map value (in_front column (replicate (length column) [])) ≡ column
  alone [] h = refl
  alone (x ∷ column) h =
      let parts = and_parts (fits x Truth) (all_fit column Truth) h in
      (λ i. first parts.0 i ∷ alone column parts.1 i) where
        first : IsTrue (fits x Truth) → value (x ∷ []) ≡ x
        first fit = folded.some x [] ∙ ap (operator x) folded.none ∙ folded.last x fit

  pub over_one : (column : List Val) → IsTrue (all_fit column Truth) → whole (column ∷ []) ≡ Done column
  over_one column h =
      let many = length column in
      ap (λ o. at_rows o (column ∷ [])) (beside_one many)
      ∙ ap (λ o. then_do (then_do o (λ values. Done (in_front values (replicate many [])))) (each_row (λ row. Gives (value row)))) (rows_there many column (inl refl) ∙ ap Done (stretched_own many column refl))
      ∙ each_given value (in_front column (replicate many []))
      ∙ ap Done (alone column h)

-- ---- whether all are true, or any is

both_together : (x y z : Val) → both_true x (both_true y z) ≡ both_true (both_true x y) z
both_together (TruthValue false) y z = refl
both_together (TruthValue true) (TruthValue true) (TruthValue true) = refl
both_together (TruthValue true) (TruthValue true) (TruthValue false) = refl
both_together (TruthValue true) (TruthValue true) z = refl
both_together (TruthValue true) (TruthValue false) z = refl
both_together (TruthValue true) y (TruthValue true) = refl
both_together (TruthValue true) y (TruthValue false) = refl
both_together (TruthValue true) y z = refl
both_together x (TruthValue true) (TruthValue true) = refl
both_together x (TruthValue true) (TruthValue false) = refl
both_together x (TruthValue true) z = refl
both_together x (TruthValue false) z = refl
both_together x y (TruthValue true) = refl
both_together x y (TruthValue false) = refl
both_together x y z = refl

either_together : (x y z : Val) → either_true x (either_true y z) ≡ either_true (either_true x y) z
either_together (TruthValue true) y z = refl
either_together (TruthValue false) (TruthValue false) (TruthValue false) = refl
either_together (TruthValue false) (TruthValue false) (TruthValue true) = refl
either_together (TruthValue false) (TruthValue false) z = refl
either_together (TruthValue false) (TruthValue true) z = refl
either_together (TruthValue false) y (TruthValue false) = refl
either_together (TruthValue false) y (TruthValue true) = refl
either_together (TruthValue false) y z = refl
either_together x (TruthValue false) (TruthValue false) = refl
either_together x (TruthValue false) (TruthValue true) = refl
either_together x (TruthValue false) z = refl
either_together x (TruthValue true) z = refl
either_together x y (TruthValue false) = refl
either_together x y (TruthValue true) = refl
either_together x y z = refl

both_last : (x : Val) → IsTrue (fits x Truth) → both_true x (TruthValue true) ≡ x
both_last (TruthValue true) h = refl
both_last (TruthValue false) h = refl
both_last NullValue h = refl
both_last (IntValue number) h = absurd (no_number Truth number refl refl h)
both_last _ h = cc

either_last : (x : Val) → IsTrue (fits x Truth) → either_true x (TruthValue false) ≡ x
either_last (TruthValue true) h = refl
either_last (TruthValue false) h = refl
either_last NullValue h = refl
either_last (IntValue number) h = absurd (no_number Truth number refl refl h)
either_last _ h = cc

pub all_folded : IsFolded all_true both_true true
all_folded = record { none = refl; some = λ x row. refl; together = both_together; last = both_last }

pub any_folded : IsFolded any_true either_true false
any_folded = record { none = refl; some = λ x row. refl; together = either_together; last = either_last }
