-- An elementwise expression gives on rows what each row gives by itself.
use Rattle.std.proofs.Common.{◌≡◌, ℕ, suc, Bool, true, false, cond, List, [], ◌∷◌, ◌++◌, length, Result, Ok, refl, sym, ap, ◌∙◌, subst}
use Rattle.std.proofs.lemmas.Bool.{and_parts, or_parts}
use Rattle.std.proofs.lemmas.List.{append-nil}
use Rattle.plan_types.specs.Casts.{Gives, Fails, cast}
use Rattle.plan_types.specs.Frames.{Frame}
use Rattle.plan_types.specs.Outcomes.{Outcome, Done, Fault, Stuck, then_do}
use Rattle.plan_types.specs.Types.{Ty, same_type}
use Rattle.plan_types.specs.Values.{Val}
use Rattle.plan_types.specs.declared.dtype.CastOptions.{CastOptions}
use Rattle.plan_types.specs.declared.dtype.CastOptions.TheVariants.{NonStrict}
use Rattle.plan_types.specs.Schemas.{Name}
use Rattle.plan_types.specs.declared.error.ErrorKind.{ErrorKind}
use Rattle.plan_dsl.specs.Meaning.{applied, meaning, meaning_all, node_meaning, ruled_meaning, taken_to}
use Rattle.plan_dsl.specs.Ops.{Op, ColumnOp, Expression}
use Rattle.plan_dsl.specs.OperatorTypes.{Taken}
use Rattle.plan_dsl.specs.Properties.{all_hold, is_elementwise, is_own_elementwise, is_own_harmless, literals, never}
use Rattle.plan_dsl.specs.Registry.{Registry}
use Rattle.plan_dsl.specs.Trees.{Trees, node, no_more, more}
use Rattle.plan_dsl.specs.Typing.{Typed, Ruling, rule, ruled_as, some_many, types_of, typing, typing_all}
use Rattle.plan_dsl.proofs.OpLemmas.{keeps_rule}
use Rattle.plan_dsl.proofs.SignatureLemmas.{AllBecome}
use Rattle.plan_dsl.proofs.TypingLemmas.{by_children, by_no_children, ruled_is, typed_parts}
use Rattle.plan_dsl.specs.Kernels.{Meaning, cast_meaning, cast_values, given, kernel, value_before}
use Rattle.plan_properties.specs.Laws.{ElementwiseGoesByRows, GoesByRows, HasValuesOr, by_rows, joined, row_count}
use Rattle.plan_properties.proofs.HarmlessLemmas.{has_values, operand_cast, values_cast}
use Rattle.plan_properties.proofs.RowOpLemmas.{GoesByRow, LiteralsAreOne, literals_are_one, row_goes}
use Rattle.plan_properties.proofs.SideLemmas.{AllHave, AreLong, ColumnSplits, ColumnsSplit, all_first, all_rest, all_whole, by_row_joins, done_again, front, front_joined, front_next, given_agrees, given_has, one_row_has}

length_is : (found : Result Taken ErrorKind) (many : Bool) (ruling : Ruling) → ruled_as found many ≡ Ok ruling → ruling.own.many ≡ many
length_is found many ruling h = ruled_is (λ r. r.own.many ≡ many) found many ruling h (λ taken e. refl)

-- as values, or a fault
abbrev Fine : ℕ → Outcome (List Val) → Type 0
Fine count outcome = HasValuesOr (Unit {0}) count outcome

-- ---- a column's rows, the first and the others

-- the first row and the others, of which there is one; or any rows
abbrev pub Splits : Bool → Meaning → Type 0
Splits true means = (row next : ℕ) (rows : List ℕ) → means (row ∷ next ∷ rows) ≡ joined (means (row ∷ [])) (means (next ∷ rows))
Splits false means = (rows others : List ℕ) → means rows ≡ means others

with_none : (o : Outcome (List Val)) → joined o (Done []) ≡ o
with_none (Done values) = ap Done (append-nil values)
with_none Fault = refl
with_none Stuck = refl

-- so it goes row by row
goes_many : (means : Meaning) → Splits true means → (row : ℕ) (rows : List ℕ) → means (row ∷ rows) ≡ by_rows means (row ∷ rows)
goes_many means splits row [] = sym (with_none (means (row ∷ [])))
goes_many means splits row (next ∷ rows) = splits row next rows ∙ ap (joined (means (row ∷ []))) (goes_many means splits next rows)

pub goes_by_rows : (many : Bool) (means : Meaning) → Splits many means → GoesByRows many means
goes_by_rows true means splits = goes_many means splits
goes_by_rows false means splits = splits

-- a fault behind what is none
faulted : (o : Outcome (List Val)) (count : ℕ) → Fine count o → Fault ≡ joined o Fault
faulted (Done values) count fine = refl
faulted Fault count fine = refl
faulted Stuck count fine = absurd fine

-- ---- casts

cast_joined : (from target : Ty) (options : CastOptions) (xs ys : List Val) → cast_values from target options (xs ++ ys) ≡ joined (cast_values from target options xs) (cast_values from target options ys)
cast_joined from target options [] ys = done_again (cast_values from target options ys)
cast_joined from target options (x ∷ xs) ys =
    elim (cast x from target options) as (λ c. value_before c (cast_values from target options (xs ++ ys)) ≡ joined (value_before c (cast_values from target options xs)) (cast_values from target options ys)) [
      | Gives value ↦ ap (λ o. then_do o (λ values. Done (value ∷ values))) (cast_joined from target options xs ys) ∙ front_joined value (cast_values from target options xs) (cast_values from target options ys)
      | Fails ↦ refl
    ]

-- what makes columns of columns goes row by row, where it makes the same of columns one behind the other
then_joined : (make : List Val → Outcome (List Val)) → ((xs ys : List Val) → make (xs ++ ys) ≡ joined (make xs) (make ys)) → ((xs : List Val) → Fine (length xs) (make xs)) → (o p : Outcome (List Val)) (count other : ℕ) → Fine count o → Fine other p
    → then_do (joined o p) make ≡ joined (then_do o make) (then_do p make)
then_joined make joins fine (Done xs) (Done ys) count other h k = joins xs ys
then_joined make joins fine (Done xs) Fault count other h k = faulted (make xs) (length xs) (fine xs)
then_joined make joins fine (Done xs) Stuck count other h k = absurd k
then_joined make joins fine Fault p count other h k = refl
then_joined make joins fine Stuck p count other h k = absurd h

made_splits : (make : List Val → Outcome (List Val)) → ((xs ys : List Val) → make (xs ++ ys) ≡ joined (make xs) (make ys)) → ((xs : List Val) → Fine (length xs) (make xs)) → (many : Bool) (means : Meaning) → Splits many means
    → ((rows : List ℕ) → Fine (row_count many (length rows)) (means rows)) → Splits many (λ rows. then_do (means rows) make)
made_splits make joins fine true means splits each = λ row next rows.
    ap (λ o. then_do o make) (splits row next rows) ∙ then_joined make joins fine (means (row ∷ [])) (means (next ∷ rows)) _ _ (each (row ∷ [])) (each (next ∷ rows))
made_splits make joins fine false means splits each = λ rows others. ap (λ o. then_do o make) (splits rows others)

-- ---- operands

-- there may be a fault
abbrev own : (op : Op) (operands : List Bool) → is_own_elementwise op operands ≡ true → is_own_elementwise op operands ≡ true
own op operands h = h

abbrev any : (op : Op) (operands : List Bool) → is_own_elementwise op operands ≡ true → is_own_harmless op operands ≡ false → Unit {0}
any op operands h e = tt

values_fine : (from target : Ty) (options : CastOptions) (xs : List Val) → Fine (length xs) (cast_values from target options xs)
values_fine from target options xs = values_cast (Unit {0}) is_own_elementwise own any from target options (λ e. tt) xs

operand_fine : (from target : Ty) (many : Bool) (m : Meaning) → ((rows : List ℕ) → Fine (row_count many (length rows)) (m rows)) → (rows : List ℕ) → Fine (row_count many (length rows)) (cast_meaning from target NonStrict m rows)
operand_fine from target many m fine rows = operand_cast (Unit {0}) is_own_elementwise own any from target m rows _ (fine rows)

operand_splits : (from target : Ty) (many : Bool) (m : Meaning) → Splits many m → ((rows : List ℕ) → Fine (row_count many (length rows)) (m rows)) → Splits many (cast_meaning from target NonStrict m)
operand_splits from target many m splits fine =
    elim (same_type from target) as (λ b. Splits many (cond b m (λ rows. then_do (m rows) (cast_values from target NonStrict)))) [
      | true ↦ splits
      | false ↦ made_splits (cast_values from target NonStrict) (cast_joined from target NonStrict) (values_fine from target NonStrict) many m splits fine
    ]

-- each goes row by row, or has one value
abbrev AllSplit : List Typed → List Meaning → Type 0
AllSplit [] [] = Unit {0}
AllSplit (t ∷ ts) (m ∷ ms) = (Splits t.many m × ((rows : List ℕ) → Fine (row_count t.many (length rows)) (m rows))) × AllSplit ts ms
AllSplit [] (m ∷ ms) = ⊥
AllSplit (t ∷ ts) [] = ⊥

-- the columns of all, of the first row and of the others
abbrev Joins : ℕ → List Typed → Outcome (List (List Val)) → Outcome (List (List Val)) → Outcome (List (List Val)) → Type 0
Joins n typed wholes firsts rests =
    (whole first rest : List (List Val) → Outcome (List Val)) → ((w f r : List (List Val)) → ColumnsSplit n typed w f r → whole w ≡ joined (first f) (rest r)) → ((f : List (List Val)) → AreLong 1 typed f → Fine 1 (first f))
    → then_do wholes whole ≡ joined (then_do firsts first) (then_do rests rest)

-- and of one operand more, which has a value for each row
module _ (n : ℕ) (wholes firsts rests : Outcome (List (List Val))) (whole first rest : List (List Val) → Outcome (List Val)) where
  more_rows : (o p : Outcome (List Val)) → Fine 1 o → Fine n p
      → ((x y : List Val) → length x ≡ 1 → length y ≡ n → then_do wholes (λ columns. whole ((x ++ y) ∷ columns)) ≡ joined (then_do firsts (λ columns. first (x ∷ columns))) (then_do rests (λ columns. rest (y ∷ columns))))
      → ((x : List Val) → length x ≡ 1 → Fine 1 (then_do firsts (λ columns. first (x ∷ columns)))) → front (joined o p) wholes whole ≡ joined (front o firsts first) (front p rests rest)
  more_rows Fault p a b joins fine = refl
  more_rows Stuck p a b joins fine = absurd a
  more_rows (Done x) Fault a b joins fine = faulted (front (Done x) firsts first) 1 (subst (Fine 1) (sym (front_next x firsts first)) (fine x a))
  more_rows (Done x) Stuck a b joins fine = absurd b
  more_rows (Done x) (Done y) a b joins fine = front_next (x ++ y) wholes whole ∙ joins x y a b ∙ sym (λ i. joined (front_next x firsts first i) (front_next y rests rest i))

  -- or one value
  one_more : (o : Outcome (List Val)) → Fine 1 o
      → ((x : List Val) → length x ≡ 1 → then_do wholes (λ columns. whole (x ∷ columns)) ≡ joined (then_do firsts (λ columns. first (x ∷ columns))) (then_do rests (λ columns. rest (x ∷ columns)))) → front o wholes whole ≡ joined (front o firsts first) (front o rests rest)
  one_more Fault a joins = refl
  one_more Stuck a joins = absurd a
  one_more (Done x) a joins = front_next x wholes whole ∙ joins x a ∙ sym (λ i. joined (front_next x firsts first i) (front_next x rests rest i))

fine_all : (rows : List ℕ) (typed : List Typed) (ms : List Meaning) → AllSplit typed ms → AllHave (Unit {0}) (length rows) rows typed ms
fine_all rows [] [] all = tt
fine_all rows [] (m ∷ ms) all = absurd all
fine_all rows (t ∷ ts) [] all = absurd all
fine_all rows (t ∷ ts) (m ∷ ms) all = (all.0.1 rows, fine_all rows ts ms all.1)

module _ (row next : ℕ) (rows : List ℕ) where
  abbrev behind : ℕ
  behind = length (next ∷ rows)

  operand_joins : (many : Bool) (m : Meaning) (typed : List Typed) (ms : List Meaning) → Splits many m → ((rows : List ℕ) → Fine (row_count many (length rows)) (m rows)) → AllSplit typed ms
      → Joins behind typed (given ms (row ∷ next ∷ rows)) (given ms (row ∷ [])) (given ms (next ∷ rows))
      → (whole first rest : List (List Val) → Outcome (List Val))
      → ((x y z : List Val) (w f r : List (List Val)) → ColumnSplits behind many x y z → ColumnsSplit behind typed w f r → whole (x ∷ w) ≡ joined (first (y ∷ f)) (rest (z ∷ r)))
      → ((y : List Val) (f : List (List Val)) → length y ≡ row_count many 1 → AreLong 1 typed f → Fine 1 (first (y ∷ f)))
      → front (m (row ∷ next ∷ rows)) (given ms (row ∷ next ∷ rows)) whole ≡ joined (front (m (row ∷ [])) (given ms (row ∷ [])) first) (front (m (next ∷ rows)) (given ms (next ∷ rows)) rest)
  operand_joins true m typed ms splits fine all joins whole first rest makes has =
      ap (λ o. front o (given ms (row ∷ next ∷ rows)) whole) (splits row next rows)
      ∙ more_rows behind (given ms (row ∷ next ∷ rows)) (given ms (row ∷ [])) (given ms (next ∷ rows)) whole first rest (m (row ∷ [])) (m (next ∷ rows)) (fine (row ∷ [])) (fine (next ∷ rows))
      (λ x y a b. joins (λ columns. whole ((x ++ y) ∷ columns)) (λ columns. first (x ∷ columns)) (λ columns. rest (y ∷ columns)) (λ w f r s. makes (x ++ y) x y w f r (refl, a, b) s) (λ f long. has x f a long))
      (λ x a. given_has (Unit {0}) 1 1 (row ∷ []) typed ms (fine_all (row ∷ []) typed ms all) (λ columns. first (x ∷ columns)) (λ f long. has x f a long))
  operand_joins false m typed ms splits fine all joins whole first rest makes has =
      one_more behind (given ms (row ∷ next ∷ rows)) (given ms (row ∷ [])) (given ms (next ∷ rows)) whole first rest (m (row ∷ next ∷ rows)) (fine (row ∷ next ∷ rows))
      (λ x a. joins (λ columns. whole (x ∷ columns)) (λ columns. first (x ∷ columns)) (λ columns. rest (x ∷ columns)) (λ w f r s. makes x x x w f r (a, refl, refl) s) (λ f long. has x f a long))
      ∙ (λ i. joined (front (splits (row ∷ next ∷ rows) (row ∷ []) i) (given ms (row ∷ [])) first) (front (splits (row ∷ next ∷ rows) (next ∷ rows) i) (given ms (next ∷ rows)) rest))

  given_joins : (typed : List Typed) (ms : List Meaning) → AllSplit typed ms → Joins behind typed (given ms (row ∷ next ∷ rows)) (given ms (row ∷ [])) (given ms (next ∷ rows))
  given_joins [] [] all = λ whole first rest makes fine. makes [] [] [] tt
  given_joins [] (m ∷ ms) all = absurd all
  given_joins (t ∷ ts) [] all = absurd all
  given_joins (t ∷ ts) (m ∷ ms) all = λ whole first rest makes fine.
      operand_joins t.many m ts ms all.0.0 all.0.1 all.1 (given_joins ts ms all.1) whole first rest (λ x y z w f r own s. makes (x ∷ w) (y ∷ f) (z ∷ r) (own, s)) (λ y f own long. fine (y ∷ f) (own, long))

-- operands of one value
given_same : (typed : List Typed) (ms : List Meaning) → some_many typed ≡ false → AllSplit typed ms → (rows others : List ℕ) → given ms rows ≡ given ms others
given_same [] [] single all rows others = refl
given_same [] (m ∷ ms) single all rows others = absurd all
given_same (t ∷ ts) [] single all rows others = absurd all
given_same (t ∷ ts) (m ∷ ms) single all rows others =
    let parts = or_parts t.many (some_many ts) single in
    let own : m rows ≡ m others = subst (λ b. Splits b m) parts.0 all.0.0 rows others in
    λ i. then_do (own i) (λ column. then_do (given_same ts ms parts.1 all.1 rows others i) (λ columns. Done (column ∷ columns)))

-- ---- nodes

module _ (registry : Registry) (frame : Frame) where
  abbrev made : Op → List Ty → List Ty → Ty → List Meaning → Meaning
  made op types targets type ms rows = then_do (given (taken_to types targets ms) rows) (kernel registry frame rows op targets type)

  column_splits : (name : Name) (own type : Ty) (targets : List Ty) (ms : List Meaning) → AllBecome own [] targets → AllSplit [] ms → Splits true (made (ColumnOp name) [] targets type ms)
  column_splits name own type [] [] becomes all = λ row next rows. refl
  column_splits name own type [] (m ∷ ms) becomes all = absurd all
  column_splits name own type (a ∷ targets) ms becomes all = absurd becomes

  -- what goes row by row
  taken_split : (own : Ty) (below : List Typed) (targets : List Ty) (ms : List Meaning) → AllBecome own (types_of below) targets → AllSplit below ms → AllSplit below (taken_to (types_of below) targets ms)
  taken_split own [] targets [] becomes all = tt
  taken_split own [] targets (m ∷ ms) becomes all = absurd all
  taken_split own (t ∷ ts) [] ms becomes all = absurd becomes
  taken_split own (t ∷ ts) (target ∷ targets) [] becomes all = absurd all
  taken_split own (t ∷ ts) (target ∷ targets) (m ∷ ms) becomes all =
      ((operand_splits t.type target t.many m all.0.0 all.0.1, operand_fine t.type target t.many m all.0.1), taken_split own ts targets ms becomes.1 all.1)

  rows_many : (op : Op) (operands : List Bool) (below : List Typed) (ruling : Ruling) → GoesByRow registry op operands below ruling → some_many below ≡ true → (ms : List Meaning) → AllSplit below ms
      → Splits true (λ rows. then_do (given ms rows) (kernel registry frame rows op ruling.operands ruling.own.type))
  rows_many op operands below ruling goes some ms all = λ row next rows.
      let n = length (next ∷ rows) in
      let on : List ℕ → List (List Val) → Outcome (List Val) = λ rows. kernel registry frame rows op ruling.operands ruling.own.type in
      given_joins row next rows below ms all (on (row ∷ next ∷ rows)) (on (row ∷ [])) (on (next ∷ rows))
      (λ wholes firsts rests s.
      goes.makes frame (row ∷ next ∷ rows) (suc n) wholes (all_whole n below wholes firsts rests s) ∙ by_row_joins goes.value n below wholes firsts rests some s
      ∙ sym (λ i. joined (goes.makes frame (row ∷ []) 1 firsts (all_first n below wholes firsts rests s) i) (goes.makes frame (next ∷ rows) n rests (all_rest n below wholes firsts rests s) i)))
      (λ firsts long. subst (Fine 1) (sym (goes.makes frame (row ∷ []) 1 firsts long)) (one_row_has goes.value below firsts long))

  rows_one : (op : Op) (operands : List Bool) (below : List Typed) (ruling : Ruling) → GoesByRow registry op operands below ruling → some_many below ≡ false → (ms : List Meaning) → AllSplit below ms
      → Splits false (λ rows. then_do (given ms rows) (kernel registry frame rows op ruling.operands ruling.own.type))
  rows_one op operands below ruling goes single ms all = λ rows others.
      let on : List ℕ → List (List Val) → Outcome (List Val) = λ rows. kernel registry frame rows op ruling.operands ruling.own.type in
      ap (λ o. then_do o (on rows)) (given_same below ms single all rows others)
      ∙ given_agrees (Unit {0}) (length others) others below ms (fine_all others below ms all) (on rows) (on others) (λ columns long.
      goes.makes frame rows (length others) columns long ∙ sym (goes.makes frame others (length others) columns long))

  abbrev Node : Op → List Typed → Ruling → List Meaning → Meaning
  Node op below ruling ms = applied registry frame op ruling (taken_to (types_of below) ruling.operands ms)

  rows_split : (op : Op) (operands : List Bool) (below : List Typed) (ruling : Ruling) → GoesByRow registry op operands below ruling → AllBecome ruling.own.type (types_of below) ruling.operands → (ms : List Meaning) → AllSplit below ms → Splits ruling.own.many (Node op below ruling ms)
  rows_split op operands below ruling goes becomes ms all =
      let taken = taken_to (types_of below) ruling.operands ms in
      let split = taken_split ruling.own.type below ruling.operands ms becomes all in
      let made : Meaning = λ rows. then_do (given taken rows) (kernel registry frame rows op ruling.operands ruling.own.type) in
      let applies : made ≡ Node op below ruling ms = λ i rows. sym (goes.applies frame taken rows) i in
      subst (Splits ruling.own.many) applies
      (subst (λ b. Splits b made) (sym goes.many) (elim (some_many below) as (λ b. some_many below ≡ b → Splits b made) [
        | true ↦ λ e. rows_many op operands below ruling goes e taken split
        | false ↦ λ e. rows_one op operands below ruling goes e taken split
      ] refl))

  own_splits : (op : Op) (operands : List Bool) (below : List Typed) (ruling : Ruling) → rule registry frame.schema op below ≡ Ok ruling → AllBecome ruling.own.type (types_of below) ruling.operands → is_own_elementwise op operands ≡ true → LiteralsAreOne operands below → (ms : List Meaning) → AllSplit below ms
      → Splits ruling.own.many (Node op below ruling ms)
  own_splits (ColumnOp name) operands [] ruling h becomes s one ms all =
      subst (λ b. Splits b (made (ColumnOp name) [] ruling.operands ruling.own.type ms)) (sym (length_is _ true ruling h)) (column_splits name ruling.own.type ruling.own.type ruling.operands ms becomes all)
  own_splits (ColumnOp name) operands (x ∷ xs) ruling h becomes s one ms all = cc
  own_splits op operands below ruling h becomes s one ms all = rows_split op operands below ruling (row_goes registry frame.schema op operands below ruling h becomes s refl one) becomes ms all

  expression_fine : (t : Expression) (typed : Typed) → typing registry frame.schema t ≡ Ok typed → is_elementwise t ≡ true → (rows : List ℕ) → Fine (row_count typed.many (length rows)) (meaning registry frame t rows)
  expression_fine t typed h s rows = has_values (Unit {0}) is_own_elementwise own any registry frame rows t typed h s

  mutual
    expression_splits : (t : Expression) (typed : Typed) → typing registry frame.schema t ≡ Ok typed → is_elementwise t ≡ true → Splits typed.many (meaning registry frame t)
    expression_splits (node op ts) typed h s =
        let p = typed_parts registry frame.schema op ts typed h in
        let keeps = keeps_rule registry frame.schema op p.below p.ruling p.rules in
        let ms = meaning_all registry frame ts in
        let both = and_parts (is_own_elementwise op (literals ts)) (all_hold never is_own_elementwise ts) s in
        let is = ap (λ r. node_meaning registry frame op r ms) p.children_typed ∙ ap (λ r. ruled_meaning registry frame op (types_of p.below) r ms) p.rules in
        subst (λ (own : Typed). Splits own.many (meaning registry frame (node op ts))) p.is
        (subst (Splits p.ruling.own.many) (sym is) (own_splits op (literals ts) p.below p.ruling p.rules keeps.becomes both.0 (literals_are_one registry frame.schema ts p.below p.children_typed) ms (expressions_split ts p.below p.children_typed both.1)))

    expressions_split : (ts : Trees Op) (below : List Typed) → typing_all registry frame.schema ts ≡ Ok below → all_hold never is_own_elementwise ts ≡ true → AllSplit below (meaning_all registry frame ts)
    expressions_split no_more below h s = by_no_children (λ ts. AllSplit ts []) below h tt
    expressions_split (more t ts) below h s =
        let both = and_parts (is_elementwise t) (all_hold never is_own_elementwise ts) s in
        by_children (λ typed. AllSplit typed (meaning registry frame t ∷ meaning_all registry frame ts)) _ _ below h (λ own rest first others. ((expression_splits t own first both.0, expression_fine t own first both.0), expressions_split ts rest others both.1))

pub elementwise_goes_by_rows : ElementwiseGoesByRows
elementwise_goes_by_rows registry frame tree typed is elementwise = goes_by_rows typed.many (meaning registry frame tree) (expression_splits registry frame tree typed is elementwise)
