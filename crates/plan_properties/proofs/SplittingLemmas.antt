-- Filters by the parts of a predicate keep what one by the whole does.
use Rattle.std.proofs.Common.{◌≡◌, ℕ, zero, suc, ◌+◌, ◌<◌, Bool, true, false, cond, if◌then◌else◌, ◌==◌, ◌&&◌, ◌||◌, List, [], ◌∷◌, ◌++◌, length, map, replicate, Some, IsTrue, not, slice_get, unwrap_or, Ok, refl, sym, ap, ◌∙◌, subst, arith}
use Rattle.std.proofs.Math.Bool.{and-false}
use Rattle.std.proofs.lemmas.Bool.{and_parts, and_from}
use Rattle.std.proofs.lemmas.List.{append-nil, length-map}
use Rattle.std.specs.List.{AllByRecursion, range_with_len}
use Rattle.plan_types.specs.Frames.{Frame, Row, row_at, row_numbers}
use Rattle.plan_types.specs.Outcomes.{Outcome, Done, Fault, Stuck, then_do}
use Rattle.plan_types.specs.Schemas.{Columns}
use Rattle.plan_types.specs.Types.{Truth}
use Rattle.plan_types.specs.Values.{Val, NullValue}
use Rattle.plan_dsl.specs.Aliases.{IsCore, are_core, is_core, is_core_op}
use Rattle.plan_dsl.specs.Kernels.{for_rows, given, kernel}
use Rattle.plan_dsl.specs.Meaning.{meaning}
use Rattle.plan_dsl.specs.declared.operator.Operator.{Operator}
use Rattle.plan_dsl.specs.Ops.{Op, BinaryOp, Expression}
use Rattle.plan_dsl.specs.Picks.{is_true, where_true}
use Rattle.plan_dsl.specs.PlanKernels.{kept_rows}
use Rattle.plan_dsl.specs.Properties.{all_hold, is_elementwise, is_own_elementwise, is_own_harmless, literals, never, permits_pushdown}
use Rattle.plan_dsl.specs.Registry.{Registry}
use Rattle.plan_dsl.specs.Trees.{Trees, node, no_more, more}
use Rattle.plan_dsl.specs.Typing.{Typed, typing}
use Rattle.plan_arena.specs.Runs.{AllNameOperands, NamesOperands}
use Rattle.plan_properties.specs.Laws.{GoesByRows, HasValues, by_rows, joined, row_count}
use Rattle.plan_properties.specs.Splitting.{IsCondition, PartsAreConditions, SplittingKeepsFrames, all_conjuncts, conjuncts, is_conjunction, is_whole, kept_by, kept_by_all}
use Rattle.plan_properties.proofs.ConjunctLemmas.{BothConditions, both_conditions, conjunction_is_true}
use Rattle.plan_properties.proofs.ElementwiseLemmas.{elementwise_goes_by_rows}
use Rattle.plan_properties.proofs.HarmlessLemmas.{harmless_tells, pushdowns_have_no_fault}
use Rattle.plan_properties.proofs.SideLemmas.{own_equal}
use Rattle.plan_properties.proofs.RowLemmas.{rows_decide}

-- ---- what permits pushdown is elementwise

mutual
  harmless_is_elementwise : (t : Expression) → permits_pushdown t ≡ true → is_elementwise t ≡ true
  harmless_is_elementwise (node op ts) h =
      let both = and_parts (is_own_harmless op (literals ts)) (all_hold never is_own_harmless ts) h in
      and_from (is_own_elementwise op (literals ts)) (all_hold never is_own_elementwise ts) (harmless_tells op (literals ts) both.0) (harmless_are_elementwise ts both.1)

  harmless_are_elementwise : (ts : Trees Op) → all_hold never is_own_harmless ts ≡ true → all_hold never is_own_elementwise ts ≡ true
  harmless_are_elementwise no_more h = refl
  harmless_are_elementwise (more t ts) h =
      let both = and_parts (permits_pushdown t) (all_hold never is_own_harmless ts) h in
      and_from (is_elementwise t) (all_hold never is_own_elementwise ts) (harmless_is_elementwise t both.0) (harmless_are_elementwise ts both.1)

-- ---- columns and rows

abbrev first_value : Outcome (List Val) → Val
first_value (Done []) = NullValue
first_value (Done (value ∷ values)) = value
first_value Fault = NullValue
first_value Stuck = NullValue

one_value : (o : Outcome (List Val)) → HasValues 1 o → o ≡ Done (first_value o ∷ [])
one_value (Done []) h = cc
one_value (Done (v ∷ [])) h = refl
one_value (Done (v ∷ w ∷ vs)) h = cc
one_value Fault h = absurd h
one_value Stuck h = absurd h

no_value_there : (o : Outcome (List Val)) → HasValues 0 o → o ≡ Done []
no_value_there (Done []) h = refl
no_value_there (Done (v ∷ vs)) h = cc
no_value_there Fault h = absurd h
no_value_there Stuck h = absurd h

-- a column with a value for each row stays
own_length : (values : List Val) → for_rows (length values) values ≡ Done values
own_length [] = refl
own_length (v ∷ []) = refl
own_length (v ∷ w ∷ vs) = ap (λ b. cond (b || (length (v ∷ w ∷ vs) == 1)) (Done (v ∷ w ∷ vs)) Fault) (own_equal (length (v ∷ w ∷ vs)))

-- and one value is repeated
one_repeated : (count : ℕ) (value : Val) → for_rows count (value ∷ []) ≡ Done (replicate count value)
one_repeated count value = elim (1 == count) as (λ b. cond (b || true) (Done (replicate count value)) Fault ≡ Done (replicate count value)) [ true ↦ refl | false ↦ refl ]

all_one : (f : ℕ → Val) (value : Val) → ((n : ℕ) → f n ≡ value) → (start count : ℕ) → map f (range_with_len start count) ≡ replicate count value
all_one f value same start zero = refl
all_one f value same start (suc count) = λ i. same start i ∷ all_one f value same (start + 1) count i

row_there : (rows : List Row) (i : ℕ) → i < length rows → slice_get rows i ≡ Some (unwrap_or (slice_get rows i) [])
row_there [] i lt = absurd (omega (arith, lt))
row_there (row ∷ rows) zero lt = refl
row_there (row ∷ rows) (suc i) lt = row_there rows i (omega (arith, lt))

here : {row other : Row} → Some row ≡ Some other → other ≡ row
here h = cc

-- a function of each row, by its number
by_number : (g : Row → Val) (at : ℕ → Row) (rows : List Row) (start : ℕ) → ((i : ℕ) → i < length rows → slice_get rows i ≡ Some (at (start + i))) → map (λ n. g (at n)) (range_with_len start (length rows)) ≡ map g rows
by_number g at [] start there = refl
by_number g at (row ∷ rows) start there =
    let first : at start ≡ row = ap at (omega arith) ∙ here (there 0 (omega arith)) in
    let rest = by_number g at rows (start + 1) (λ i lt. there (suc i) (omega (arith, lt)) ∙ ap (λ n. Some (at n)) (omega arith)) in
    λ i. g (first i) ∷ rest i

abbrev kept : (Row → Bool) → List Row → List Row
kept test [] = []
kept test (row ∷ rows) = if test row then row ∷ kept test rows else kept test rows

kept_where : (f : Row → Val) (rows : List Row) → where_true (map f rows) rows ≡ kept (λ row. is_true (f row)) rows
kept_where f [] = refl
kept_where f (row ∷ rows) = ap (λ others. cond (is_true (f row)) (row ∷ others) others) (kept_where f rows)

kept_same : (p q : Row → Bool) → ((row : Row) → p row ≡ q row) → (rows : List Row) → kept p rows ≡ kept q rows
kept_same p q same [] = refl
kept_same p q same (row ∷ rows) = λ i. cond (same row i) (row ∷ kept_same p q same rows i) (kept_same p q same rows i)

-- what the one keeps of what the other does, both keep
kept_twice : (p q : Row → Bool) (rows : List Row) → kept p (kept q rows) ≡ kept (λ row. p row && q row) rows
kept_twice p q [] = refl
kept_twice p q (row ∷ rows) =
    let rest = kept_twice p q rows in
    elim (q row) as (λ b. kept p (cond b (row ∷ kept q rows) (kept q rows)) ≡ cond (p row && b) (row ∷ kept (λ r. p r && q r) rows) (kept (λ r. p r && q r) rows)) [
      | true ↦ elim (p row) as (λ b. cond b (row ∷ kept p (kept q rows)) (kept p (kept q rows)) ≡ cond (b && true) (row ∷ kept (λ r. p r && q r) rows) (kept (λ r. p r && q r) rows)) [ true ↦ ap (λ l. row ∷ l) rest | false ↦ rest ]
      | false ↦ elim (p row) as (λ b. kept p (kept q rows) ≡ cond (b && false) (row ∷ kept (λ r. p r && q r) rows) (kept (λ r. p r && q r) rows)) [ true ↦ rest | false ↦ rest ]
    ]

then_then : {A B C : Type 0} (o : Outcome A) (f : A → Outcome B) (g : B → Outcome C) → then_do o (λ a. then_do (f a) g) ≡ then_do (then_do o f) g
then_then (Done a) f g = refl
then_then Fault f g = refl
then_then Stuck f g = refl

done_again : {A : Type 0} (o : Outcome A) → then_do o (λ a. Done a) ≡ o
done_again (Done a) = refl
done_again Fault = refl
done_again Stuck = refl

pub all_of_both : (P : Expression → Type 0) (front back : List Expression) → AllByRecursion P front → AllByRecursion P back → AllByRecursion P (front ++ back)
all_of_both P [] back a b = b
all_of_both P (t ∷ front) back a b = (a.0, all_of_both P front back a.1 b)

-- ---- two operands

not_none : {left right : Expression} → (let none : Trees Op = no_more in none ≡ more left (more right no_more)) → ⊥
not_none h = cc

not_one : {first left right : Expression} → more first no_more ≡ more left (more right no_more) → ⊥
not_one h = cc

not_three : {first second third left right : Expression} {rest : Trees Op} → more first (more second (more third rest)) ≡ more left (more right no_more) → ⊥
not_three h = cc

left_same : {a b c d : Expression} → more a (more b no_more) ≡ more c (more d no_more) → a ≡ c
left_same h = cc

right_same : {a b c d : Expression} → more a (more b no_more) ≡ more c (more d no_more) → b ≡ d
right_same h = cc

-- ---- a filter by an expression that can be moved

one_count : (many : Bool) → row_count many 1 ≡ 1
one_count true = refl
one_count false = refl

module _ (registry : Registry) (schema : Columns) where
  abbrev on : List Row → Frame
  on rows = record { schema = schema; rows = rows }

  -- what an expression gives on a row by itself
  abbrev on_row : Expression → Row → Val
  on_row tree row = first_value (meaning registry (on (row ∷ [])) tree (0 ∷ []))

  abbrev test : Expression → Row → Bool
  test tree row = is_true (on_row tree row)

  module _ (tree : Expression) (typed : Typed) (is : typing registry schema tree ≡ Ok typed) (permits : permits_pushdown tree ≡ true) where
    row_alone : (row : Row) → meaning registry (on (row ∷ [])) tree (0 ∷ []) ≡ Done (on_row tree row ∷ [])
    row_alone row =
        one_value (meaning registry (on (row ∷ [])) tree (0 ∷ []))
        (subst (λ k. HasValues k (meaning registry (on (row ∷ [])) tree (0 ∷ []))) (one_count typed.many) (pushdowns_have_no_fault registry (on (row ∷ [])) tree typed is permits (0 ∷ [])))

    by_row : (rows : List Row) (number : ℕ) → meaning registry (on rows) tree (number ∷ []) ≡ Done (on_row tree (row_at (on rows) number) ∷ [])
    by_row rows number =
        rows_decide registry schema rows (row_at (on rows) number ∷ []) tree (harmless_is_elementwise tree permits) number 0 refl ∙ row_alone (row_at (on rows) number)

    by_each : (rows : List Row) (numbers : List ℕ) → by_rows (meaning registry (on rows) tree) numbers ≡ Done (map (λ number. on_row tree (row_at (on rows) number)) numbers)
    by_each rows [] = refl
    by_each rows (number ∷ numbers) = λ i. joined (by_row rows number i) (by_each rows numbers i)

    numbered : (rows : List Row) → map (λ number. on_row tree (row_at (on rows) number)) (row_numbers (on rows)) ≡ map (on_row tree) rows
    numbered rows = by_number (on_row tree) (row_at (on rows)) rows 0 (λ i lt. row_there rows i lt ∙ ap (λ n. Some (row_at (on rows) n)) (omega arith))

    -- where there may be many values
    of_many : typed.many ≡ true → (rows : List Row) (numbers : List ℕ) → meaning registry (on rows) tree numbers ≡ Done (map (λ number. on_row tree (row_at (on rows) number)) numbers)
    of_many e rows [] =
        no_value_there (meaning registry (on rows) tree []) (subst (λ many. HasValues (row_count many 0) (meaning registry (on rows) tree [])) e (pushdowns_have_no_fault registry (on rows) tree typed is permits []))
    of_many e rows (number ∷ numbers) =
        let goes = subst (λ many. GoesByRows many (meaning registry (on rows) tree)) e (elementwise_goes_by_rows registry (on rows) tree typed is (harmless_is_elementwise tree permits)) in
        goes number numbers ∙ by_each rows (number ∷ numbers)

    many_for_rows : typed.many ≡ true → (rows : List Row) → then_do (meaning registry (on rows) tree (row_numbers (on rows))) (for_rows (length rows)) ≡ Done (map (on_row tree) rows)
    many_for_rows e rows =
        ap (λ o. then_do o (for_rows (length rows))) (of_many e rows (row_numbers (on rows)) ∙ ap Done (numbered rows))
        ∙ ap (λ n. for_rows n (map (on_row tree) rows)) (sym (length-map rows (on_row tree)))
        ∙ own_length (map (on_row tree) rows)

    -- where there is one value
    one_for_rows : typed.many ≡ false → (rows : List Row) → then_do (meaning registry (on rows) tree (row_numbers (on rows))) (for_rows (length rows)) ≡ Done (map (on_row tree) rows)
    one_for_rows e rows =
        let goes = subst (λ many. GoesByRows many (meaning registry (on rows) tree)) e (elementwise_goes_by_rows registry (on rows) tree typed is (harmless_is_elementwise tree permits)) in
        let value = on_row tree (row_at (on rows) 0) in
        let same : (n : ℕ) → on_row tree (row_at (on rows) n) ≡ value = λ n. ap first_value (sym (by_row rows n) ∙ goes (n ∷ []) (0 ∷ []) ∙ by_row rows 0) in
        ap (λ o. then_do o (for_rows (length rows))) (goes (row_numbers (on rows)) (0 ∷ []) ∙ by_row rows 0)
        ∙ one_repeated (length rows) value
        ∙ ap Done (sym (all_one (λ n. on_row tree (row_at (on rows) n)) value same 0 (length rows)) ∙ numbered rows)

    for_each_row : (rows : List Row) → then_do (meaning registry (on rows) tree (row_numbers (on rows))) (for_rows (length rows)) ≡ Done (map (on_row tree) rows)
    for_each_row rows = elim typed.many as (λ b. typed.many ≡ b → then_do (meaning registry (on rows) tree (row_numbers (on rows))) (for_rows (length rows)) ≡ Done (map (on_row tree) rows)) [
      | true ↦ λ e. many_for_rows e rows
      | false ↦ λ e. one_for_rows e rows
    ] refl

    keeps_rows : (rows : List Row) → kept_by registry tree (on rows) ≡ Done (on (kept (test tree) rows))
    keeps_rows rows =
        let next : List Val → Outcome Frame = λ each. Done (on (where_true each rows)) in
        then_then (meaning registry (on rows) tree (row_numbers (on rows))) (for_rows (length rows)) next
        ∙ ap (λ o. then_do o next) (for_each_row rows)
        ∙ ap (λ l. Done (on l)) (kept_where (on_row tree) rows)

  -- ---- parts

  kept_joined : (front back : List Expression) (frame : Frame) → kept_by_all registry (front ++ back) frame ≡ then_do (kept_by_all registry back frame) (kept_by_all registry front)
  kept_joined [] back frame = sym (done_again (kept_by_all registry back frame))
  kept_joined (tree ∷ front) back frame =
      ap (λ o. then_do o (kept_by registry tree)) (kept_joined front back frame)
      ∙ sym (then_then (kept_by_all registry back frame) (kept_by_all registry front) (kept_by registry tree))

  -- on a row by itself a conjunction is true where both are
  both_true_on : (op : Op) (left right : Expression) (operator : Operator) (type : _) → op ≡ BinaryOp operator → is_conjunction op ≡ true
      → ((rows : List Row) → meaning registry (on rows) (node op (more left (more right no_more))) ≡ (λ numbers. then_do (given (meaning registry (on rows) left ∷ meaning registry (on rows) right ∷ []) numbers) (kernel registry (on rows) numbers (BinaryOp operator) (Truth ∷ Truth ∷ []) type)))
      → (own other : Typed) → typing registry schema left ≡ Ok own → typing registry schema right ≡ Ok other → permits_pushdown left ≡ true → permits_pushdown right ≡ true
      → (row : Row) → test (node op (more left (more right no_more))) row ≡ (test left row && test right row)
  both_true_on op left right operator type op_is s means own other left_typed right_typed left_permits right_permits row =
      let l = row_alone left own left_typed left_permits row in
      let r = row_alone right other right_typed right_permits row in
      let k = kernel registry (on (row ∷ [])) (0 ∷ []) (BinaryOp operator) (Truth ∷ Truth ∷ []) type in
      let pair : List Val → List Val → Outcome (List Val) = λ ls rs. k (ls ∷ rs ∷ []) in
      ap (λ m. is_true (first_value (m (0 ∷ [])))) (means (row ∷ []))
      ∙ (λ i. is_true (first_value (then_do (then_do (l i) (λ ls. then_do (then_do (r i) (λ rs. Done (rs ∷ []))) (λ columns. Done (ls ∷ columns)))) k)))
      ∙ conjunction_is_true operator (subst (λ o. is_conjunction o ≡ true) op_is s) Truth type (on_row left row) (on_row right row)

  -- what a conjunction means, over its own operands
  means_both : (op : Op) (left right : Expression) (both : BothConditions registry schema op (more left (more right no_more))) → (rows : List Row)
      → meaning registry (on rows) (node op (more left (more right no_more))) ≡ (λ numbers. then_do (given (meaning registry (on rows) left ∷ meaning registry (on rows) right ∷ []) numbers) (kernel registry (on rows) numbers (BinaryOp both.operator) (Truth ∷ Truth ∷ []) both.type))
  means_both op left right both rows =
      both.means rows
      ∙ ap (λ t. λ numbers. then_do (given (meaning registry (on rows) t ∷ meaning registry (on rows) both.right ∷ []) numbers) (kernel registry (on rows) numbers (BinaryOp both.operator) (Truth ∷ Truth ∷ []) both.type)) (sym (left_same both.are))
      ∙ ap (λ t. λ numbers. then_do (given (meaning registry (on rows) left ∷ meaning registry (on rows) t ∷ []) numbers) (kernel registry (on rows) numbers (BinaryOp both.operator) (Truth ∷ Truth ∷ []) both.type)) (sym (right_same both.are))

  mutual
    keeps_by_parts : (t : Expression) → IsCondition registry schema t → permits_pushdown t ≡ true → (rows : List Row) → kept_by_all registry (conjuncts t) (on rows) ≡ Done (on (kept (test t) rows))
    keeps_by_parts (node op ts) c permits rows =
        elim (is_conjunction op) as (λ b. is_conjunction op ≡ b → kept_by_all registry (cond b (all_conjuncts ts) (node op ts ∷ [])) (on rows) ≡ Done (on (kept (test (node op ts)) rows))) [
          | true ↦ λ s. keeps_by_both op ts s c permits rows
          | false ↦ λ s. keeps_rows (node op ts) c.own c.typed permits rows
        ] refl

    keeps_by_both : (op : Op) (ts : Trees Op) → is_conjunction op ≡ true → IsCondition registry schema (node op ts) → permits_pushdown (node op ts) ≡ true → (rows : List Row) → kept_by_all registry (all_conjuncts ts) (on rows) ≡ Done (on (kept (test (node op ts)) rows))
    keeps_by_both op no_more s c permits rows = absurd (not_none (both_conditions registry schema op no_more s c).are)
    keeps_by_both op (more left no_more) s c permits rows = absurd (not_one (both_conditions registry schema op (more left no_more) s c).are)
    keeps_by_both op (more left (more right no_more)) s c permits rows =
        let both = both_conditions registry schema op (more left (more right no_more)) s c in
        let left_is = subst (IsCondition registry schema) (sym (left_same both.are)) both.left_is in
        let right_is = subst (IsCondition registry schema) (sym (right_same both.are)) both.right_is in
        let harmless = (and_parts (is_own_harmless op (literals (more left (more right no_more)))) (permits_pushdown left && (permits_pushdown right && true)) permits).1 in
        let permits_left = and_parts (permits_pushdown left) (permits_pushdown right && true) harmless in
        let permits_right = and_parts (permits_pushdown right) true permits_left.1 in
        let value = both_true_on op left right both.operator both.type both.op_is s (means_both op left right both) left_is.own right_is.own left_is.typed right_is.typed permits_left.0 permits_right.0 in
        kept_joined (conjuncts left) (conjuncts right ++ []) (on rows)
        ∙ ap (λ l. then_do (kept_by_all registry l (on rows)) (kept_by_all registry (conjuncts left))) (append-nil (conjuncts right))
        ∙ ap (λ o. then_do o (kept_by_all registry (conjuncts left))) (keeps_by_parts right right_is permits_right.0 rows)
        ∙ keeps_by_parts left left_is permits_left.0 (kept (test right) rows)
        ∙ ap (λ l. Done (on l)) (kept_twice (test left) (test right) rows ∙ sym (kept_same (test (node op (more left (more right no_more)))) (λ row. test left row && test right row) value rows))
    keeps_by_both op (more left (more right (more third rest))) s c permits rows = absurd (not_three (both_conditions registry schema op (more left (more right (more third rest))) s c).are)

  mutual
    parts_are_conditions_of : (t : Expression) → IsCondition registry schema t → AllByRecursion (IsCondition registry schema) (conjuncts t)
    parts_are_conditions_of (node op ts) c =
        elim (is_conjunction op) as (λ b. is_conjunction op ≡ b → AllByRecursion (IsCondition registry schema) (cond b (all_conjuncts ts) (node op ts ∷ []))) [
          | true ↦ λ s. parts_of_both op ts s c
          | false ↦ λ s. (c, tt)
        ] refl

    parts_of_both : (op : Op) (ts : Trees Op) → is_conjunction op ≡ true → IsCondition registry schema (node op ts) → AllByRecursion (IsCondition registry schema) (all_conjuncts ts)
    parts_of_both op no_more s c = tt
    parts_of_both op (more left no_more) s c = absurd (not_one (both_conditions registry schema op (more left no_more) s c).are)
    parts_of_both op (more left (more right no_more)) s c =
        let both = both_conditions registry schema op (more left (more right no_more)) s c in
        let left_is = subst (IsCondition registry schema) (sym (left_same both.are)) both.left_is in
        let right_is = subst (IsCondition registry schema) (sym (right_same both.are)) both.right_is in
        all_of_both (IsCondition registry schema) (conjuncts left) (conjuncts right ++ []) (parts_are_conditions_of left left_is) (all_of_both (IsCondition registry schema) (conjuncts right) [] (parts_are_conditions_of right right_is) tt)
    parts_of_both op (more left (more right (more third rest))) s c = absurd (not_three (both_conditions registry schema op (more left (more right (more third rest))) s c).are)

pub splitting_keeps_frames : SplittingKeepsFrames
splitting_keeps_frames registry frame tree c permits =
    keeps_by_parts registry frame.schema tree c permits frame.rows ∙ sym (keeps_rows registry frame.schema tree c.own c.typed permits frame.rows)

pub parts_are_conditions : PartsAreConditions
parts_are_conditions registry schema tree c = parts_are_conditions_of registry schema tree c

-- ---- what else holds of parts, and of what filters leave

mutual
  pub parts_are_whole : (t : Expression) → AllByRecursion (λ part. IsTrue (is_whole part)) (conjuncts t)
  parts_are_whole (node op ts) =
      elim (is_conjunction op) as (λ b. is_conjunction op ≡ b → AllByRecursion (λ part. IsTrue (is_whole part)) (cond b (all_conjuncts ts) (node op ts ∷ []))) [
        | true ↦ λ s. all_parts_are_whole ts
        | false ↦ λ s. (ap (λ b. not (b && permits_pushdown (node op ts))) s, tt)
      ] refl

  all_parts_are_whole : (ts : Trees Op) → AllByRecursion (λ part. IsTrue (is_whole part)) (all_conjuncts ts)
  all_parts_are_whole no_more = tt
  all_parts_are_whole (more t ts) = all_of_both (λ part. IsTrue (is_whole part)) (conjuncts t) (all_conjuncts ts) (parts_are_whole t) (all_parts_are_whole ts)

pub whole_where_stays : (t : Expression) → permits_pushdown t ≡ false → IsTrue (is_whole t)
whole_where_stays (node op ts) e = ap (λ b. not (is_conjunction op && b)) e ∙ ap not (and-false (is_conjunction op))

mutual
  pub parts_are_core : (t : Expression) → IsCore t → AllByRecursion IsCore (conjuncts t)
  parts_are_core (node op ts) h =
      let below = (and_parts (is_core_op op) (are_core ts) h).1 in
      elim (is_conjunction op) as (λ b. AllByRecursion IsCore (cond b (all_conjuncts ts) (node op ts ∷ []))) [ true ↦ all_parts_are_core ts below | false ↦ (h, tt) ]

  all_parts_are_core : (ts : Trees Op) → are_core ts ≡ true → AllByRecursion IsCore (all_conjuncts ts)
  all_parts_are_core no_more h = tt
  all_parts_are_core (more t ts) h =
      let both = and_parts (is_core t) (are_core ts) h in
      all_of_both IsCore (conjuncts t) (all_conjuncts ts) (parts_are_core t both.0) (all_parts_are_core ts both.1)

mutual
  pub parts_name_operands : (t : Expression) → NamesOperands t → AllByRecursion NamesOperands (conjuncts t)
  parts_name_operands (node op ts) h =
      elim (is_conjunction op) as (λ b. AllByRecursion NamesOperands (cond b (all_conjuncts ts) (node op ts ∷ []))) [ true ↦ all_parts_name_operands ts h.1 | false ↦ (h, tt) ]

  all_parts_name_operands : (ts : Trees Op) → AllNameOperands ts → AllByRecursion NamesOperands (all_conjuncts ts)
  all_parts_name_operands no_more h = tt
  all_parts_name_operands (more t ts) h =
      all_of_both NamesOperands (conjuncts t) (all_conjuncts ts) (parts_name_operands t h.0) (all_parts_name_operands ts h.1)

-- a frame of the schema, if there is one
abbrev pub KeepsSchema : Columns → Outcome Frame → Type 0
KeepsSchema schema (Done frame) = frame.schema ≡ schema
KeepsSchema schema Fault = Unit {0}
KeepsSchema schema Stuck = Unit {0}

kept_schema : (values : Outcome (List Val)) (frame : Frame) (schema : Columns) → frame.schema ≡ schema → KeepsSchema schema (then_do values (kept_rows frame))
kept_schema (Done vs) frame schema same =
    elim (for_rows (length frame.rows) vs) as (λ o. KeepsSchema schema (then_do o (λ each. Done (record { schema = frame.schema; rows = where_true each frame.rows })))) [
      | Done each ↦ same
      | Fault ↦ tt
      | Stuck ↦ tt
    ]
kept_schema Fault frame schema same = tt
kept_schema Stuck frame schema same = tt

then_kept : (registry : Registry) (tree : Expression) (schema : Columns) (o : Outcome Frame) → KeepsSchema schema o → KeepsSchema schema (then_do o (kept_by registry tree))
then_kept registry tree schema (Done frame) same = kept_schema (meaning registry frame tree (row_numbers frame)) frame schema same
then_kept registry tree schema Fault same = tt
then_kept registry tree schema Stuck same = tt

pub kept_all_schema : (registry : Registry) (trees : List Expression) (frame : Frame) (schema : Columns) → frame.schema ≡ schema → KeepsSchema schema (kept_by_all registry trees frame)
kept_all_schema registry [] frame schema same = same
kept_all_schema registry (tree ∷ trees) frame schema same = then_kept registry tree schema (kept_by_all registry trees frame) (kept_all_schema registry trees frame schema same)
