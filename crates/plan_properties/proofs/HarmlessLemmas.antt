-- An expression that a filter may come before has no fault, and a value for each row, or one.
use Rattle.std.proofs.Common.{◌≡◌, ℕ, suc, Bool, true, false, cond, List, [], ◌∷◌, length, Result, Ok, refl, sym, ap, ◌∙◌, subst}
use Rattle.std.proofs.lemmas.Bool.{and_parts}
use Rattle.std.proofs.lemmas.List.{length-map}
use Rattle.plan_types.specs.Casts.{Gives, Fails, cast}
use Rattle.plan_types.specs.Frames.{Frame, row_at, value_in}
use Rattle.plan_types.specs.Outcomes.{Outcome, Done, Fault, Stuck, then_do}
use Rattle.plan_types.specs.Types.{Ty, same_type}
use Rattle.plan_types.specs.Values.{Val}
use Rattle.plan_types.specs.declared.dtype.CastOptions.{CastOptions}
use Rattle.plan_types.specs.declared.dtype.CastOptions.TheVariants.{Strict, NonStrict, Overflowing}
use Rattle.plan_types.proofs.CastLemmas.{cast_never_fails}
use Rattle.plan_types.specs.Schemas.{Name}
use Rattle.plan_types.specs.declared.error.ErrorKind.{ErrorKind}
use Rattle.plan_dsl.specs.OperatorTypes.{Taken}
use Rattle.plan_dsl.specs.declared.function_expr.FunctionExpr.TheVariants.{AllHorizontal, AnyHorizontal, IsNull, IsNotNull, FillNull, IsIn, ShiftAndFill, ListGet, FieldByName, FieldByIndex}
use Rattle.plan_dsl.specs.Kernels.{Meaning, cast_meaning, cast_values, given, kernel, value_before}
use Rattle.plan_dsl.specs.Meaning.{applied, meaning, meaning_all, node_meaning, ruled_meaning, taken_to}
use Rattle.plan_dsl.specs.Ops.{Op, ColumnOp, LiteralOp, BinaryOp, CastOp, LenOp, SliceOp, ExplodeOp, GatherOp, FilterOp, SortOp, SortByOp, WindowOp, AliasOp, AggOp, TernaryOp, FunctionOp, Expression}
use Rattle.plan_dsl.specs.Properties.{all_hold, holds_by, is_own_elementwise, is_own_harmless, literals, never}
use Rattle.plan_dsl.specs.Registry.{Registry}
use Rattle.plan_dsl.specs.Rows.{by_row}
use Rattle.plan_dsl.specs.Trees.{Trees, node, no_more, more}
use Rattle.plan_dsl.specs.Typing.{Typed, Ruling, rule, ruled_as, types_of, typing, typing_all}
use Rattle.plan_dsl.proofs.OpLemmas.{keeps_rule}
use Rattle.plan_dsl.proofs.SignatureLemmas.{AllBecome}
use Rattle.plan_dsl.proofs.TypingLemmas.{by_children, by_no_children, ruled_is, typed_parts}
use Rattle.plan_properties.proofs.RowOpLemmas.{GoesByRow, LiteralsAreOne, literals_are_one, row_goes}
use Rattle.plan_properties.proofs.SideLemmas.{AllHave, by_row_has, given_has, one_in_front}
use Rattle.plan_properties.specs.Laws.{HasValuesOr, PushdownsHaveNoFault, row_count}

-- where each node passes a test that elementwise ones alone pass, and those that may have a fault of their own only where
-- there may be one
module _ (F : Type 0) (g : Op → List Bool → Bool) (tells : (op : Op) (operands : List Bool) → g op operands ≡ true → is_own_elementwise op operands ≡ true) (faults : (op : Op) (operands : List Bool) → g op operands ≡ true → is_own_harmless op operands ≡ false → F) where
  -- ---- casts

  -- a cast that fails is a strict one
  faulty : (from target : Ty) (options : CastOptions) (value : Val) → (options ≡ Strict → F) → cast value from target options ≡ Fails → F
  faulty from target Strict value n e = n refl
  faulty from target NonStrict value n e = absurd (cast_never_fails value from target NonStrict (λ e. cc) e)
  faulty from target Overflowing value n e = absurd (cast_never_fails value from target Overflowing (λ e. cc) e)

  pub values_cast : (from target : Ty) (options : CastOptions) → (options ≡ Strict → F) → (values : List Val) → HasValuesOr F (length values) (cast_values from target options values)
  values_cast from target options n [] = refl
  values_cast from target options n (value ∷ values) =
      elim (cast value from target options) as (λ c. cast value from target options ≡ c → HasValuesOr F (suc (length values)) (value_before c (cast_values from target options values))) [
        | Gives made ↦ λ e. one_in_front F made (cast_values from target options values) (length values) (values_cast from target options n values)
        | Fails ↦ λ e. faulty from target options value n e
      ] refl

  outcome_cast : (from target : Ty) (options : CastOptions) → (options ≡ Strict → F) → (o : Outcome (List Val)) (count : ℕ) → HasValuesOr F count o → HasValuesOr F count (then_do o (cast_values from target options))
  outcome_cast from target options n (Done values) count h = subst (λ k. HasValuesOr F k (cast_values from target options values)) h (values_cast from target options n values)
  outcome_cast from target options n Fault count h = h
  outcome_cast from target options n Stuck count h = absurd h

  pub operand_cast : (from target : Ty) (input : Meaning) (rows : List ℕ) (count : ℕ) → HasValuesOr F count (input rows) → HasValuesOr F count (cast_meaning from target NonStrict input rows)
  operand_cast from target input rows count h =
      elim (same_type from target) as (λ b. HasValuesOr F count (cond b input (λ rows. then_do (input rows) (cast_values from target NonStrict)) rows)) [ true ↦ h | false ↦ outcome_cast from target NonStrict (λ e. cc) (input rows) count h ]

  -- ---- nodes

  -- what is ruled by a table has its length
  pub many_is : (found : Result Taken ErrorKind) (many : Bool) (ruling : Ruling) → ruled_as found many ≡ Ok ruling → ruling.own.many ≡ many
  many_is found many ruling h = ruled_is (λ r. r.own.many ≡ many) found many ruling h (λ taken e. refl)

  module _ (registry : Registry) (frame : Frame) (rows : List ℕ) where
    -- what a node gives of operands that were cast to these types
    abbrev made : Op → List Ty → List Ty → Ty → List Meaning → Outcome (List Val)
    made op types targets type ms = then_do (given (taken_to types targets ms) rows) (kernel registry frame rows op targets type)

    column_has : (name : Name) (own type : Ty) (targets : List Ty) (ms : List Meaning) → AllBecome own [] targets → AllHave F (length rows) rows [] ms → HasValuesOr F (length rows) (made (ColumnOp name) [] targets type ms)
    column_has name own type [] [] becomes have = length-map rows (λ number. value_in frame.schema name (row_at frame number))
    column_has name own type [] (m ∷ ms) becomes have = absurd have
    column_has name own type (a ∷ targets) ms becomes have = absurd becomes

    taken_have : (own : Ty) (below : List Typed) (targets : List Ty) (ms : List Meaning) → AllBecome own (types_of below) targets → AllHave F (length rows) rows below ms → AllHave F (length rows) rows below (taken_to (types_of below) targets ms)
    taken_have own [] targets [] becomes have = tt
    taken_have own [] targets (m ∷ ms) becomes have = absurd have
    taken_have own (t ∷ ts) [] ms becomes have = absurd becomes
    taken_have own (t ∷ ts) (target ∷ targets) [] becomes have = absurd have
    taken_have own (t ∷ ts) (target ∷ targets) (m ∷ ms) becomes have = (operand_cast t.type target m rows _ have.0, taken_have own ts targets ms becomes.1 have.1)

    -- a node over operands of which each has so many values, or one
    abbrev Has : Op → List Typed → Ruling → List Meaning → Type 0
    Has op below ruling ms = HasValuesOr F (row_count ruling.own.many (length rows)) (applied registry frame op ruling (taken_to (types_of below) ruling.operands ms) rows)

    rows_have : (op : Op) (operands : List Bool) (below : List Typed) (ruling : Ruling) → GoesByRow registry op operands below ruling → AllBecome ruling.own.type (types_of below) ruling.operands → (is_own_harmless op operands ≡ false → F) → (ms : List Meaning) → AllHave F (length rows) rows below ms
        → Has op below ruling ms
    rows_have op operands below ruling goes becomes f ms have =
        let count = row_count ruling.own.many (length rows) in
        let taken = taken_to (types_of below) ruling.operands ms in
        subst (HasValuesOr F count) (sym (goes.applies frame taken rows))
        (given_has F (length rows) count rows below taken (taken_have ruling.own.type below ruling.operands ms becomes have) (kernel registry frame rows op ruling.operands ruling.own.type) (λ columns long.
        subst (HasValuesOr F count) (sym (goes.makes frame rows (length rows) columns long))
        (subst (λ b. HasValuesOr F (row_count b (length rows)) (by_row goes.value columns)) (sym goes.many) (by_row_has goes.value F (length rows) below (λ row many e. f (goes.faults row many e)) columns long))))

    own_has : (op : Op) (operands : List Bool) (below : List Typed) (ruling : Ruling) → rule registry frame.schema op below ≡ Ok ruling → AllBecome ruling.own.type (types_of below) ruling.operands → is_own_elementwise op operands ≡ true → LiteralsAreOne operands below → (is_own_harmless op operands ≡ false → F) → (ms : List Meaning) → AllHave F (length rows) rows below ms → Has op below ruling ms
    own_has (ColumnOp name) operands [] ruling h becomes s one f ms have =
        subst (λ b. HasValuesOr F (row_count b (length rows)) (made (ColumnOp name) [] ruling.operands ruling.own.type ms)) (sym (many_is _ true ruling h)) (column_has name ruling.own.type ruling.own.type ruling.operands ms becomes have)
    own_has (ColumnOp name) operands (x ∷ xs) ruling h becomes s one f ms have = cc
    own_has op operands below ruling h becomes s one f ms have = rows_have op operands below ruling (row_goes registry frame.schema op operands below ruling h becomes s refl one) becomes f ms have

    mutual
      pub has_values : (t : Expression) (typed : Typed) → typing registry frame.schema t ≡ Ok typed → holds_by never g t ≡ true → HasValuesOr F (row_count typed.many (length rows)) (meaning registry frame t rows)
      has_values (node op ts) typed h s =
          let p = typed_parts registry frame.schema op ts typed h in
          let keeps = keeps_rule registry frame.schema op p.below p.ruling p.rules in
          let ms = meaning_all registry frame ts in
          let both = and_parts (g op (literals ts)) (all_hold never g ts) s in
          let is = ap (λ r. node_meaning registry frame op r ms) p.children_typed ∙ ap (λ r. ruled_meaning registry frame op (types_of p.below) r ms) p.rules in
          subst (λ (own : Typed). HasValuesOr F (row_count own.many (length rows)) (meaning registry frame (node op ts) rows)) p.is
          (subst (λ (m : Meaning). HasValuesOr F (row_count p.ruling.own.many (length rows)) (m rows)) (sym is) (own_has op (literals ts) p.below p.ruling p.rules keeps.becomes (tells op (literals ts) both.0) (literals_are_one registry frame.schema ts p.below p.children_typed) (faults op (literals ts) both.0) ms (have_values ts p.below p.children_typed both.1)))

      have_values : (ts : Trees Op) (below : List Typed) → typing_all registry frame.schema ts ≡ Ok below → all_hold never g ts ≡ true → AllHave F (length rows) rows below (meaning_all registry frame ts)
      have_values no_more below h s = by_no_children (λ ts. AllHave F (length rows) rows ts []) below h tt
      have_values (more t ts) below h s =
          let both = and_parts (holds_by never g t) (all_hold never g ts) s in
          by_children (λ typed. AllHave F (length rows) rows typed (meaning registry frame t ∷ meaning_all registry frame ts)) _ _ below h (λ own rest first others. (has_values t own first both.0, have_values ts rest others both.1))

pub harmless_tells : (op : Op) (operands : List Bool) → is_own_harmless op operands ≡ true → is_own_elementwise op operands ≡ true
harmless_tells (CastOp target Strict) operands h = cc
harmless_tells (CastOp target NonStrict) operands h = refl
harmless_tells (CastOp target Overflowing) operands h = refl
harmless_tells (FunctionOp (ListGet false) recorded) operands h = cc
harmless_tells (FunctionOp (ListGet true) recorded) operands h = refl
harmless_tells (FunctionOp IsNull recorded) operands h = h
harmless_tells (FunctionOp IsNotNull recorded) operands h = h
harmless_tells (FunctionOp FillNull recorded) operands h = h
harmless_tells (FunctionOp IsIn recorded) operands h = h
harmless_tells (FunctionOp ShiftAndFill recorded) operands h = h
harmless_tells (FunctionOp (FieldByName name) recorded) operands h = h
harmless_tells (FunctionOp AllHorizontal recorded) operands h = h
harmless_tells (FunctionOp AnyHorizontal recorded) operands h = h
harmless_tells (FunctionOp (FieldByIndex place) recorded) operands h = h
harmless_tells (ColumnOp name) operands h = refl
harmless_tells (LiteralOp type value) operands h = refl
harmless_tells (BinaryOp operator) operands h = refl
harmless_tells (AliasOp name) operands h = refl
harmless_tells TernaryOp operands h = refl
harmless_tells LenOp operands h = h
harmless_tells SliceOp operands h = h
harmless_tells ExplodeOp operands h = h
harmless_tells (GatherOp one) operands h = h
harmless_tells FilterOp operands h = h
harmless_tells (SortOp options) operands h = h
harmless_tells (SortByOp descending nulls_last) operands h = h
harmless_tells (WindowOp order) operands h = h
harmless_tells (AggOp method) operands h = h

harmless_has_none : (op : Op) (operands : List Bool) → is_own_harmless op operands ≡ true → is_own_harmless op operands ≡ false → ⊥
harmless_has_none op operands h e = let apart : true ≡ false = sym h ∙ e in cc

pub pushdowns_have_no_fault : PushdownsHaveNoFault
pushdowns_have_no_fault registry frame tree typed is permits rows = has_values ⊥ is_own_harmless harmless_tells harmless_has_none registry frame rows tree typed is permits
