use Rattle.std.proofs.Common.{◌≡◌, ℕ, zero, suc, ◌-◌, slice_get, Result, Err, true, false, List, [], ◌∷◌, codes, map, Some, None, Ok, inl, refl, sym, ap, ◌∙◌, subst, arith, ⊎_elim}
use Rattle.std.specs.List.{AllByRecursion}
use Rattle.plan_types.specs.Types.{ty, same_type}
use Rattle.plan_types.specs.Schemas.{same_name, type_at}
use Rattle.plan_types.specs.declared.error.ErrorKind.{ErrorKind}
use Rattle.plan_types.specs.declared.dtype.DataType.TheVariants as dtype
use Rattle.plan_dsl.specs.declared.operator.Operator.TheVariants.{Plus}
use Rattle.plan_dsl.specs.Names.{Label, op_label}
use Rattle.plan_dsl.specs.Ops.{Op, BinaryOp, ColumnOp}
use Rattle.plan_dsl.specs.Strictness.{same_types}
use Rattle.plan_dsl.specs.Typing.{Ruling, Typed, column_type, own_typed, rule, ruled_as, typing}
use Rattle.plan_dsl.specs.OperatorTypes.{Taken}
use Rattle.plan_dsl.proofs.TypingLemmas.{ok_same}
use Rattle.plan_arena.specs.Items.{HoldsExpression}
use Rattle.plan_arena.proofs.LabelLemmas.{none_over}
use Rattle.plan_infer.specs.declared.type_table.Inferred.{Inferred}
use Rattle.plan_infer.specs.declared.type_table.TypeTable.{TypeTable}
use Rattle.plan_infer.specs.KeptTypes.{AllKept, AreOperands, GivesName, IsKept, IsTypedNode, KeepsEntry, typed_of}
use Rattle.plan_infer.specs.Samples.{int8, int32, one_column, two_columns, of_type, a, sum, sum_items, a_items}
use Rattle.plan_infer.proofs.ExampleLemmas.{one_expression, says}
use Rattle.plan_infer.proofs.TableLemmas.{kept_one}
use Rattle.plan_infer.proofs.examples.types.tables_that_are_right.Goals as goal

sum_op : (op : Op) (inputs : List ℕ) → HoldsExpression sum_items 2 op inputs → op ≡ BinaryOp Plus
sum_op op inputs h = cc

sum_inputs : (op : Op) (inputs : List ℕ) → HoldsExpression sum_items 2 op inputs → inputs ≡ 0 ∷ 1 ∷ []
sum_inputs op inputs h = cc

column_op : (op : Op) (inputs : List ℕ) → HoldsExpression a_items 0 op inputs → op ≡ ColumnOp (codes "a")
column_op op inputs h = cc

column_inputs : (op : Op) (inputs : List ℕ) → HoldsExpression a_items 0 op inputs → inputs ≡ []
column_inputs op inputs h = cc

column_typed : (own : Inferred) (table : TypeTable) → own.name.0 ≡ 0 → own.dtype ≡ dtype.Int8 → own.many ≡ true → own.operands ≡ [] → IsTypedNode [] (one_column int8) a_items table 0 own
column_typed own table n d m o = record {
  tree = a;
  denotes = ([], refl, tt);
  typed = ap Ok (says own dtype.Int8 true d m);
  name = record { op = ColumnOp (codes "a"); inputs = []; held = subst (λ k. HoldsExpression a_items k (ColumnOp (codes "a")) []) (sym n) refl; gives = λ names over. refl };
  inputs = λ op inputs h. subst (AllByRecursion (IsKept table)) (sym (column_inputs op inputs h)) tt;
  operands = λ op inputs typed ruling h kept rules.
      let none = kept_one table [] typed [] (subst (λ ns. AllKept table ns typed) (column_inputs op inputs h) kept) tt in
      let is = ap (λ ts. rule [] (one_column int8) (ColumnOp (codes "a")) ts) (sym none) ∙ ap (λ o. rule [] (one_column int8) o typed) (sym (column_op op inputs h)) ∙ rules in
      let one : ruling ≡ record { operands = []; own = of_type int8 } = ok_same _ ruling (record { operands = []; own = of_type int8 }) is refl in
      inl (ap (map ty) o ∙ sym (ap (λ (r : Ruling). r.operands) one));
}

pub returns-clause-column : goal.returns-clause-column
returns-clause-column c = λ own n d m o table. column_typed own table n d m o

other_typed : (own : Inferred) (table : TypeTable) → own.dtype ≡ dtype.Int16 → IsTypedNode [] (one_column int8) a_items table 0 own → ⊥
other_typed own table d found =
    let same = one_expression a_items 0 found.tree a found.denotes ([], refl, tt) in
    let typed = subst (λ t. typing [] (one_column int8) t ≡ Ok (typed_of own)) same found.typed in
    let one = ap (λ (t : Typed). t.type) (ok_same _ (typed_of own) (of_type int8) typed refl) in
    let differs : false ≡ true = ap (same_type int8) (sym (ap ty d) ∙ one) in
    cc

pub returns-clause-other_type : goal.returns-clause-other_type
returns-clause-other_type c = λ own n d m o table found. other_typed own table d found

-- a table of one entry keeps that of the first node
only_first : (n : ℕ) (own x : Inferred) → slice_get (Some own ∷ []) n ≡ Some (Some x) → (n ≡ 0) × (own ≡ x)
only_first zero own x h = (refl, cc)
only_first (suc n) own x h = cc

pub returns-clause-something : goal.returns-clause-something
returns-clause-something c = λ own n d m o table first entries. record {
  each = λ k x keeps.
      let place : k - table.first ≡ k = omega (arith, first) in
      let one = only_first k own x (ap (slice_get (Some own ∷ [])) (sym place) ∙ ap (λ l. slice_get l (k - table.first)) (sym entries) ∙ keeps.1) in
      subst (λ (y : Inferred). IsTypedNode [] (one_column int8) a_items table k y) one.1 (subst (λ j. IsTypedNode [] (one_column int8) a_items table j own) (sym one.0) (column_typed own table n d m o));
}

pub returns-clause-of_another_type : goal.returns-clause-of_another_type
returns-clause-of_another_type c = λ own n d m o table first entries right.
    other_typed own table d (right.each 0 own (rw (first, entries) (omega arith, refl)))

pub returns-clause-over_some_schema : goal.returns-clause-over_some_schema
returns-clause-over_some_schema c = λ own n d m o table first entries.
    record { registry = []; schema = one_column int8; right = returns-clause-something c own n d m o table first entries }

column_many : (found : Result Taken ErrorKind) (typed : Typed) → own_typed (ruled_as found true) ≡ Ok typed → typed.many ≡ true
column_many (Err kind) typed h = cc
column_many (Ok taken) typed h = sym (ap (λ (t : Typed). t.many) (ok_same _ (record { type = taken.type; many = true }) typed refl h))

pub returns-clause-over_no_schema : goal.returns-clause-over_no_schema
returns-clause-over_no_schema c = λ own n d m o table first entries has.
    let found = has.right.each 0 own (rw (first, entries) (omega arith, refl)) in
    let same = one_expression a_items 0 found.tree a found.denotes ([], refl, tt) in
    let typed = subst (λ t. typing has.registry has.schema t ≡ Ok (typed_of own)) same found.typed in
    let differs : false ≡ true = sym m ∙ column_many (column_type (type_at has.schema (codes "a"))) (typed_of own) typed in
    cc

pub returns-clause-one_alone : goal.returns-clause-one_alone
returns-clause-one_alone c = λ own n d m o table found.
    let same = one_expression a_items 0 found.tree a found.denotes ([], refl, tt) in
    let typed = subst (λ t. typing [] (one_column int8) t ≡ Ok (typed_of own)) same found.typed in
    let one = ap (λ (t : Typed). t.many) (ok_same _ (typed_of own) (of_type int8) typed refl) in
    let differs : false ≡ true = sym m ∙ one in
    cc

second_op : (op : Op) (inputs : List ℕ) → HoldsExpression sum_items 1 op inputs → ColumnOp (codes "b") ≡ op
second_op op inputs h = cc

pub returns-clause-other_name : goal.returns-clause-other_name
returns-clause-other_name c = λ own n d m o table found.
    let same = one_expression sum_items 2 found.tree sum found.denotes (0 ∷ 1 ∷ [], refl, (([], refl, tt), (([], refl, tt), tt))) in
    let name = subst (λ t. GivesName sum_items own.name.0 t) same found.name in
    let held = subst (λ k. HoldsExpression sum_items k name.op name.inputs) n name.held in
    let e = ap (λ o. op_label o []) (second_op name.op name.inputs held) ∙ name.gives [] (none_over name.inputs) in
    let differs : false ≡ true = ap (λ (l : Label). same_name (codes "a") l.name) e in
    cc

pub returns-clause-node_of_a_sum : goal.returns-clause-node_of_a_sum
returns-clause-node_of_a_sum c = λ left ln ld lm lo right rn rd rm ro own n d m o table first entries.
    let keeps_left : KeepsEntry table 0 left = rw (first, entries) (omega arith, refl) in
    let keeps_right : KeepsEntry table 1 right = rw (first, entries) (omega arith, refl) in
    let known : AllByRecursion (IsKept table) (0 ∷ 1 ∷ []) = (record { own = left; keeps = keeps_left }, (record { own = right; keeps = keeps_right }, tt)) in
    let are : AllKept table (0 ∷ 1 ∷ []) (of_type int8 ∷ of_type int32 ∷ []) = (record { own = left; keeps = keeps_left; is = sym (says left dtype.Int8 true ld lm) }, (record { own = right; keeps = keeps_right; is = sym (says right dtype.Int32 true rd rm) }, tt)) in
    record {
      tree = sum;
      denotes = (0 ∷ 1 ∷ [], refl, (([], refl, tt), (([], refl, tt), tt)));
      typed = ap Ok (says own dtype.Int32 true d m);
      name = record { op = ColumnOp (codes "a"); inputs = []; held = subst (λ k. HoldsExpression sum_items k (ColumnOp (codes "a")) []) (sym n) refl; gives = λ names over. refl };
      inputs = λ op inputs h. subst (AllByRecursion (IsKept table)) (sym (sum_inputs op inputs h)) known;
      operands = λ op inputs typed ruling h kept rules.
          let typings = kept_one table (0 ∷ 1 ∷ []) (of_type int8 ∷ of_type int32 ∷ []) typed are (subst (λ ns. AllKept table ns typed) (sum_inputs op inputs h) kept) in
          let is = ap (rule [] two_columns (BinaryOp Plus)) typings ∙ ap (λ o. rule [] two_columns o typed) (sym (sum_op op inputs h)) ∙ rules in
          let one : ruling ≡ record { operands = int32 ∷ int32 ∷ []; own = of_type int32 } = ok_same _ ruling (record { operands = int32 ∷ int32 ∷ []; own = of_type int32 }) is refl in
          inl (ap (map ty) o ∙ sym (ap (λ (r : Ruling). r.operands) one));
    }

no_types : [] ≡ int32 ∷ int32 ∷ [] → ⊥
no_types e = cc

none_or_apart : (own : Inferred) → own.operands ≡ [] → AreOperands (map ty own.operands) (int8 ∷ int32 ∷ []) (int32 ∷ int32 ∷ []) → ⊥
none_or_apart own none are = ⊎_elim
    (λ e. no_types (sym (ap (map ty) none) ∙ e))
    (λ p. let differs : true ≡ false = ap (same_types (int8 ∷ int32 ∷ [])) p.1 in cc)
    are

pub returns-clause-without_operand_types : goal.returns-clause-without_operand_types
returns-clause-without_operand_types c = λ left ln ld lm lo right rn rd rm ro own n d m o table first entries found.
    let keeps_left : KeepsEntry table 0 left = rw (first, entries) (omega arith, refl) in
    let keeps_right : KeepsEntry table 1 right = rw (first, entries) (omega arith, refl) in
    let are : AllKept table (0 ∷ 1 ∷ []) (of_type int8 ∷ of_type int32 ∷ []) = (record { own = left; keeps = keeps_left; is = sym (says left dtype.Int8 true ld lm) }, (record { own = right; keeps = keeps_right; is = sym (says right dtype.Int32 true rd rm) }, tt)) in
    none_or_apart own o (found.operands (BinaryOp Plus) (0 ∷ 1 ∷ []) (of_type int8 ∷ of_type int32 ∷ []) (record { operands = int32 ∷ int32 ∷ []; own = of_type int32 }) refl are refl)

empty_place : (table : TypeTable) (left own : Inferred) → table.first ≡ 0 → table.entries.items ≡ Some left ∷ None ∷ [] → KeepsEntry table 1 own → ⊥
empty_place table left own first entries keeps =
    let item = keeps.1 in
    cc

pub returns-clause-over_an_input_without : goal.returns-clause-over_an_input_without
returns-clause-over_an_input_without c = λ left ln ld lm lo own n d m o table first entries found.
    let right = (found.inputs (BinaryOp Plus) (0 ∷ 1 ∷ []) refl).1.0 in
    empty_place table left right.own first entries right.keeps
