use Rattle.plan_json.proofs.Names.{Some, ap, arith, sym, ◌∙◌, a_column, column_list, all_of, columns, names_of, repeats, column_of, IsNewName-test, is_among-type_at, with_column-new}
use Rattle.plan_json.proofs.Lemmas.{columns_all, column_repeated, IsErrorOf-own, item_in, all_of-more, all_taken, names_apart}
use Rattle.plan_json.proofs.ReaderLemmas.{read, told}
use Rattle.plan_json.proofs.columns.read_columns.Goals as goal

pub returns-then-before : goal.returns-then-before
returns-then-before c =
    told (let there = sym c.in-Ok-put.ensures.before ∙ c.if-before.true in
    IsErrorOf-own column_list _ _ _ c.shape-then-before.ensures
    (column_repeated _ c.in-Some.items.now c.loop-number.number _ _ _ c.in-Some.ensures c.loop-number-test.true c.index-items-number.is c.loop-number.invariant.read c.in-Ok.ensures.ok there))

pub loop-number-preserved : goal.loop-number-preserved
loop-number-preserved c =
    let cs = columns c.loop-number.schema in
    let apart = is_among-type_at cs _ ∙ sym c.in-Ok-put.ensures.before ∙ c.if-before.false in
    let all = c.in-Ok-put.ensures.ok ∙ with_column-new cs _ _ (IsNewName-test cs _ apart) in
    record {
      read = all_of-more column_of c.in-Some.items.now c.loop-number.number _ _ _ c.loop-number-test.true c.index-items-number.is c.loop-number.invariant.read c.in-Ok.ensures.ok ∙ ap Some (sym all);
      distinct = ap (λ cs. repeats (names_of cs)) all ∙ names_apart cs _ apart c.loop-number.invariant.distinct;
    }

pub returns-after-loop-number : goal.returns-after-loop-number
returns-after-loop-number c =
    read (columns_all _ _ _ c.in-Some.ensures (sym (all_taken (all_of column_of) c.in-Some.items.now c.loop-number.number (omega arith)) ∙ c.loop-number.invariant.read) c.loop-number.invariant.distinct)

pub returns-in-Err : goal.returns-in-Err
returns-in-Err c =
    told (c.below.ensures column_list a_column _ _
    (item_in a_column _ c.in-Some.items.now c.loop-number.number _ c.in-Some.ensures c.loop-number-test.true c.index-items-number.is) c.in-Err.ensures.err)
