use Rattle.plan_json.proofs.Names.{Some, ap, arith, length, length-append, sym, ◌+◌, ◌∙◌, a_table, table_list, all_of, names_of, repeats, declared, table_of}
use Rattle.plan_json.proofs.Lemmas.{tables_too_many, tables_all, table_next, IsErrorOf-own, all_of-more, all_taken, names_apart}
use Rattle.plan_json.proofs.ReaderLemmas.{read, told}
use Rattle.plan_json.proofs.declarations.read_tables.Goals as goal

pub returns-then-values : goal.returns-then-values
returns-then-values c =
    told (IsErrorOf-own table_list _ _ _ c.shape-then-values.ensures
    (tables_too_many _ c.in-Some.values.now c.in-Some.ensures c.if-values.true))

pub loop-number-preserved : goal.loop-number-preserved
loop-number-preserved c =
    let all = c.in_ok-push-in-Ok.ensures.ok in
    record {
      read = all_of-more table_of c.in-Some.values.now c.loop-number.number _ _ _ c.loop-number-test.true c.index-values-number.is c.loop-number.invariant.read c.in-Ok.ensures.ok ∙ ap Some (sym all);
      count = ap length all ∙ length-append (declared c.loop-number.tables) _ ∙ ap (λ n. n + 1) c.loop-number.invariant.count;
      distinct = ap (λ ts. repeats (names_of ts)) all ∙ names_apart (declared c.loop-number.tables) _ c.in-Ok.ensures.new c.loop-number.invariant.distinct;
    }

pub returns-after-loop-number : goal.returns-after-loop-number
returns-after-loop-number c =
    read (tables_all _ c.in-Some.values.now _ c.in-Some.ensures c.if-values.false
    (sym (all_taken (all_of table_of) c.in-Some.values.now c.loop-number.number (omega arith)) ∙ c.loop-number.invariant.read) c.loop-number.invariant.distinct)

pub returns-in-Err : goal.returns-in-Err
returns-in-Err c =
    told (c.below.ensures table_list (a_table (names_of (declared c.loop-number.tables))) _ _
    (table_next _ c.in-Some.values.now c.loop-number.number _ _ c.in-Some.ensures c.loop-number-test.true c.index-values-number.is c.loop-number.invariant.read) c.in-Err.ensures.err)
