use Rattle.plan_json.proofs.Names.{Some, ap, arith, map, sym, ◌∙◌, leaf_form, list_of, all_of, leaf, leaf_of, leaves_read, read_as, reads_of, map-append}
use Rattle.plan_json.proofs.Lemmas.{item_in, each_read, all_of-more, all_taken}
use Rattle.plan_json.proofs.lists.read_list.Goals as goal

pub loop-number-preserved : goal.loop-number-preserved
loop-number-preserved g c tables =
    all_of-more (leaf_of tables g.T.ListItem.which) c.in-Some.values.now c.loop-number.number _ _ _ c.loop-number-test.true c.index-values-number.is (c.loop-number.invariant tables) (c.in-Ok.ensures.ok tables)
    ∙ ap Some (sym (ap (map g.T.ListItem.seen) c.in_ok-push-in-Ok.ensures.items ∙ map-append g.T.ListItem.seen c.loop-number.list.items _))

pub returns-in_ok-boxed-in-Some-clause-ok : goal.returns-in_ok-boxed-in-Some-clause-ok
returns-in_ok-boxed-in-Some-clause-ok g c tables =
    each_read tables (leaf g.T.ListItem.which) _ _ _ c.in-Some.ensures
    (sym (all_taken (all_of (read_as tables (leaf g.T.ListItem.which))) c.in-Some.values.now c.loop-number.number (omega arith)) ∙ c.loop-number.invariant tables)
    ∙ ap (λ list. Some (leaves_read g.T.ListItem.which (reads_of (map g.T.ListItem.seen list.items)))) (sym c.in_ok-boxed-in-Some.ensures.ok)

pub returns-in-Err-clause-err : goal.returns-in-Err-clause-err
returns-in-Err-clause-err g c = record {
  told = λ names. c.below.ensures (list_of names (leaf g.T.ListItem.which)) (leaf_form names g.T.ListItem.which) _ _
      (item_in (leaf_form names g.T.ListItem.which) _ c.in-Some.values.now c.loop-number.number _ c.in-Some.ensures c.loop-number-test.true c.index-values-number.is) (c.in-Err.ensures.err names);
}
