use Rattle.std.proofs.Common.{◌∙◌, ap, option_map, refl, sym}
use Rattle.plan_exec.specs.ColumnFunctions.{is_kept}
use Rattle.plan_exec.proofs.CountLemmas.{beside_at, disagrees, first_at, none_found, too_at}
use Rattle.plan_exec.proofs.explode.row_counts.Goals as goal
use Rattle.plan_exec.proofs.explode.row_counts.Goals.{then-contains+in-Some+else-not-make_as_many, then-contains+in_default+in_ok-counts_of, else-contains}

pub returns-then-not-make_as_many-clause-err : goal.returns-then-not-make_as_many-clause-err
returns-then-not-make_as_many-clause-err c = λ _.
    let listed = sym c.contains.ensures ∙ c.if-contains.true in
    let found = ap (option_map (λ counts. counts.items)) c.in-Some.is in
    disagrees (is_kept c.args.names.now.keys) c.args.columns.now c.loop-column.column-index c.column-item.result c.loop-column-test.true c.column-item.is (option_map (λ counts. counts.items) c.loop-column.found) c.in-Some.counts.items found listed
    (λ e. let met = c.make_as_many.ensures.1 (e ∙ sym c.as_slice.ensures.value) in let differ = c.if-not-make_as_many.true in cc) c.loop-column.invariant

pub loop-column-preserved : goal.loop-column-preserved
loop-column-preserved c =
    let test = is_kept c.args.names.now.keys in
    let columns = c.args.columns.now in
    let index = c.loop-column.column-index in
    let column = c.column-item.result in
    let before = option_map (λ counts. counts.items) c.loop-column.found in
    let at = c.column-item.is in
    elim c.if-contains.branch [
      | then-contains+in-Some+else-not-make_as_many w ↦
          let listed = sym c.contains.ensures ∙ w.if-contains.true in
          let found = ap (option_map (λ counts. counts.items)) w.in-Some.is in
          let makes = w.make_as_many.ensures.0 w.if-not-make_as_many.false ∙ w.as_slice.ensures.value in
          rw w.found-is (too_at test columns index column c.loop-column-test.true at before w.in-Some.counts.items found listed makes c.loop-column.invariant)
      | then-contains+in_default+in_ok-counts_of w ↦
          let listed = sym c.contains.ensures ∙ w.if-contains.true in
          rw w.found-is (first_at test columns index column c.loop-column-test.true at before _ w.in_ok-counts_of.field-0.items (none_found (λ counts. counts.items) c.loop-column.found w.in_default.not-Some) refl listed w.in_ok-counts_of.ensures.ok c.loop-column.invariant)
      | else-contains w ↦
          let listed = sym c.contains.ensures ∙ w.if-contains.false in
          rw w.found-is (beside_at test columns index column c.loop-column-test.true at before listed c.loop-column.invariant)
    ]
