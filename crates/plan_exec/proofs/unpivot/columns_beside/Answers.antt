use Rattle.std.proofs.Common.{◌≤◌, ◌∙◌, ap, arith, filter, length, map, not, refl, sym}
use Rattle.std.proofs.lemmas.List.{take_all}
use Rattle.plan_types.specs.FrameFaults.{shown}
use Rattle.plan_types.specs.Schemas.{is_among}
use Rattle.plan_exec.proofs.UnpivotCallLemmas.{beside_more, beside_passed}
use Rattle.plan_exec.proofs.unpivot.columns_beside.Goals.{then-not-contains+in_ok-push, else-not-contains}
use Rattle.plan_exec.proofs.unpivot.columns_beside.Goals as goal

pub loop-column-preserved : goal.loop-column-preserved
loop-column-preserved c =
    let says = sym (c.in_ok-names.ensures.ok c.column-item.result.name) ∙ sym c.contains.ensures in
    let names = c.args.names.now in
    let columns = c.args.columns.now in
    let i = c.loop-column.column-index in
    let column = c.column-item.result in
    let found = c.loop-column.found.items in
    elim c.if-not-contains.branch [
      | then-not-contains+in_ok-push w ↦ rw w.found-is (beside_more names columns i column c.loop-column-test.true c.column-item.is found c.loop-column.invariant w.push.new.self.items _ refl (says ∙ w.if-not-contains.true) w.in_ok-push.ensures.items)
      | else-not-contains w ↦ rw w.found-is (beside_passed names columns i column c.loop-column-test.true c.column-item.is found c.loop-column.invariant (says ∙ w.if-not-contains.false))
    ]

pub returns-clause-ok : goal.returns-clause-ok
returns-clause-ok c =
    let past : length c.args.columns.now ≤ c.loop-column.column-index = omega (arith, c.loop-column-test.false) in
    c.loop-column.invariant ∙ ap (λ columns. filter (λ column. not (is_among column.0.0 c.args.names.now)) (map shown columns)) (take_all c.loop-column.column-index c.args.columns.now past)
