use Rattle.std.proofs.Common.{◌<◌, ◌∙◌, ap, arith, length, sym}
use Rattle.std.specs.Vec.Iter.{into_iter_items, into_iter_len}
use Rattle.plan_types.specs.ValueViews.{val_of}
use Rattle.plan_exec.proofs.PartedLemmas.{IsTaken, left_next, none_taken, parts_left, row_next, some_taken, value_next}
use Rattle.plan_exec.proofs.unnest.next_of_each.Goals as goal
use Rattle.plan_exec.proofs.unnest.next_of_each.Goals.{in-Some, in-None}

pub loop-row-preserved : goal.loop-row-preserved
loop-row-preserved c =
    let before = c.args.rows.now.items in
    let now = c.loop-row.row-items in
    let index = c.loop-row.row-index in
    let row = c.row-item.result in
    let later = c.next.new.self in
    let within : index < length now = omega (arith, c.loop-row-test.true, c.loop-row.auto.row-items) in
    let left = c.loop-row.invariant.left in
    let taken : IsTaken row later (val_of c.match-next.value) = elim c.match-next.branch [
      | in-Some w ↦ rw w.value-is (some_taken row later w.in-Some.value (ap into_iter_items c.row-item.is ∙ w.in-Some.ensures.items))
      | in-None w ↦ rw w.value-is (none_taken row later (ap into_iter_items c.row-item.is ∙ w.in-None.ensures.items) (sym row.rest.ok.0 ∙ ap into_iter_len c.row-item.is ∙ w.in-None.ensures.cases.0))
    ] in
    record {
      values = value_next parts_left before now index row within c.row-item.is left c.loop-row.values.items c.push.new.self.items c.match-next.value c.in_ok-push.ensures.items taken.0 c.loop-row.invariant.values;
      done = row_next parts_left before now index row within c.row-item.is left later taken.1 c.loop-row.invariant.done;
      left = left_next parts_left before now index row within c.row-item.is left later;
    }
