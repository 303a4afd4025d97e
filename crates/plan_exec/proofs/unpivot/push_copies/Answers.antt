use Rattle.std.proofs.Common.{map, sym}
use Rattle.std.proofs.lemmas.Option.{get_or_from_slice_get, slice_get_within}
use Rattle.plan_types.specs.FrameFaults.{vals_of}
use Rattle.plan_types.specs.ValueViews.{val_of}
use Rattle.plan_exec.proofs.UnpivotCallLemmas.{value_more}
use Rattle.plan_exec.proofs.unpivot.push_copies.Goals as goal

pub loop-row-preserved : goal.loop-row-preserved
loop-row-preserved c =
    let values = vals_of c.args.values.now in
    let row = c.loop-row.row in
    let value = val_of c.value_at.result.now in
    value_more (λ value. value) values (map val_of c.args.made.now.items) c.loop-row.made.items c.push.new.self.items row value value c.in_ok-copy.copy (slice_get_within values row value c.value_at.ensures) (sym (get_or_from_slice_get values row value value c.value_at.ensures)) c.loop-row.invariant c.in_ok-push.ensures.items c.in_ok-copy.ensures.ok
