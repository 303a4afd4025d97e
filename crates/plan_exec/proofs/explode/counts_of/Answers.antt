use Rattle.plan_types.specs.FrameFaults.{vals_of}
use Rattle.plan_types.specs.ValueViews.{val_of}
use Rattle.plan_exec.proofs.ItemLemmas.{one_counted}
use Rattle.plan_exec.proofs.explode.counts_of.Goals as goal

pub loop-row-preserved : goal.loop-row-preserved
loop-row-preserved c =
    one_counted (vals_of c.args.values.now) c.loop-row.counts.items _ c.loop-row.row (val_of c.value_at.result.now) c.row_count.result c.value_at.ensures c.loop-row.invariant c.in_ok-push.ensures.items c.row_count.ensures
