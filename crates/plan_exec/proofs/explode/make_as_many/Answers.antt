use Rattle.std.proofs.Common.{sym, ◌∙◌}
use Rattle.std.proofs.lemmas.List.{take_more}
use Rattle.plan_types.specs.FrameFaults.{vals_of}
use Rattle.plan_types.specs.ValueViews.{val_of}
use Rattle.plan_exec.proofs.ItemLemmas.{one_counted}
use Rattle.plan_exec.proofs.explode.make_as_many.Goals as goal

pub loop-row-preserved : goal.loop-row-preserved
loop-row-preserved c =
    sym (one_counted (vals_of c.args.values.now) _ _ c.loop-row.row (val_of c.value_at.result.now) _ c.value_at.ensures (sym c.loop-row.invariant) (take_more c.args.counts.now c.loop-row.row 0 c.loop-row-test.true) (sym c.if-row_count-counts.false ∙ c.row_count.ensures))
