use Rattle.plan_types.specs.Schemas.{columns}
use Rattle.plan_types.specs.FrameFaults.{heads_of}
use Rattle.plan_types.specs.FrameViews.{columns_of}
use Rattle.plan_types.proofs.FrameCallLemmas.{copied_head, sound_is_frame}
use Rattle.plan_types.proofs.frame.Frame.schema.Goals as goal

pub loop-column-preserved : goal.loop-column-preserved
loop-column-preserved c =
    let frame = sound_is_frame c.args.self.now.columns.items c.args.self.now.sound in
    rw c.in_ok-add_head.ensures.ok (copied_head (columns c.loop-column.schema) c.as_slice-column-items.result.now c.loop-column.column-index c.column-item.result (heads_of (columns_of c.args.self.now)) frame.distinct c.loop-column-test.true c.column-item.is c.loop-column.invariant)
