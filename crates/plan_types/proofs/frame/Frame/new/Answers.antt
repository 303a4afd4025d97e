use Rattle.std.proofs.Common.{rules}
use Rattle.plan_types.proofs.FrameCallLemmas.{framed_is_frame}
use Rattle.plan_types.proofs.frame.Frame.new.Goals as goal

pub returns-clause-frame : goal.returns-clause-frame
returns-clause-frame c = framed_is_frame c.args.columns.items (search rules)
