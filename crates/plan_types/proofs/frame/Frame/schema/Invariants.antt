use Rattle.std.proofs.Common.{◌≡◌, ◌++◌, drop}
use Rattle.plan_types.specs.Schemas.{columns}
use Rattle.plan_types.specs.FrameFaults.{heads_of}
use Rattle.plan_types.specs.FrameViews.{columns_of}
use Rattle.plan_types.proofs.frame.Frame.schema.Given as goal

abbrev pub invariant-loop-column : goal.invariant-loop-column
invariant-loop-column l = columns l.schema ++ heads_of (drop l.column-index l.column-items) ≡ heads_of (columns_of l.self)
