use Rattle.std.proofs.Common.{◌≡◌, drop}
use Rattle.plan_types.specs.Schemas.{type_at}
use Rattle.plan_types.specs.FrameFaults.{heads_of}
use Rattle.plan_types.specs.FrameViews.{columns_of}
use Rattle.plan_types.proofs.frame.Frame.column_named.Given as goal

abbrev pub invariant-loop-column : goal.invariant-loop-column
invariant-loop-column l =
    type_at (heads_of (columns_of l.self)) l.name ≡ type_at (heads_of (drop l.column-index l.column-items)) l.name
