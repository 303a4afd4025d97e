-- Frames as the code keeps them.
use Rattle.std.specs.Prelude.{List}
use Rattle.plan_types.specs.Frames.{Frame as Framed}
use Rattle.plan_types.specs.FrameFaults.{framed}
use Rattle.plan_types.specs.declared.column.Column.{Column}
use Rattle.plan_types.specs.declared.frame.Frame.{Frame}

-- the columns of a frame, in order
abbrev pub columns_of : Frame → List Column
columns_of frame = frame.columns.items

-- the schema and the rows of a frame
abbrev pub frame_of : Frame → Framed
frame_of frame = framed (columns_of frame)
