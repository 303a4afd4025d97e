use Rattle.std.proofs.Common.{map}
use Rattle.plan_arena.specs.Denotation.{depth_at}
use Rattle.plan_arena.specs.Items.{expression_layer}
use Rattle.plan_arena.specs.Layers.{shape_of}
use Rattle.plan_coerce.proofs.cast_inlining.+told_at.Given as goal

abbrev pub decreases-told_at : goal.decreases-told_at
decreases-told_at l = depth_at (shape_of (map expression_layer l.arena.now)) l.node.0
