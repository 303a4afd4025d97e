use Rattle.std.proofs.Common.{map}
use Rattle.plan_arena.specs.Denotation.{depth_at}
use Rattle.plan_arena.specs.Layers.{shape_of}
use Rattle.plan_arena.specs.Items.{expression_layer}
use Rattle.plan_arena.proofs.names.+output_name.Given as goal

abbrev pub decreases-output_name : goal.decreases-output_name
decreases-output_name l = depth_at (shape_of (map expression_layer l.arena.now)) l.node.0
