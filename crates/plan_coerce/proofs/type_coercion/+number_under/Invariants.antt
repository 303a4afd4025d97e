use Rattle.std.proofs.Common.{map}
use Rattle.plan_arena.specs.Denotation.{depth_at}
use Rattle.plan_arena.specs.Layers.{shape_of}
use Rattle.plan_arena.specs.Items.{expression_layer}
use Rattle.plan_coerce.proofs.type_coercion.+number_under.Given as goal

abbrev pub decreases-number_under : goal.decreases-number_under
decreases-number_under l = depth_at (shape_of (map expression_layer l.arena.now)) l.node.0
