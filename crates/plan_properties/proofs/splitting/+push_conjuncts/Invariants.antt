use Rattle.std.proofs.Common.{map}
use Rattle.plan_arena.specs.Denotation.{depth_at}
use Rattle.plan_arena.specs.Items.{expression_layer}
use Rattle.plan_arena.specs.Layers.{shape_of}
use Rattle.plan_properties.proofs.splitting.+push_conjuncts.Given as goal

abbrev pub decreases-push_conjuncts : goal.decreases-push_conjuncts
decreases-push_conjuncts l = depth_at (shape_of (map expression_layer l.arena.now)) l.node.0
