use Rattle.std.proofs.Common.{map, ◌*◌, ◌+◌}
use Rattle.plan_arena.specs.Denotation.{depth_at}
use Rattle.plan_arena.specs.Layers.{shape_of}
use Rattle.plan_arena.specs.Items.{expression_layer}
use Rattle.explain.proofs.lowered.Site.+words.Given as goal

abbrev pub decreases-words : goal.decreases-words
decreases-words l = 2 * depth_at (shape_of (map expression_layer l.self.now.arena.now)) l.node.0

abbrev pub decreases-typed : goal.decreases-typed
decreases-typed l = 2 * depth_at (shape_of (map expression_layer l.self.now.arena.now)) l.node.0 + 1
