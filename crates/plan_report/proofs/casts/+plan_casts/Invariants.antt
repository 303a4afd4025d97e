use Rattle.std.proofs.Common.{map}
use Rattle.plan_arena.specs.Denotation.{depth_at}
use Rattle.plan_arena.specs.Layers.{shape_of}
use Rattle.plan_arena.specs.Items.{plan_layer}
use Rattle.plan_report.proofs.casts.+plan_casts.Given as goal

abbrev pub decreases-plan_casts : goal.decreases-plan_casts
decreases-plan_casts l = depth_at (shape_of (map plan_layer l.plan.now.lp_arena)) l.node.0
