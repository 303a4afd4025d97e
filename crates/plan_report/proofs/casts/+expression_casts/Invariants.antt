use Rattle.std.proofs.Common.{map}
use Rattle.plan_arena.specs.Denotation.{depth_at}
use Rattle.plan_arena.specs.Layers.{shape_of}
use Rattle.plan_arena.specs.Items.{expression_layer}
use Rattle.plan_report.proofs.CastLemmas.{CountsUpTo}
use Rattle.plan_report.proofs.casts.+expression_casts.Given as goal

abbrev pub decreases-expression_casts : goal.decreases-expression_casts
decreases-expression_casts l = depth_at (shape_of (map expression_layer l.arena.now)) l.node.0

abbrev pub invariant-loop-index : goal.invariant-loop-index
invariant-loop-index l = CountsUpTo l.arena l.inputs l.index l.initial.count l.count
