use Rattle.std.proofs.Common.{◌+◌, ◌*◌, true, map, take}
use Rattle.std.specs.List.{AllByRecursion}
use Rattle.plan_arena.specs.Denotation.{depth_at, greatest}
use Rattle.plan_arena.specs.Layers.{shape_of}
use Rattle.plan_arena.specs.Items.{expression_layer}
use Rattle.plan_properties.specs.Asking.{SaysOfNode, holds_of}
use Rattle.plan_properties.proofs.asked.+asking.Given as goal

abbrev pub decreases-holds_of : goal.decreases-holds_of
decreases-holds_of l = 2 * depth_at (shape_of (map expression_layer l.arena.now)) l.node.0

abbrev pub decreases-holds_of_all : goal.decreases-holds_of_all
decreases-holds_of_all l = 2 * greatest (depth_at (shape_of (map expression_layer l.arena.now))) l.inputs.now + 1

abbrev pub invariant-holds_of_all-loop-index : goal.invariant-holds_of_all-loop-index
invariant-holds_of_all-loop-index l = AllByRecursion (λ n. SaysOfNode l.arena n (holds_of l.asked) true) (take l.index l.inputs)
