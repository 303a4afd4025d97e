use Rattle.std.proofs.Common.{◌≡◌, ◌⊎◌, ◌+◌, ◌<◌, ℕ, map, take}
use Rattle.std.specs.List.{AllByRecursion}
use Rattle.plan_types.specs.Schemas.{columns}
use Rattle.plan_dsl.specs.Registry.{registry}
use Rattle.plan_arena.specs.Denotation.{depth_at}
use Rattle.plan_arena.specs.Layers.{shape_of}
use Rattle.plan_arena.specs.Items.{expression_layer}
use Rattle.plan_infer.specs.KeptTypes.{Extends, IsKept, IsRight, kept_count, node_depth}
use Rattle.plan_infer.proofs.typing.+type_node.Given as goal

abbrev pub decreases-type_node : goal.decreases-type_node
decreases-type_node g l = depth_at (shape_of (map expression_layer l.arena.now)) l.node.0

abbrev pub invariant-loop-index : goal.invariant-loop-index
invariant-loop-index g l = record {
  right : IsRight (registry l.udfs) (columns l.schema) l.arena l.types;
  extends : Extends l.initial.types l.types;
  kept : AllByRecursion (IsKept l.types) (take l.index l.inputs);
  below : (n : ℕ) → IsKept l.types n → IsKept l.initial.types n ⊎ (node_depth l.arena n < node_depth l.arena l.node.0);
  counted : l.typings + kept_count l.initial.types ≡ l.initial.typings + kept_count l.types;
}
