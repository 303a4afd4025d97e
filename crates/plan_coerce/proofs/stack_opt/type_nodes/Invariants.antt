use Rattle.std.proofs.Common.{take}
use Rattle.std.specs.List.{AllByRecursion}
use Rattle.plan_types.specs.Schemas.{columns}
use Rattle.plan_dsl.specs.Registry.{registry}
use Rattle.plan_arena.specs.Items.{numbers}
use Rattle.plan_infer.specs.KeptTypes.{Extends, IsRight}
use Rattle.plan_coerce.specs.Optimizer.{HasTyping}
use Rattle.plan_coerce.proofs.stack_opt.type_nodes.Given as goal

abbrev pub invariant-loop-node : goal.invariant-loop-node
invariant-loop-node g l = record {
  typed : AllByRecursion (HasTyping (registry l.udfs) (columns l.schema) l.arena) (numbers (take l.node-index l.nodes));
  right : IsRight (registry l.udfs) (columns l.schema) l.arena l.types;
  kept : Extends l.initial.types l.types;
}
