use Rattle.std.proofs.Common.{take}
use Rattle.std.specs.List.{AllByRecursion}
use Rattle.plan_types.specs.Schemas.{columns}
use Rattle.plan_dsl.specs.Registry.{registry}
use Rattle.plan_arena.specs.Items.{numbers}
use Rattle.plan_infer.specs.KeptTypes.{IsKept, IsRight}
use Rattle.plan_infer.proofs.aexpr_field.type_item.Given as goal

abbrev pub invariant-loop-index : goal.invariant-loop-index
invariant-loop-index l = record {
  right : IsRight (registry l.udfs) (columns l.schema) l.arena l.types;
  kept : AllByRecursion (IsKept l.types) (numbers (take l.index l.inputs));
}

abbrev pub ghosts-own_alone : goal.ghosts-own_alone
ghosts-own_alone a = record { name = a.blank.name; parts = a.blank.parts }
