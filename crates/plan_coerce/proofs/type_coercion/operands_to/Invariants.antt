use Rattle.std.proofs.Common.{◌≡◌, map, take, drop}
use Rattle.std.specs.List.{AllByRecursion}
use Rattle.plan_types.specs.Types.{ty}
use Rattle.plan_infer.specs.declared.type_table.Inferred.{Inferred}
use Rattle.plan_arena.specs.Items.{Grows, numbers}
use Rattle.plan_infer.specs.KeptTypes.{IsKept, KeepsEntry}
use Rattle.plan_coerce.specs.Coercion.{AddsNodes, AreChanged}
use Rattle.plan_coerce.specs.Reaching.{AreMadeOnce, Near}
use Rattle.plan_coerce.proofs.type_coercion.operands_to.Given as goal

abbrev pub invariant-loop-index : goal.invariant-loop-index
invariant-loop-index l =
    record {
      grows : Grows l.initial.arena l.arena;
      adds : AddsNodes (λ start roots. AllByRecursion (Near start roots) (numbers l.initial.operands)) l.initial.arena l.arena l.initial.types l.types;
      once : AreMadeOnce l.initial.arena l.arena (take l.index (numbers l.initial.operands)) (numbers (take l.index l.operands));
      kept : AllByRecursion (IsKept l.types) (numbers (take l.index l.operands));
      changed : (own : Inferred) → KeepsEntry l.initial.types l.node.0 own → AreChanged l.initial.arena l.arena l.initial.types (take l.index (numbers l.initial.operands)) (numbers (take l.index l.operands)) (map ty (take l.index own.operands));
      left : drop l.index l.operands ≡ drop l.index l.initial.operands;
    }
