use Rattle.std.proofs.Common.{◌≡◌, ◌+◌, Option, None, length}
use Rattle.std.specs.List.{AllByRecursion}
use Rattle.plan_infer.specs.declared.type_table.Inferred.{Inferred}
use Rattle.plan_infer.proofs.type_table.TypeTable.make_front.Given as goal

abbrev pub invariant-loop-place : goal.invariant-loop-place
invariant-loop-place l = record {
  none : AllByRecursion (λ (o : Option Inferred). o ≡ None) l.entries.items;
  count : l.first + length l.entries.items ≡ l._place;
}
