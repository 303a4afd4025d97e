use Rattle.std.proofs.Common.{◌≡◌, ◌↔◌, ◌+◌, ◌-◌, ℕ, length}
use Rattle.plan_infer.specs.declared.type_table.Inferred.{Inferred}
use Rattle.plan_infer.specs.KeptTypes.{KeepsEntry, kept_count}
use Rattle.plan_infer.proofs.type_table.TypeTable.make_room.Given as goal

abbrev pub invariant-loop-self : goal.invariant-loop-self
invariant-loop-self l = record {
  first : l.self.first ≡ l.initial.self.first;
  kept : (n : ℕ) (own : Inferred) → KeepsEntry l.initial.self n own ↔ KeepsEntry l.self n own;
  count : kept_count l.self ≡ kept_count l.initial.self;
}

abbrev pub decreases-loop-self : goal.decreases-loop-self
decreases-loop-self l = l.index + 1 - length l.self.entries.items
