use Rattle.std.proofs.Common.{◌≡◌, ◌≤◌, take}
use Rattle.plan_infer.specs.KeptTypes.{some_count}
use Rattle.plan_infer.proofs.type_table.TypeTable.len.Given as goal

abbrev pub invariant-loop-index : goal.invariant-loop-index
invariant-loop-index l = record {
  counted : l.count ≡ some_count (take l.index l.entries);
  least : l.count ≤ l.index;
}
