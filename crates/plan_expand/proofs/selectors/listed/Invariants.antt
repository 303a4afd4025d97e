use Rattle.std.proofs.Common.{◌≡◌, ◌++◌}
use Rattle.plan_expand.proofs.selectors.listed.Given as goal

abbrev pub invariant-loop-name : goal.invariant-loop-name
invariant-loop-name l = record {
  can : (goal.iterator-loop-name).can_next l.name-iterator;
  finite : (goal.iterator-loop-name).is_finite l.name-iterator;
  so_far : l.list.items ++ l.name-iterator ≡ l.fn.names.keys;
}
