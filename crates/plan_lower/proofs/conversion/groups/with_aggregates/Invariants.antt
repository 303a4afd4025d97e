use Rattle.std.proofs.Common.{◌≡◌, ◌++◌, map, drop}
use Rattle.plan_types.specs.Schemas.{columns, names_of}
use Rattle.plan_lower.proofs.GroupLemmas.{AreInGroups, name_at}
use Rattle.plan_lower.proofs.conversion.groups.with_aggregates.Given as goal

abbrev pub invariant-loop-expr : goal.invariant-loop-expr
invariant-loop-expr l = record {
  so_far : AreInGroups l.types l.expr-items l.expr-index (columns l.fn.keys) (columns l.whole);
  names : names_of (columns l.whole) ++ drop l.expr-index (map name_at l.expr-items) ≡ names_of (columns l.fn.keys) ++ map name_at l.expr-items;
}
