use Rattle.std.proofs.Common.{◌≡◌, map}
use Rattle.plan_types.specs.Schemas.{all_known, columns, column_of}
use Rattle.plan_types.proofs.schema.Schema.is_known.Given as goal

abbrev pub invariant-loop-name : goal.invariant-loop-name
invariant-loop-name l = all_known (columns l.self) ≡ all_known (map column_of l._name-iterator)
