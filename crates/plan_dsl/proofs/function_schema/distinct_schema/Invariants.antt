use Rattle.std.proofs.Common.{◌≡◌, ◌++◌, map}
use Rattle.std.specs.Vec.Iter.{into_iter_items}
use Rattle.plan_types.specs.Schemas.{columns}
use Rattle.plan_types.specs.Types.{field_of}
use Rattle.plan_dsl.proofs.function_schema.distinct_schema.Given as goal

abbrev pub invariant-loop-field : goal.invariant-loop-field
invariant-loop-field l = record {
  can : (goal.iterator-loop-field).can_next l.field-iterator;
  finite : (goal.iterator-loop-field).is_finite l.field-iterator;
  so_far : columns l.schema ++ map field_of (into_iter_items l.field-iterator) ≡ map field_of l.fn.fields.items;
}
