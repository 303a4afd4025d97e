use Rattle.std.proofs.Common.{◌≡◌, ◌++◌, drop, map}
use Rattle.plan_types.specs.Types.{field_of}
use Rattle.plan_dsl.proofs.function_schema.push_fields.Given as goal

abbrev pub invariant-loop-field : goal.invariant-loop-field
invariant-loop-field l = map field_of l.fields.items ++ map field_of (drop l.field-index l.field-items) ≡ map field_of l.fn.fields.items ++ map field_of l.field-items
