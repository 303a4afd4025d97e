use Rattle.std.proofs.Common.{◌≡◌, drop}
use Rattle.plan_types.specs.Types.{fields_in}
use Rattle.plan_dsl.specs.FunctionTypes.{field_type}
use Rattle.plan_infer.proofs.function_types.field_type.Given as goal

abbrev pub invariant-loop-field : goal.invariant-loop-field
invariant-loop-field l = field_type l.name (fields_in l.fields) ≡ field_type l.name (fields_in (drop l.field-index l.fields))
