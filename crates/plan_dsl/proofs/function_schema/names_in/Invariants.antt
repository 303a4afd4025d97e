use Rattle.std.proofs.Common.{◌≡◌, ◌||◌, drop}
use Rattle.plan_types.specs.Schemas.{Name, is_among}
use Rattle.plan_dsl.proofs.FunctionSchemaLemmas.{has_name}
use Rattle.plan_dsl.proofs.function_schema.names_in.Given as goal

abbrev pub invariant-loop-name : goal.invariant-loop-name
invariant-loop-name l = (name : Name) → (has_name l.set.keys name || is_among name (drop l.name-index l.names)) ≡ is_among name l.names
