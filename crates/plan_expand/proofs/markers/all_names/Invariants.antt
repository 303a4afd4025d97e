use Rattle.std.proofs.Common.{◌≡◌, ◌++◌}
use Rattle.plan_types.specs.Schemas.{columns, names_of}
use Rattle.plan_dsl.specs.Markers.{without}
use Rattle.plan_expand.proofs.markers.all_names.Given as goal

abbrev pub invariant-loop-name : goal.invariant-loop-name
invariant-loop-name l = l.names.items ++ without l.keys.keys l.name-iterator ≡ without l.keys.keys (names_of (columns l.schema))
