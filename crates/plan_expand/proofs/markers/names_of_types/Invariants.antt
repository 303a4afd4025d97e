use Rattle.std.proofs.Common.{◌≡◌, ◌++◌, drop, map}
use Rattle.plan_types.specs.Schemas.{columns}
use Rattle.plan_types.specs.Types.{ty}
use Rattle.plan_dsl.specs.Markers.{names_of_types, without}
use Rattle.plan_expand.proofs.markers.names_of_types.Given as goal

abbrev pub invariant-loop-index : goal.invariant-loop-index
invariant-loop-index l = l.names.items ++ without l.keys.keys (names_of_types (drop l.index (columns l.schema)) (map ty l.types)) ≡ without l.keys.keys (names_of_types (columns l.schema) (map ty l.types))
