use Rattle.std.proofs.Common.{◌≡◌, drop}
use Rattle.plan_types.specs.Schemas.{columns, names_of}
use Rattle.plan_dsl.specs.Markers.{name_at}
use Rattle.plan_dsl.specs.Refusals.{each_ok}
use Rattle.plan_expand.proofs.EachLemmas.{behind}
use Rattle.plan_expand.proofs.markers.names_at.Given as goal

abbrev pub invariant-loop-place : goal.invariant-loop-place
invariant-loop-place l = each_ok (name_at (names_of (columns l.schema))) l.places ≡ behind l.names.items (each_ok (name_at (names_of (columns l.schema))) (drop l.place-index l.places))
