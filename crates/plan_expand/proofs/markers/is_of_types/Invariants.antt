use Rattle.std.proofs.Common.{◌≡◌, drop, map}
use Rattle.std.specs.List.{list_any}
use Rattle.plan_types.specs.Schemas.{columns}
use Rattle.plan_types.specs.Types.{ty}
use Rattle.plan_expand.specs.Names.{is_of_type}
use Rattle.plan_expand.proofs.markers.is_of_types.Given as goal

abbrev pub invariant-loop-own : goal.invariant-loop-own
invariant-loop-own l = list_any (is_of_type (columns l.schema) l.name) (map (λ dtype. ty dtype.now) l.types) ≡ list_any (is_of_type (columns l.schema) l.name) (map (λ dtype. ty dtype.now) (drop l.own-index l.types))
