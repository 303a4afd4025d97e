use Rattle.std.proofs.Common.{map}
use Rattle.plan_types.specs.Schemas.{columns}
use Rattle.plan_types.specs.Types.{ty}
use Rattle.plan_expand.proofs.MarkerLemmas.{no_type}
use Rattle.plan_expand.proofs.markers.is_of_types.Goals as goal

pub returns-in_default : goal.returns-in_default
returns-in_default c = no_type (columns c.args.schema.now) c.args.name.now (map (λ dtype. ty dtype.now) c.args.types.now) c.in_default.ensures
