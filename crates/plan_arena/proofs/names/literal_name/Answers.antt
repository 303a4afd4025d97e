use Rattle.std.proofs.Common.{ap}
use Rattle.std.specs.Str.{chars}
use Rattle.plan_dsl.specs.Names.{literal_label}
use Rattle.plan_arena.proofs.names.literal_name.Goals as goal

pub returns-clause-ok : goal.returns-clause-ok
unfolding chars
returns-clause-ok c = ap literal_label c.in_ok-name.ensures.ok
