use Rattle.plan_types.specs.Schemas.{columns}
use Rattle.plan_dsl.specs.Registry.{registry}
use Rattle.plan_infer.proofs.TableLemmas.{right_start}
use Rattle.own_rule.proofs.relax.relax_casts.Goals as goal

pub infer-requires-clause-right : goal.infer-requires-clause-right
infer-requires-clause-right c = right_start (registry c.args.udfs.now) (columns c.args.schema.now) c.args.arena.now c.new-types.result c.new-types.ensures
