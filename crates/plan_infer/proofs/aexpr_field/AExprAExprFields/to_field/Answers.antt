use Rattle.plan_types.specs.Schemas.{columns}
use Rattle.plan_dsl.specs.Registry.{registry}
use Rattle.plan_infer.proofs.TableLemmas.{right_start}
use Rattle.plan_infer.proofs.aexpr_field.AExprAExprFields.to_field.Goals as goal

pub type_item-requires-clause-right : goal.type_item-requires-clause-right
type_item-requires-clause-right c = right_start (registry c.args.udfs.now) (columns c.args.schema.now) c.args.arena.now c.new-types.result c.new-types.ensures
