use Rattle.plan_types.specs.Schemas.{columns}
use Rattle.plan_dsl.specs.Registry.{registry}
use Rattle.plan_infer.proofs.TableLemmas.{right_start}
use Rattle.plan_lower.proofs.conversion.groups.aggregate_in.Goals as goal

pub aggregate_coerced-requires : goal.aggregate_coerced-requires
aggregate_coerced-requires c = record {
  plain = c.requires.plain;
  right = right_start (registry c.args.udfs.now) (columns c.args.schema.now) c.args.arena.now c.args.types c.requires.empty;
}
