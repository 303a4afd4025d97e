use Rattle.std.proofs.Common.{◌<◌, length, sym, arith}
use Rattle.plan_types.specs.Schemas.{columns}
use Rattle.plan_types.proofs.SchemaLemmas.{schema_has_distinct_names}
use Rattle.plan_dsl.proofs.FunctionSchemaLemmas.{column_there}
use Rattle.plan_lower.proofs.DropLemmas.{kept_at}
use Rattle.plan_lower.proofs.conversion.drops.schema_without.Goals as goal
use Rattle.plan_lower.proofs.conversion.drops.schema_without.Goals.{in-Some+in_ok-put_unless, in_default}

pub loop-index-preserved : goal.loop-index-preserved
loop-index-preserved c =
    let whole = columns c.args.schema.now in
    let within : c.loop-index.index < length whole = omega (arith, c.len-index-end.ensures) in
    elim c.match-get_at_index.branch [
      | in-Some+in_ok-put_unless w ↦ rw w.own-is (kept_at c.args.names.now.keys (columns c.loop-index.own) _ whole c.loop-index.index _ (schema_has_distinct_names c.args.schema.now) (sym w.in-Some.ensures) c.loop-index.invariant w.in_ok-put_unless.ensures.ok)
      | in_default w ↦ absurd (column_there whole c.loop-index.index within (sym w.in_default.ensures))
    ]
