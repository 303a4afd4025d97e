use Rattle.std.proofs.Common.{◌<◌, length, map, sym, arith}
use Rattle.plan_types.specs.Schemas.{columns}
use Rattle.plan_types.specs.Types.{field_of}
use Rattle.plan_dsl.proofs.FunctionSchemaLemmas.{column_there, exploded_more}
use Rattle.plan_dsl.proofs.function_schema.exploded_fields.Goals as goal
use Rattle.plan_dsl.proofs.function_schema.exploded_fields.Goals.{in-Some+in_ok-push_column, in_default}

pub loop-index-preserved : goal.loop-index-preserved
loop-index-preserved c =
    let whole = columns c.args.schema.now in
    let within : c.loop-index.index < length whole = omega (arith, c.len-index-end.ensures) in
    elim c.match-get_at_index.branch [
      | in-Some+in_ok-push_column w ↦ rw w.fields-is (exploded_more c.args.names.now _ (map field_of c.loop-index.fields.items) _ whole c.loop-index.index _ _ (sym w.in-Some.ensures) (c.in_ok-names.ensures.ok w.in-Some.name.now) w.exploded_dtype-dtype.ensures w.in_ok-push_column.ensures.ok c.loop-index.invariant)
      | in_default w ↦ absurd (column_there whole c.loop-index.index within (sym w.in_default.ensures))
    ]
