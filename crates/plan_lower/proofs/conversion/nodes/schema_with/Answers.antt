use Rattle.std.proofs.Common.{◌<◌, length, sym, arith}
use Rattle.plan_types.specs.Schemas.{columns}
use Rattle.plan_dsl.proofs.FunctionSchemaLemmas.{column_there}
use Rattle.plan_lower.proofs.RecordedLemmas.{columns_more}
use Rattle.plan_lower.proofs.conversion.nodes.schema_with.Goals as goal
use Rattle.plan_lower.proofs.conversion.nodes.schema_with.Goals.{in-Some+in_ok-put_copy, in_default}

pub loop-index-preserved : goal.loop-index-preserved
loop-index-preserved c =
    let others = columns c.args.others.now in
    let within : c.loop-index.index < length others = omega (arith, c.len-index-end.ensures) in
    elim c.match-get_at_index.branch [
      | in-Some+in_ok-put_copy w ↦ rw w.whole-is (columns_more (columns c.loop-index.whole) _ others _ c.loop-index.index _ (sym w.in-Some.ensures) c.loop-index.invariant w.in_ok-put_copy.ensures.ok)
      | in_default w ↦ absurd (column_there others c.loop-index.index within (sym w.in_default.ensures))
    ]
