use Rattle.std.proofs.Common.{◌≡◌, ◌<◌, length, unwrap_or, sym, arith}
use Rattle.plan_types.specs.Schemas.{columns}
use Rattle.plan_dsl.specs.TableRules.{new_name}
use Rattle.plan_dsl.proofs.FunctionSchemaLemmas.{column_there}
use Rattle.plan_dsl.proofs.FunctionTypeLemmas.{own_found, own_kept, renamed_more}
use Rattle.plan_dsl.proofs.function_schema.renamed_fields.Goals as goal
use Rattle.plan_dsl.proofs.function_schema.renamed_fields.Goals.{in-Some+in_ok-push_column, in-Some-get, in-None, in_default}

pub loop-index-preserved : goal.loop-index-preserved
loop-index-preserved c =
    let existing = c.args.existing.now in
    let new = c.args.new.now in
    let whole = columns c.args.schema.now in
    let entries = c.in_ok-names.names.entries in
    let says = c.in_ok-names.ensures.ok in
    let within : c.loop-index.index < length whole = omega (arith, c.loop-index-test.true, c.len-index-end.ensures) in
    elim c.match-get_at_index.branch [
      | in-Some+in_ok-push_column w ↦
          let name = w.in-Some.name.now in
          let own : w.match-get.own.now ≡ unwrap_or (new_name existing new name) name =
          elim w.match-get.branch [ in-Some-get v ↦ rw v.own-is (own_found entries existing new says name _ v.in-Some-get.ensures.value) | in-None v ↦ rw v.own-is (own_kept entries existing new says name v.in-None.ensures.value) ] in
          rw w.fields-is (renamed_more existing new _ _ whole _ c.loop-index.index _ _ (sym w.in-Some.ensures) own w.in_ok-push_column.ensures.ok c.loop-index.invariant)
      | in_default w ↦ absurd (column_there whole c.loop-index.index within (sym w.in_default.ensures))
    ]
