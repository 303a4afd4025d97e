use Rattle.std.proofs.Common.{◌<◌, length, sym, ap, ◌∙◌, arith}
use Rattle.std.specs.Option.{option_map}
use Rattle.plan_types.specs.Schemas.{columns}
use Rattle.plan_types.specs.Types.{ty}
use Rattle.plan_dsl.proofs.FunctionSchemaLemmas.{column_there}
use Rattle.plan_dsl.proofs.FunctionTypeLemmas.{beside_next, beside_passed}
use Rattle.plan_dsl.proofs.function_schema.type_beside.Goals as goal
use Rattle.plan_dsl.proofs.function_schema.type_beside.Goals.{in-Some+then-not-contains+in_ok-common+in-Some-2, in-Some+else-not-contains, in_default}

pub returns-in-None-clause-ok : goal.returns-in-None-clause-ok
returns-in-None-clause-ok c =
    let apart = sym (c.in_ok-set.ensures.ok c.in-Some.name.now) ∙ sym c.contains.ensures ∙ c.if-not-contains.true in
    beside_next c.args.names.now (columns c.args.schema.now) c.loop-index.index _ (sym c.in-Some.ensures) (ty c.loop-index.found) _ c.loop-index.invariant _ apart (sym (ap (option_map ty) c.in-None.is) ∙ c.in_ok-common.ensures.ok)

pub loop-index-preserved : goal.loop-index-preserved
loop-index-preserved c =
    let names = c.args.names.now in
    let whole = columns c.args.schema.now in
    let i = c.loop-index.index in
    let found = ty c.loop-index.found in
    let says = c.in_ok-set.ensures.ok in
    let within : i < length whole = omega (arith, c.loop-index-test.true, c.len-index-end.ensures) in
    elim c.match-get_at_index.branch [
      | in-Some+then-not-contains+in_ok-common+in-Some-2 w ↦ rw w.found-is (beside_next names whole i _ (sym w.in-Some.ensures) found _ c.loop-index.invariant _ (sym (says w.in-Some.name.now) ∙ sym w.contains.ensures ∙ w.if-not-contains.true) (sym (ap (option_map ty) w.in-Some-2.is) ∙ w.in_ok-common.ensures.ok))
      | in-Some+else-not-contains w ↦ rw w.found-is (beside_passed names whole i _ (sym w.in-Some.ensures) found _ c.loop-index.invariant (sym (says w.in-Some.name.now) ∙ sym w.contains.ensures ∙ w.if-not-contains.false))
      | in_default w ↦ absurd (column_there whole i within (sym w.in_default.ensures))
    ]
