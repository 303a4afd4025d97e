use Rattle.std.proofs.Common.{◌<◌, ◌++◌, ◌∷◌, [], length, map, sym, ap, ◌∙◌, arith}
use Rattle.std.proofs.lemmas.Bool.{cond-true, cond-false}
use Rattle.plan_types.specs.Schemas.{columns}
use Rattle.plan_types.specs.Types.{ty}
use Rattle.plan_dsl.proofs.FunctionSchemaLemmas.{column_there}
use Rattle.plan_expand.proofs.MarkerLemmas.{wanted_at}
use Rattle.plan_expand.proofs.markers.names_of_types.Goals as goal
use Rattle.plan_expand.proofs.markers.names_of_types.Goals.{in-Some+then-is_wanted+in_ok-try_clone+in_ok-push, in-Some+else-is_wanted, in_default}

pub loop-index-preserved : goal.loop-index-preserved
loop-index-preserved c =
    let whole = columns c.args.schema.now in
    let keys = c.args.keys.now.keys in
    let types = map ty c.args.types.now in
    let done = c.loop-index.names.items in
    let within : c.loop-index.index < length whole = omega (arith, c.len-index-end.ensures) in
    elim c.match-get_at_index.branch [
      | in-Some+then-is_wanted+in_ok-try_clone+in_ok-push w ↦ rw w.names-is (wanted_at keys types done _ whole c.loop-index.index _ _ (sym w.in-Some.ensures) (w.in_ok-push.ensures.items ∙ ap (λ name. done ++ name ∷ []) w.in_ok-try_clone.ensures.ok ∙ sym (cond-true _ _ _ (sym w.is_wanted.ensures ∙ w.if-is_wanted.true))) c.loop-index.invariant)
      | in-Some+else-is_wanted w ↦ rw w.names-is (wanted_at keys types done _ whole c.loop-index.index _ _ (sym w.in-Some.ensures) (sym (cond-false _ _ _ (sym w.is_wanted.ensures ∙ w.if-is_wanted.false))) c.loop-index.invariant)
      | in_default w ↦ absurd (column_there whole c.loop-index.index within (sym w.in_default.ensures))
    ]
