use Rattle.std.proofs.Common.{get_or, pos, Ok, SFits, w64, rules, sym, ap, ◌∙◌}
use Rattle.std.proofs.lemmas.Int.{to_z-of_z}
use Rattle.plan_types.specs.Errors.{broken}
use Rattle.plan_types.specs.Schemas.{columns, names_of}
use Rattle.plan_types.specs.declared.error.ErrorKind.TheVariants.{ColumnNotFound}
use Rattle.plan_dsl.specs.Markers.{name_at}
use Rattle.plan_expand.proofs.EachLemmas.{each_more, each_refused_at}
use Rattle.plan_expand.proofs.markers.names_at.Goals as goal

pub returns-in_default-clause-err : goal.returns-in_default-clause-err
returns-in_default-clause-err c =
    let named = name_at (names_of (columns c.args.schema.now)) in
    let place = get_or c.args.places.now c.loop-place.place-index (pos 0) in
    let fits : SFits w64 place = search rules in
    let none = sym (ap named (to_z-of_z w64 place fits)) ∙ sym c.in_default.ensures in
    each_refused_at named c.loop-place.names.items c.args.places.now c.loop-place.place-index (pos 0) c.at_top.result _ c.loop-place-test.true c.loop-place.invariant (broken ColumnNotFound c.at_top.ensures none)

pub loop-place-preserved : goal.loop-place-preserved
loop-place-preserved c =
    let named = name_at (names_of (columns c.args.schema.now)) in
    let place = get_or c.args.places.now c.loop-place.place-index (pos 0) in
    let fits : SFits w64 place = search rules in
    let found = sym (ap named (to_z-of_z w64 place fits)) ∙ sym c.in-Some.ensures ∙ ap Ok (sym c.in_ok-try_clone.ensures.ok) in
    each_more named c.loop-place.names.items c.push.new.self.items c.args.places.now c.loop-place.place-index (pos 0) c.in_ok-try_clone.field-0 _ c.loop-place-test.true found c.in_ok-push.ensures.items c.loop-place.invariant
