use Rattle.std.proofs.Common.{◌<◌, ◌≤◌, length, arith}
use Rattle.plan_dsl.proofs.FunctionTypeLemmas.{names_ended, names_step}
use Rattle.plan_dsl.proofs.function_schema.new_names.Goals as goal

pub loop-place-preserved : goal.loop-place-preserved
loop-place-preserved c =
    let existing = c.args.existing.now in
    let new = c.args.new.now in
    let i = c.loop-place.place in
    let within : i < length existing = omega (arith, c.loop-place-test.true, c.loop-place.auto.place-end) in
    let also : i < length new = omega (arith, within, c.requires) in
    names_step existing new i c.loop-place.names.entries c.insert.new.self.entries _ _ within also c.index-existing-place.is c.index-new-place.is c.in_ok-insert.ensures.updates.0 c.loop-place.invariant

pub returns-clause-ok : goal.returns-clause-ok
returns-clause-ok c =
    let past : length c.args.existing.now ≤ c.loop-place.place = omega (arith, c.loop-place-test.false, c.loop-place.auto.place-end) in
    names_ended c.args.existing.now c.args.new.now c.loop-place.place c.loop-place.names.entries past c.loop-place.invariant
