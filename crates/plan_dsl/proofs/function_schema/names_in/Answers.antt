use Rattle.std.proofs.Common.{◌≤◌, length, refl, arith}
use Rattle.plan_dsl.proofs.FunctionSchemaLemmas.{set_more, set_end}
use Rattle.plan_dsl.proofs.function_schema.names_in.Goals as goal

pub loop-name-preserved : goal.loop-name-preserved
loop-name-preserved c =
    set_more c.loop-name.set.keys c.insert.new.self.keys _ c.args.names.now c.loop-name.name-index c.name-item.result c.loop-name-test.true c.name-item.is refl c.in_ok-insert.ensures.keys c.loop-name.invariant

pub returns-clause-ok : goal.returns-clause-ok
returns-clause-ok c =
    let past : length c.args.names.now ≤ c.loop-name.name-index = omega (arith, c.loop-name-test.false) in
    set_end c.loop-name.set.keys c.args.names.now c.loop-name.name-index past c.loop-name.invariant
