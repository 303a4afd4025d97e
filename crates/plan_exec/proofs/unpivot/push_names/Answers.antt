use Rattle.std.proofs.Common.{◌<◌, ap, arith, get_or, length, map, refl}
use Rattle.plan_types.specs.FrameFaults.{vals_of}
use Rattle.plan_types.specs.Values.{NullValue, TextValue}
use Rattle.plan_types.specs.ValueViews.{val_of}
use Rattle.plan_types.specs.declared.value.Value.TheVariants.{Text}
use Rattle.plan_exec.proofs.UnpivotCallLemmas.{value_more}
use Rattle.plan_exec.proofs.unpivot.push_names.Goals as goal

pub loop-preserved : goal.loop-preserved
loop-preserved c =
    let values = vals_of c.args.column.now.values in
    let row = c.loop.counter in
    let within : row < length values = omega (arith, c.loop-test.true, c.len-end.ensures) in
    let value = get_or values row NullValue in
    value_more (λ value. TextValue c.args.column.now.name) values (map val_of c.args.names.now.items) c.loop.names.items c.push.new.self.items row value NullValue (Text c.in_ok-own.own) within refl c.loop.invariant c.in_ok-push.ensures.items (ap TextValue c.in_ok-own.ensures.ok)
