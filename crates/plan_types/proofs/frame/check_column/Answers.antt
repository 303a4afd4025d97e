use Rattle.std.proofs.Common.{◌≡◌, Some, false, true, inr, rules, sym, ap, ◌∙◌}
use Rattle.plan_types.specs.Types.{ty}
use Rattle.plan_types.specs.FrameFaults.{vals_of}
use Rattle.plan_types.specs.ValueViews.{val_of}
use Rattle.plan_types.specs.declared.frame.FrameError.TheVariants.{Misfit}
use Rattle.plan_types.proofs.FrameCallLemmas.{met_value}
use Rattle.plan_types.proofs.frame.check_column.Goals as goal

pub returns-then-not-fits-clause-err : goal.returns-then-not-fits-clause-err
returns-then-not-fits-clause-err c =
    let column = c.args.column.now in
    let found = met_value c.loop-row.row column.name (ty column.dtype) (vals_of column.values) (val_of c.value_at.result.now) false c.value_at.ensures (search rules) in
    let same : c.in_ok-name.name ≡ column.name = search rules in
    inr (c.loop-row.invariant ∙ found ∙ ap (λ name. Some (Misfit name c.loop-row.row)) (sym same))

pub loop-row-preserved : goal.loop-row-preserved
loop-row-preserved c =
    let column = c.args.column.now in
    c.loop-row.invariant ∙ met_value c.loop-row.row column.name (ty column.dtype) (vals_of column.values) (val_of c.value_at.result.now) true c.value_at.ensures (search rules)
