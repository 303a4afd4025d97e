use Rattle.std.proofs.Common.{◌≡◌, [], Some, inr, refl, rules, sym, ap, ◌∙◌}
use Rattle.plan_types.specs.FrameFaults.{repeated_name}
use Rattle.plan_types.specs.declared.frame.FrameError.TheVariants.{Duplicate}
use Rattle.plan_types.proofs.FrameCallLemmas.{met_again, met_first}
use Rattle.plan_types.proofs.frame.check_names.Goals as goal

pub returns-then-not-new-clause-err : goal.returns-then-not-new-clause-err
returns-then-not-new-clause-err c =
    let found = met_again (repeated_name [] c.args.columns.now) c.loop-column.seen.keys c.args.columns.now c.loop-column.column-index c.column-item.result c.in-Ok.new c.loop-column-test.true c.column-item.is c.in-Ok.ensures.added c.if-not-new.true c.loop-column.invariant in
    let same : c.in_ok-name.name ≡ c.column-item.result.name = search rules in
    inr (found ∙ ap (λ name. Some (Duplicate name)) (sym same))

pub loop-column-preserved : goal.loop-column-preserved
loop-column-preserved c =
    met_first (repeated_name [] c.args.columns.now) c.loop-column.seen.keys c.insert.new.self.keys c.args.columns.now c.loop-column.column-index c.column-item.result _ c.in-Ok.new refl c.loop-column-test.true c.column-item.is c.in-Ok.ensures.added c.if-not-new.false c.in-Ok.ensures.keys c.loop-column.invariant
