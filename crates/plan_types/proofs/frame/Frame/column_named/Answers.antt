use Rattle.std.proofs.Common.{◌≡◌, rules, sym, ◌∙◌}
use Rattle.plan_types.specs.FrameViews.{columns_of}
use Rattle.plan_types.proofs.FrameRowLemmas.{column_at, column_height, named_values, other_passed}
use Rattle.plan_types.proofs.frame.Frame.column_named.Goals as goal

pub returns-then-eq-clause-height : goal.returns-then-eq-clause-height
returns-then-eq-clause-height c =
    let at = column_at c.as_slice-column-items.result.now (columns_of c.args.self.now) c.loop-column.column-index c.column-item.result c.as_slice-column-items.ensures.value c.loop-column-test.true c.column-item.is in
    column_height (columns_of c.args.self.now) c.loop-column.column-index c.column-item.result c.args.self.now.sound at

pub returns-then-eq-clause-values : goal.returns-then-eq-clause-values
returns-then-eq-clause-values c =
    let at = column_at c.as_slice-column-items.result.now (columns_of c.args.self.now) c.loop-column.column-index c.column-item.result c.as_slice-column-items.ensures.value c.loop-column-test.true c.column-item.is in
    let same : c.column-item.result.name ≡ c.args.name.now = search rules in
    named_values (columns_of c.args.self.now) c.loop-column.column-index c.column-item.result c.args.name.now c.args.self.now.sound at same

pub loop-column-preserved : goal.loop-column-preserved
loop-column-preserved c =
    c.loop-column.invariant ∙ other_passed c.as_slice-column-items.result.now c.loop-column.column-index c.column-item.result c.args.name.now c.loop-column-test.true c.column-item.is (sym c.eq.ensures ∙ c.if-eq.false)
