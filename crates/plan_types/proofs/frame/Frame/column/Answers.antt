use Rattle.std.proofs.Common.{Some, sym, ap, ◌∙◌}
use Rattle.std.proofs.lemmas.Option.{slice_get-get_or}
use Rattle.plan_types.specs.FrameViews.{columns_of}
use Rattle.plan_types.proofs.FrameRowLemmas.{column_head, column_height, column_values}
use Rattle.plan_types.proofs.frame.Frame.column.Goals as goal

pub returns-clause-head : goal.returns-clause-head
returns-clause-head c =
    let columns = columns_of c.args.self.now in
    column_head columns c.args.index c.index.result.now (slice_get-get_or columns c.args.index c.index.result.now c.requires ∙ ap Some (sym c.index.ensures))

pub returns-clause-height : goal.returns-clause-height
returns-clause-height c =
    let columns = columns_of c.args.self.now in
    column_height columns c.args.index c.index.result.now c.args.self.now.sound (slice_get-get_or columns c.args.index c.index.result.now c.requires ∙ ap Some (sym c.index.ensures))

pub returns-clause-values : goal.returns-clause-values
returns-clause-values c =
    let columns = columns_of c.args.self.now in
    column_values columns c.args.index c.index.result.now c.args.self.now.sound (slice_get-get_or columns c.args.index c.index.result.now c.requires ∙ ap Some (sym c.index.ensures))
