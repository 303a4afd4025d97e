use Rattle.checks.proofs.lowering.answer.Goals as goal

pub report-requires : goal.report-requires
report-requires c = record { tree = c.in-Ok.ensures.typed.tree; denotes = c.in-Ok.ensures.typed.denotes }
