use Rattle.plan_report.proofs.NodeLemmas.{first_outputs, later_outputs}
use Rattle.plan_report.proofs.CastLemmas.{parts_counted}
use Rattle.plan_report.proofs.casts.item_casts.Goals as goal

pub outputs_casts-requires : goal.outputs_casts-requires
outputs_casts-requires c = first_outputs c.args.arena.now _ _ _ c.expressions.ensures.all c.requires

pub outputs_casts-requires-2 : goal.outputs_casts-requires-2
outputs_casts-requires-2 c = later_outputs c.args.arena.now _ _ _ c.expressions.ensures.all c.requires

pub returns : goal.returns
returns c =
    parts_counted c.args.arena.now _ _ _ c.in_ok-first.first c.in_ok-later.later c.in_ok-count.count c.expressions.ensures.all c.in_ok-first.ensures c.in_ok-later.ensures c.in_ok-count.ensures
