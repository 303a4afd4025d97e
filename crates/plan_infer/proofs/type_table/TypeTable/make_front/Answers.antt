use Rattle.std.proofs.Common.{ap, ◌∙◌}
use Rattle.plan_infer.specs.KeptTypes.{some_count}
use Rattle.plan_infer.proofs.TableLemmas.{none_in_front}
use Rattle.plan_infer.proofs.type_table.TypeTable.make_front.Goals as goal

pub returns-clause-count : goal.returns-clause-count
returns-clause-count c =
    ap some_count c.in_ok-append.ensures.items ∙ none_in_front c.loop-place.entries.items c.args.self.now.entries.items c.loop-place.invariant.none
