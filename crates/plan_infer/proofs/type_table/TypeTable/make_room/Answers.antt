use Rattle.std.proofs.Common.{refl, ap, ◌∙◌}
use Rattle.plan_infer.proofs.TableLemmas.{none_behind, place_added, places_same, keeps_then}
use Rattle.plan_infer.specs.KeptTypes.{some_count}
use Rattle.plan_infer.specs.declared.type_table.TypeTable.{TypeTable}
use Rattle.plan_infer.proofs.type_table.TypeTable.make_room.Goals as goal

pub loop-self-preserved : goal.loop-self-preserved
loop-self-preserved c =
    let new : TypeTable = record { first = c.loop-self.self.first; entries = c.push.new.self } in
    record {
      first = c.loop-self.invariant.first;
      kept = keeps_then c.args.self.now c.loop-self.self new c.loop-self.invariant.kept (place_added c.loop-self.self new refl c.in_ok-push.ensures.items);
      count = ap some_count c.in_ok-push.ensures.items ∙ none_behind c.loop-self.self.entries.items ∙ c.loop-self.invariant.count;
    }

pub returns-in_err-push-clause-kept : goal.returns-in_err-push-clause-kept
returns-in_err-push-clause-kept c =
    let new : TypeTable = record { first = c.loop-self.self.first; entries = c.push.new.self } in
    keeps_then c.args.self.now c.loop-self.self new c.loop-self.invariant.kept (places_same c.loop-self.self new refl c.in_err-push.ensures.items)
