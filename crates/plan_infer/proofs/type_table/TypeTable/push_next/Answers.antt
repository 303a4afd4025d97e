use Rattle.std.proofs.Common.{◌+◌, length, refl, ap, ◌∙◌}
use Rattle.plan_infer.specs.KeptTypes.{some_count}
use Rattle.plan_infer.specs.declared.type_table.TypeTable.{TypeTable}
use Rattle.plan_infer.proofs.TableLemmas.{next_kept, next_only, next_stays, some_behind}
use Rattle.plan_infer.proofs.type_table.TypeTable.push_next.Goals as goal

pub returns-clause-kept : goal.returns-clause-kept
returns-clause-kept c =
    let old = c.args.self.now in
    let new : TypeTable = record { first = old.first; entries = c.push_reserved.new.self } in
    record { own = c.args.own; keeps = next_kept old new (old.first + length old.entries.items) c.args.own refl refl (rw c.in_ok-reserve.ensures.items at c.push_reserved.ensures.items) }

pub returns-clause-stays : goal.returns-clause-stays
returns-clause-stays c =
    let old = c.args.self.now in
    let new : TypeTable = record { first = old.first; entries = c.push_reserved.new.self } in
    next_stays old new (old.first + length old.entries.items) c.args.own refl refl (rw c.in_ok-reserve.ensures.items at c.push_reserved.ensures.items)

pub returns-clause-only : goal.returns-clause-only
returns-clause-only c =
    let old = c.args.self.now in
    let new : TypeTable = record { first = old.first; entries = c.push_reserved.new.self } in
    next_only old new (old.first + length old.entries.items) c.args.own refl refl (rw c.in_ok-reserve.ensures.items at c.push_reserved.ensures.items)

pub returns-clause-count : goal.returns-clause-count
returns-clause-count c = ap some_count (rw c.in_ok-reserve.ensures.items at c.push_reserved.ensures.items) ∙ some_behind c.args.self.now.entries.items c.args.own
