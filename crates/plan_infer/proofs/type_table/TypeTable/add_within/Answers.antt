use Rattle.std.proofs.Common.{◌≡◌, ◌≤◌, ◌+◌, ◌-◌, Some, inl, refl, ap, ◌∙◌, arith}
use Rattle.std.specs.Vec.{with_item}
use Rattle.plan_infer.specs.KeptTypes.{IsKept}
use Rattle.plan_infer.specs.declared.type_table.TypeTable.{TypeTable}
use Rattle.plan_infer.proofs.TableLemmas.{empty_there, keeps_then, others_unwritten, some_written, type_written, written_only, written_stays}
use Rattle.plan_infer.proofs.type_table.TypeTable.add_within.Goals as goal

pub returns-in_err-start_at-clause-stays : goal.returns-in_err-start_at-clause-stays
returns-in_err-start_at-clause-stays c = λ n other k. (c.in_err-start_at.ensures.kept n other).0 k

pub returns-in_err-start_at-clause-only : goal.returns-in_err-start_at-clause-only
returns-in_err-start_at-clause-only c = λ n other k. inl ((c.in_err-start_at.ensures.kept n other).1 k)

pub returns-in_err-make_room-clause-stays : goal.returns-in_err-make_room-clause-stays
returns-in_err-make_room-clause-stays c = λ n other k. (c.in_err-make_room.ensures.kept n other).0 ((c.in_ok-start_at.ensures.kept n other).0 k)

pub returns-in_err-make_room-clause-only : goal.returns-in_err-make_room-clause-only
returns-in_err-make_room-clause-only c = λ n other k. inl ((c.in_ok-start_at.ensures.kept n other).1 ((c.in_err-make_room.ensures.kept n other).1 k))

pub returns-clause-kept : goal.returns-clause-kept
returns-clause-kept c =
    let mid = c.make_room.new.self in
    let index = c.args.node.0 - c.start_at.new.self.first in
    let new : TypeTable = record { first = mid.first; entries = with_item mid.entries index (Some c.args.own) } in
    let first = c.in_ok-make_room.ensures.first in
    record { own = c.args.own; keeps = type_written mid new c.args.node.0 index c.args.own (omega (arith, first, c.in_ok-start_at.ensures.first)) (omega (arith, first)) refl refl c.in_ok-make_room.ensures.room }

pub returns-clause-stays : goal.returns-clause-stays
returns-clause-stays c =
    let mid = c.make_room.new.self in
    let index = c.args.node.0 - c.start_at.new.self.first in
    let new : TypeTable = record { first = mid.first; entries = with_item mid.entries index (Some c.args.own) } in
    let first = c.in_ok-make_room.ensures.first in
    let none = c.requires in
    let same = keeps_then c.args.self.now c.start_at.new.self mid c.in_ok-start_at.ensures.kept c.in_ok-make_room.ensures.kept in
    let others = others_unwritten mid new c.args.node.0 index c.args.own (omega (arith, first, c.in_ok-start_at.ensures.first)) (omega (arith, first)) refl refl in
    written_stays c.args.self.now mid new c.args.node.0 c.args.own none same others

pub returns-clause-only : goal.returns-clause-only
returns-clause-only c =
    let mid = c.make_room.new.self in
    let index = c.args.node.0 - c.start_at.new.self.first in
    let new : TypeTable = record { first = mid.first; entries = with_item mid.entries index (Some c.args.own) } in
    let first = c.in_ok-make_room.ensures.first in
    let none = c.requires in
    let same = keeps_then c.args.self.now c.start_at.new.self mid c.in_ok-start_at.ensures.kept c.in_ok-make_room.ensures.kept in
    let le : mid.first ≤ c.args.node.0 = omega (arith, first, c.in_ok-start_at.ensures.first) in
    let place : index ≡ c.args.node.0 - mid.first = omega (arith, first) in
    let others = others_unwritten mid new c.args.node.0 index c.args.own le place refl refl in
    written_only c.args.self.now mid new c.args.node.0 c.args.own none same others (type_written mid new c.args.node.0 index c.args.own le place refl refl c.in_ok-make_room.ensures.room)

pub returns-clause-count : goal.returns-clause-count
returns-clause-count c =
    let none = c.requires in
    let mid = c.make_room.new.self in
    let index = c.args.node.0 - c.start_at.new.self.first in
    let first = c.in_ok-make_room.ensures.first in
    let same = keeps_then c.args.self.now c.start_at.new.self mid c.in_ok-start_at.ensures.kept c.in_ok-make_room.ensures.kept in
    let still : ¬ (IsKept mid c.args.node.0) = λ k. none (record { own = k.own; keeps = (same c.args.node.0 k.own).1 k.keeps }) in
    let le : mid.first ≤ c.args.node.0 = omega (arith, first, c.in_ok-start_at.ensures.first) in
    let empty = empty_there mid c.args.node.0 index still le (omega (arith, first)) c.in_ok-make_room.ensures.room in
    some_written mid.entries.items index c.args.own empty ∙ ap (λ n. n + 1) (c.in_ok-make_room.ensures.count ∙ c.in_ok-start_at.ensures.count)
