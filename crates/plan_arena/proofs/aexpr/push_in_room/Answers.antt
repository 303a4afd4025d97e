use Rattle.std.proofs.Common.{length, ap, ◌∙◌, arith}
use Rattle.std.proofs.lemmas.List.{length_push}
use Rattle.plan_arena.proofs.InputLemmas.{one_more}
use Rattle.plan_arena.proofs.aexpr.push_in_room.Goals as goal

pub loop-left-preserved : goal.loop-left-preserved
loop-left-preserved c =
    let before = c.loop-left.invariant in
    let longer = ap length c.push_reserved.ensures.items ∙ length_push c.loop-left.nodes.items c.at.result in
    record {
      appended = one_more _ _ _ _ c.loop-left.left _ c.at.result (omega (arith, c.loop-left-test.true)) c.at.ensures c.push_reserved.ensures.items before.appended;
      within = omega (arith, before.within);
      room = omega (arith, before.room, longer, c.push_reserved.ensures.capacity, c.loop-left-test.true);
    }
