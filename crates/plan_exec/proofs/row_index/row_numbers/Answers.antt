use Rattle.std.proofs.Common.{ap, ◌∙◌, arith}
use mir.Val.{of_z, to_z}
use Rattle.std.specs.Int.{w128}
use Rattle.plan_exec.proofs.RowNumberLemmas.{next_number, number_kept, number_put}
use Rattle.plan_exec.proofs.row_index.row_numbers.Goals as goal

pub loop-preserved : goal.loop-preserved
loop-preserved c =
    let number = ap (λ z. to_z w128 (of_z w128 z)) c.from.ensures ∙ number_kept c.loop.number (omega (arith, c.loop.auto.number-fits)) in
    (number_put c.args.first c.loop.counter c.loop.number c.loop.values.items _ _ c.in_ok-push.ensures.items number c.loop.invariant.0 c.loop.invariant.1, next_number c.args.first c.loop.counter c.loop.number c.loop.invariant.1)
