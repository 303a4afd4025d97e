use Rattle.std.proofs.Common.{◌≤◌, ◌∙◌, arith}
use Rattle.plan_types.specs.Types.{ty, width_of}
use Rattle.plan_types.proofs.SupertypeLemmas.{none_above}
use Rattle.plan_types.proofs.supertype.signed_upcast.Goals as goal

pub returns-else-width-eq32 : goal.returns-else-width-eq32
returns-else-width-eq32 c =
    let width = c.width-width.ensures in
    let within : width_of (ty c.args.signed.now) ≤ width_of (ty c.args.unsigned.now) = omega (arith, c.width.ensures, width, c.if-width.false) in
    none_above (width_of (ty c.args.signed.now)) c.args.unsigned.now c.requires.integer within (λ e. c.if-width-eq8.false (width ∙ e)) (λ e. c.if-width-eq16.false (width ∙ e)) (λ e. c.if-width-eq32.false (width ∙ e))
