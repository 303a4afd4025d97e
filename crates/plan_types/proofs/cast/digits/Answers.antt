use Rattle.std.proofs.Common.{◌∙◌, ap}
use Rattle.std.specs.Int.{w128}
use Rattle.std.specs.Fmt.{signed_decimal}
use Rattle.std.proofs.lemmas.Int.{to_z-of_z}
use Rattle.plan_types.proofs.DigitLemmas.{written}
use Rattle.plan_types.proofs.cast.digits.Goals as goal

pub returns-clause-ok : goal.returns-clause-ok
returns-clause-ok c =
    let is = c.as_str.ensures.value ∙ c.in_ok-text.ensures.ok ∙ ap signed_decimal (to_z-of_z w128 c.args.number c.ranges.number) in
    rw (← written _ c.args.number c.ranges.number is) c.new.ensures.ok
