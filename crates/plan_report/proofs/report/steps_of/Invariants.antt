use Rattle.std.proofs.Common.{◌≡◌, take}
use Rattle.plan_report.proofs.report.steps_of.Given as goal

abbrev pub invariant-loop-number : goal.invariant-loop-number
invariant-loop-number l = l.steps.items ≡ take l.number l.place
