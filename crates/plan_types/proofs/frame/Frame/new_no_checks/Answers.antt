use Rattle.std.proofs.Common.{ap, is_none}
use Rattle.plan_types.proofs.frame.Frame.new_no_checks.Goals as goal

pub invariant_of-result : goal.invariant_of-result
invariant_of-result c = record { sound = ap is_none c.requires }
