use Rattle.std.proofs.Common.{◌≡◌, List, map, take}
use Rattle.plan_dsl.specs.Ops.{Expression}
use Rattle.plan_dsl.specs.Plans.{Named}
use Rattle.plan_arena.specs.Items.{named_node, DenoteNamed}
use Rattle.plan_dsl.specs.Counts.{outputs_casts}
use Rattle.plan_report.proofs.casts.outputs_casts.Given as goal

abbrev pub invariant-loop-output : goal.invariant-loop-output
invariant-loop-output l = (es : List (Named Expression)) → DenoteNamed l.arena (map named_node l.outputs) es → l.count ≡ outputs_casts (take l.output-index es)
